-- What the requests of a world are answered (Delta Sharing PROTOCOL.md, "REST APIs").
use Rattle.std.specs.Prelude.{◌≡◌, ℕ, List, Option, Some, None, Bool, true, filter, map}
use Rattle.case_table.specs.Refusals.{refusal_row}
use Rattle.case_table.specs.declared.refuse.Refusal.TheVariants as refusal
use Rattle.share_lines.specs.Errors.{error_body}
use Rattle.share_reply.specs.Answer.{Answer}
use Rattle.share_reply.specs.Bodies.{reply_of}
use Rattle.share_reply.specs.Formats.{body_of, format_of}
use Rattle.share_reply.specs.Refusing.{Refused, plain}
use Rattle.share_reply.specs.Replies.{answered}
use Rattle.share_reply.specs.declared.keys.ReplyKeys.{ReplyKeys}
use Rattle.share_reply.specs.declared.plan.Plan.{Plan}
use Rattle.share_reply.specs.declared.plan.Plan.TheVariants as plan
use Rattle.share_core.specs.Asks.{Asked, asks_of, is_of}
use Rattle.share_world.specs.declared.event.Event.{Event}
use Rattle.share_core.specs.declared.reply.Body.TheVariants as body
use Rattle.share_core.specs.declared.reply.Reply.{Reply}

-- a refusal, by the table of refusals
abbrev pub refusal_reply : Refused → Reply
refusal_reply r = record { status = (refusal_row r.refusal).status; version = None; allow = None; body = body.Json (error_body r.refusal r.detail) }

-- What is sent of a plan. Of a file, whose size no view shows, that it is given: whether a part of it is a 206 or a 416 depends on the size.
abbrev pub sent : Plan → Reply
sent (plan.Refused r) = refusal_reply r
sent (plan.Only allowed) = record (refusal_reply (plain refusal.MethodNotAllowed)) { allow = Some allowed }
sent (plan.Json text) = record { status = 200; version = None; allow = None; body = body.Json text }
sent (plan.Version v) = record { status = 200; version = Some v; allow = None; body = body.Empty }
sent (plan.Lines v format texts) = record { status = 200; version = Some v; allow = None; body = body.Lines format (body_of texts) }
sent (plan.File name span) = record { status = 200; version = None; allow = None; body = body.File name span }

abbrev pub answer_of : ReplyKeys → Asked → Answer
answer_of keys a = answered keys a.view a.moment a.request

-- the reply to a request: a function of the keys, its view, its moment and what it asks, in the format that it asks for
abbrev pub reply_to : ReplyKeys → Asked → Reply
reply_to keys a = sent (reply_of keys (format_of a.request) (answer_of keys a))

-- the replies to all requests, in order
abbrev pub replies_of : ReplyKeys → List Event → List Reply
replies_of keys events = map (reply_to keys) (asks_of keys events)

-- a recipient's requests
abbrev pub asks_by : ReplyKeys → List ℕ → List Event → List Asked
asks_by keys recipient events = filter (is_of recipient) (asks_of keys events)

-- the replies to them
abbrev pub replies_to : ReplyKeys → List ℕ → List Event → List Reply
replies_to keys recipient events = map (reply_to keys) (asks_by keys recipient events)

-- Two worlds in which a recipient asks the same, at the same moments and of the same views, answer it alike, links and tokens included.
abbrev pub WorldsAnswerAlike : Type 0
WorldsAnswerAlike = (keys : ReplyKeys) (recipient : List ℕ) (a b : List Event) → asks_by keys recipient a ≡ asks_by keys recipient b → replies_to keys recipient a ≡ replies_to keys recipient b

-- ---- for the code

-- it is that recipient's, where one is given
abbrev pub is_chosen : Option (List ℕ) → Asked → Bool
is_chosen None a = true
is_chosen (Some recipient) a = is_of recipient a

-- the replies to the requests that are chosen
abbrev pub chosen_replies : ReplyKeys → Option (List ℕ) → List Asked → List Reply
chosen_replies keys recipient asks = map (reply_to keys) (filter (is_chosen recipient) asks)
