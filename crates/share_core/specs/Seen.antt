-- Whose a request is and what it is answered, by what is found for it in whole logs. No statement to the outside cites it.
use Rattle.std.specs.Prelude.{ℕ, List, Bool, true, false, Option, Some, None, bytes_eq, option_map, if◌then◌else◌}
use Rattle.share_book.specs.Shown.{show}
use Rattle.share_book.specs.declared.look.Seen.{Seen}
use Rattle.share_reply.specs.Bodies.{reply_of}
use Rattle.share_reply.specs.Formats.{format_of}
use Rattle.share_reply.specs.Replies.{answer_from}
use Rattle.share_reply.specs.declared.keys.ReplyKeys.{ReplyKeys}
use Rattle.share_request.specs.declared.asked.Request.{Request}
use Rattle.share_core.specs.Answers.{sent}
use Rattle.share_core.specs.declared.reply.Reply.{Reply}

-- it is that recipient's
abbrev pub is_seen_by : List ℕ → Option Seen → Bool
is_seen_by recipient None = false
is_seen_by recipient (Some seen) = bytes_eq seen.recipient recipient

-- the same, where one is given
abbrev pub is_chosen_by : Option (List ℕ) → Option Seen → Bool
is_chosen_by None seen = true
is_chosen_by (Some recipient) seen = is_seen_by recipient seen

-- the reply by what was found, as it is shown, where that is the recipient's
abbrev pub chosen_reply : ReplyKeys → Option (List ℕ) → Request → ℕ → Option Seen → Option Reply
chosen_reply keys recipient request now seen = if is_chosen_by recipient seen then Some (sent (reply_of keys (format_of request) (answer_from keys now request (option_map show seen)))) else None
