-- What the turns of a session give.
use Rattle.std.proofs.Common.{◌≡◌, ◌⊎◌, inl, inr, ℕ, ◌+◌, ◌-◌, List, [], length, take, Option, Some, None, Ok, IfSome, refl, sym, ap, ◌∙◌, subst}
use Rattle.std.proofs.Math.Seq.{drop-nil, take-nil}
use Rattle.std.specs.FinMap as maps
use Rattle.edge_core.specs.Objects.{Objects}
use Rattle.file_ranges.specs.Picks.{HasAsked, asked, pick}
use Rattle.file_ranges.specs.declared.pick.Picked.{Picked}
use Rattle.file_ranges.specs.declared.pick.Picked.TheVariants as picked
use Rattle.file_ranges.specs.declared.span.Span.{Span}
use Rattle.file_ranges.specs.declared.span.Span.TheVariants as span_is
use Rattle.share_reply.specs.Answer.{Answer, object}
use Rattle.share_reply.specs.Bodies.{reply_of}
use Rattle.share_reply.specs.Formats.{format_of}
use Rattle.share_reply.specs.Replies.{answered_at}
use Rattle.share_reply.specs.declared.plan.Plan.{Plan}
use Rattle.share_reply.specs.declared.plan.Plan.TheVariants as plan
use Rattle.share_serve.specs.Callers.{by_party, by_request}
use Rattle.share_serve.specs.Callers as by
use Rattle.share_serve.specs.Entitled.{ObjectsAreGiven, PartsAreGiven, TurnsAreGiven, TurnsGiveTheDefined, request_for}
use Rattle.share_serve.specs.Laws.{answer_at, request_of}
use Rattle.share_serve.specs.Responses.{object_response, out_response, picked_response, response_of}
use Rattle.share_serve.specs.Turns.{ObjectIs, ReplyIs, Shelf}
use Rattle.share_serve.specs.WholeSessions.{Stays}
use Rattle.share_serve.specs.declared.caller.Party.{Party}
use Rattle.share_serve.specs.declared.response.Response.{Response}
use Rattle.share_serve.proofs.GivenChanges.{links_are_given}
use Rattle.share_serve.proofs.WholeBytes.{none_rose}
use Rattle.share_serve.proofs.Worlds.{same_some, turn_reply}

-- a reply that doesn't wait for the store is its response
reply_given : (p : Plan) (x r : Response) (old new : Shelf) → ReplyIs p x old new → response_of p ≡ Some r → x ≡ r
reply_given (plan.Refused why) x r old new is e = same_some x r (sym is.0 ∙ e)
reply_given (plan.Only m) x r old new is e = same_some x r (sym is.0 ∙ e)
reply_given (plan.Json text) x r old new is e = same_some x r (sym is.0 ∙ e)
reply_given (plan.Version v) x r old new is e = same_some x r (sym is.0 ∙ e)
reply_given (plan.Lines v f lines) x r old new is e = same_some x r (sym is.0 ∙ e)
reply_given (plan.File name span) x r old new is e = absurd cc

pub turns_give : TurnsGiveTheDefined
turns_give server old new t r serves view is =
    reply_given (reply_of server.keys (format_of (request_of t)) (answer_at server t)) t.response r old.side.hold.shelf new.side.hold.shelf
    (turn_reply server old t new view serves.responds.point serves.responds.answers) is

pub turns_are_given : TurnsAreGiven
turns_are_given server old new t a w version serves asks recipient keys point now given =
    let view : by_request server (request_of t) ≡ by.view = ap (by_request server) asks ∙ ap (λ (p : Party). by_party p server (record { digest = a.digest; route = a.route; format = a.format; asked = Ok w })) recipient in
    let back = sym asks in
    let same : response_of (reply_of server.keys (format_of (request_of t)) (answer_at server t)) ≡ response_of (reply_of a.keys a.format (answered_at a.keys a.point a.now (request_for a w))) =
    sym (λ i. response_of (reply_of (keys i) (format_of (back i)) (answered_at (keys i) (point i) (now i) (back i)))) in
    ap (λ (r : Response). r.status) (turns_give server old new t given.0 serves view (same ∙ given.1)) ∙ given.2

held : (o : Option Objects) (objects : Objects) (P : Objects → Type 0) → o ≡ Some objects → IfSome o P → P objects
held None objects P e p = absurd cc
held (Some os) objects P e p = subst P (same_some os objects e) p

same_bytes : (o : Option (List ℕ)) (x y : List ℕ) → o ≡ Some x → o ≡ Some y → x ≡ y
same_bytes o x y e f = same_some x y (sym e ∙ f)

lacked : (o : Option (List ℕ)) (y : List ℕ) (P : Type 0) → o ≡ None → o ≡ Some y → P
lacked o y P e f = absurd cc

object_given : (name : List ℕ) (span : Option Span) (r : Response) (old new : Shelf) (objects : Objects) (bytes : List ℕ)
    → ObjectIs name span r old new → new.objects ≡ Some objects → maps.get objects name ≡ Some bytes → Stays old.faults new.faults → r ≡ object_response span bytes
object_given name span r old new objects bytes (looks, inl given) tells has stays =
    given.1 ∙ ap (object_response span) (same_bytes (maps.get objects name) given.0 bytes (held new.objects objects (λ os. maps.get os name ≡ Some given.0) tells given.2) has)
object_given name span r old new objects bytes (looks, inr (inl gone)) tells has stays =
    lacked (maps.get objects name) bytes (r ≡ object_response span bytes) (held new.objects objects (λ os. maps.get os name ≡ None) tells gone.1) has
object_given name span r old new objects bytes (looks, inr (inr failed)) tells has stays = absurd (none_rose old.faults new.faults stays failed.1)

pub objects_are_given : ObjectsAreGiven
objects_are_given server old new t r bytes g =
    let so : answer_at server t ≡ object g.name r.span = ap (answered_at server.keys t.point t.moment) g.asks ∙ links_are_given server.keys t.point t.moment r g.name g.is_link in
    let reply = turn_reply server old t new (ap (by_request server) g.asks) g.serves.responds.point g.serves.responds.answers in
    object_given g.name r.span t.response old.side.hold.shelf new.side.hold.shelf g.objects bytes
    (subst (λ (x : Answer). ReplyIs (reply_of server.keys (format_of (request_of t)) x) t.response old.side.hold.shelf new.side.hold.shelf) so reply) g.told g.has g.stays

-- of no bytes none are asked for
none_asked : (span : Span) → asked span [] ≡ []
none_asked (span_is.FromTo a b) = ap (take (b + 1 - a)) (drop-nil a) ∙ take-nil (b + 1 - a)
none_asked (span_is.From a) = drop-nil a
none_asked (span_is.Last n) = drop-nil (0 - n)

asked_of_none : (span : Span) (bytes : List ℕ) → bytes ≡ [] → asked span bytes ≡ []
asked_of_none span bytes none = ap (asked span) none ∙ none_asked span

-- what is picked has the bytes that are asked for
picked_asked : (span : Span) (bytes : List ℕ) (p : Picked) → HasAsked span bytes p
    → ((picked_response p bytes).body ≡ asked span bytes) ⊎ ((asked span bytes ≡ []) × (picked_response p bytes ≡ out_response (length bytes)))
picked_asked span bytes picked.Whole has = inl (has ∙ sym (asked_of_none span bytes has))
picked_asked span bytes (picked.Part range) has = inl has
picked_asked span bytes picked.Out has = inr (has, refl)

pub parts_are_given : ((span : Span) (bytes : List ℕ) → HasAsked span bytes (pick (Some span) (length bytes))) → PartsAreGiven
parts_are_given law server old new t r span bytes g is =
    let so : t.response ≡ object_response (Some span) bytes = objects_are_given server old new t r bytes g ∙ ap (λ s. object_response s bytes) is in
    subst (λ (x : Response). (x.body ≡ asked span bytes) ⊎ ((asked span bytes ≡ []) × (x ≡ out_response (length bytes)))) (sym so)
    (picked_asked span bytes (pick (Some span) (length bytes)) (law span bytes))
