-- The reply to one request.
use Rattle.std.proofs.Common.{◌≡◌, ℕ, Bool, true, false, cond, List, [], ◌∷◌, map, Option, Some, None, sym, refl, ap, ◌∙◌}
use Rattle.std.specs.Prelude.{if◌then◌else◌, option_to_list}
use Rattle.share_book.specs.declared.look.Seen.{Seen}
use Rattle.share_reply.specs.Asking.{ask_of}
use Rattle.share_reply.specs.Bodies.{reply_of}
use Rattle.share_reply.specs.Formats.{format_of}
use Rattle.share_reply.specs.Replies.{answer_from, seen_for}
use Rattle.share_reply.specs.declared.keys.ReplyKeys.{ReplyKeys}
use Rattle.share_request.specs.declared.asked.Request.{Request}
use Rattle.share_core.specs.Answers.{chosen_replies, is_chosen, reply_to, sent}
use Rattle.share_core.specs.Seen.{chosen_reply, is_chosen_by}
use Rattle.share_core.specs.Asks.{Asked, asked_by, view_for}
use Rattle.share_world.specs.Worlds.{looked}
use Rattle.share_world.specs.declared.event.Event.{Event}
use Rattle.share_world.specs.declared.event.Event.TheVariants as event
use Rattle.share_core.proofs.Seeing.{seen_whose, shown_for, whose_shown}

-- a request with its moment and its view
abbrev pub asked_at : ReplyKeys → List Event → Request → ℕ → Asked
asked_at keys events request now = record { request = request; moment = now; view = view_for keys events request }

chosen_by : (keys : ReplyKeys) (events : List Event) (request : Request) (now : ℕ) (r : Option (List ℕ)) → is_chosen_by r (seen_for keys request (view_for keys events request)) ≡ is_chosen r (asked_at keys events request now)
chosen_by keys events request now None = refl
chosen_by keys events request now (Some r) = seen_whose keys events request r

chosen_one : (keys : ReplyKeys) (b : Bool) (a : Asked) → option_to_list (if b then Some (reply_to keys a) else None) ≡ map (reply_to keys) (cond b (a ∷ []) [])
chosen_one keys true a = refl
chosen_one keys false a = refl

-- the reply by what is found, as it is shown, is the one by the view
pub reply_seen : (keys : ReplyKeys) (events : List Event) (request : Request) (now : ℕ) (r : Option (List ℕ)) (seen : Option Seen) → seen ≡ looked events (ask_of keys request)
    → option_to_list (chosen_reply keys r request now seen) ≡ chosen_replies keys r (option_to_list (asked_by keys events (event.Ask request now)))
reply_seen keys events request now r seen is =
    let asked = asked_at keys events request now in
    let found = looked events (ask_of keys request) in
    let view = shown_for keys events request in
    let whose : is_chosen_by r found ≡ is_chosen r asked = whose_shown r found ∙ ap (is_chosen_by r) view ∙ chosen_by keys events request now r in
    ap (λ (s : Option Seen). option_to_list (chosen_reply keys r request now s)) is
    ∙ (λ i. option_to_list (if whose i then Some (sent (reply_of keys (format_of request) (answer_from keys now request (view i)))) else None))
    ∙ chosen_one keys (is_chosen r asked) asked

-- a value that stands under a test
pub none_where : {X : Type 0} (b : Bool) (x : X) → b ≡ false → None ≡ (if b then Some x else None)
none_where b x h = ap (λ (c : Bool). if c then Some x else None) (sym h)

pub some_where : {X : Type 0} (b : Bool) (x : X) → b ≡ true → Some x ≡ (if b then Some x else None)
some_where b x h = ap (λ (c : Bool). if c then Some x else None) (sym h)
