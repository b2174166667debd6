-- What events come to with one event more.
use Rattle.std.proofs.Common.{◌≡◌, ℕ, ◌+◌, ◌<◌, List, [], ◌∷◌, ◌++◌, length, map, take, get_or, Option, None, sym, refl, ap, ◌∙◌, append_assoc}
use Rattle.std.specs.Prelude.{filter, option_to_list}
use Rattle.std.proofs.lemmas.List.{append-nil, map-append}
use Rattle.std.proofs.lemmas.List.Elements.{filter-append}
use Rattle.share_reply.specs.declared.keys.ReplyKeys.{ReplyKeys}
use Rattle.share_core.specs.Answers.{chosen_replies, is_chosen, reply_to}
use Rattle.share_core.specs.Asks.{Asked, asked_by, asks_from, asks_of}
use Rattle.share_world.specs.declared.event.Event.{Event}
use Rattle.share_world.proofs.Lists.{take_next}
use Rattle.share_core.specs.declared.reply.Reply.{Reply}

pub asks_more : (keys : ReplyKeys) (before xs : List Event) (e : Event) → asks_from keys before (xs ++ e ∷ []) ≡ asks_from keys before xs ++ option_to_list (asked_by keys (before ++ xs) e)
asks_more keys before [] e = append-nil (option_to_list (asked_by keys before e)) ∙ ap (λ (b : List Event). option_to_list (asked_by keys b e)) (sym (append-nil before))
asks_more keys before (x ∷ xs) e =
    let here : List Asked = option_to_list (asked_by keys before x) in
    let rest : List Asked = asks_from keys (before ++ x ∷ []) xs in
    ap (λ (l : List Asked). here ++ l) (asks_more keys (before ++ x ∷ []) xs e ∙ ap (λ (b : List Event). rest ++ option_to_list (asked_by keys b e)) (append_assoc before (x ∷ []) xs))
    ∙ sym (append_assoc here rest (option_to_list (asked_by keys (before ++ x ∷ xs) e)))

chosen_append : (keys : ReplyKeys) (r : Option (List ℕ)) (xs ys : List Asked) → chosen_replies keys r (xs ++ ys) ≡ chosen_replies keys r xs ++ chosen_replies keys r ys
chosen_append keys r xs ys = ap (map (reply_to keys)) (filter-append (is_chosen r) xs ys) ∙ map-append (reply_to keys) (filter (is_chosen r) xs) (filter (is_chosen r) ys)

-- the replies with one event more
pub replies_more : (keys : ReplyKeys) (r : Option (List ℕ)) (events : List Event) (i : ℕ) (e : Event) (old new : List Reply) (reply : Option Reply) → i < length events → e ≡ get_or events i e → old ≡ chosen_replies keys r (asks_of keys (take i events))
    → option_to_list reply ≡ chosen_replies keys r (option_to_list (asked_by keys (take i events) e)) → new ≡ old ++ option_to_list reply → new ≡ chosen_replies keys r (asks_of keys (take (i + 1) events))
replies_more keys r events i e old new reply less is before here pushed =
    pushed ∙ (λ k. before k ++ here k) ∙ sym (chosen_append keys r (asks_of keys (take i events)) (option_to_list (asked_by keys (take i events) e)))
    ∙ ap (chosen_replies keys r) (sym (asks_more keys [] (take i events) e)) ∙ ap (λ (xs : List Event). chosen_replies keys r (asks_of keys xs)) (sym (take_next events i e less is))

-- where none is given, all are chosen
pub all_chosen : (xs : List Asked) → filter (is_chosen None) xs ≡ xs
all_chosen [] = refl
all_chosen (x ∷ xs) = ap (λ (l : List Asked). x ∷ l) (all_chosen xs)
