-- What events come to with one event more.
use Rattle.std.proofs.Common.{◌≡◌, ℕ, ◌+◌, ◌<◌, List, [], ◌∷◌, ◌++◌, length, take, get_or, sym, ap, ◌∙◌, add-one}
use Rattle.std.proofs.Math.Seq.{take-suc}
use Rattle.std.proofs.lemmas.List.Sums.{fold-append}
use Rattle.share_world.specs.Worlds.{commits_of, commits_with, edits_of, edits_with}
use Rattle.share_world.specs.declared.event.Event.{Event}

pub take_next : {X : Type 0} (xs : List X) (i : ℕ) (x : X) → i < length xs → x ≡ get_or xs i x → take (i + 1) xs ≡ take i xs ++ x ∷ []
take_next xs i x less is = rw (add-one i) (take-suc xs i x less ∙ ap (λ y. take i xs ++ y ∷ []) (sym is))

pub edits_more : (xs : List Event) (e : Event) → edits_of (xs ++ e ∷ []) ≡ edits_with (edits_of xs) e
edits_more xs e = fold-append edits_with [] xs (e ∷ [])

pub commits_more : (xs : List Event) (e : Event) (l : List ℕ) → commits_of (xs ++ e ∷ []) l ≡ commits_with l (commits_of xs l) e
commits_more xs e l = fold-append (commits_with l) [] xs (e ∷ [])
