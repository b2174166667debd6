-- The texts of one element more, and of all.
use Rattle.std.proofs.Common.{◌≡◌, ℕ, ◌+◌, ◌<◌, ◌≤◌, List, [], ◌∷◌, ◌++◌, length, take, flat_map, ap, sym, ◌∙◌, append_assoc, get_or}
use Rattle.std.proofs.lemmas.Grind.{flat_map-append}
use Rattle.std.proofs.lemmas.List.{append-nil, take_more, take_all}

pub text_more : {X : Type 0} (f : X → List ℕ) (xs : List X) (i : ℕ) (x : X) (before old new : List ℕ) → i < length xs → x ≡ get_or xs i x → old ≡ before ++ flat_map f (take i xs) → new ≡ old ++ f x
    → new ≡ before ++ flat_map f (take (i + 1) xs)
text_more f xs i x before old new lt is so adds =
    adds ∙ ap (λ t. t ++ f x) so ∙ append_assoc before (flat_map f (take i xs)) (f x)
    ∙ ap (λ t. before ++ t)
    (ap (λ t. flat_map f (take i xs) ++ t) (sym (append-nil (f x))) ∙ sym (flat_map-append f (take i xs) (x ∷ [])) ∙ ap (flat_map f) (ap (λ y. take i xs ++ y ∷ []) is ∙ sym (take_more xs i x lt)))

pub text_all : {X : Type 0} (f : X → List ℕ) (xs : List X) (n : ℕ) (before text : List ℕ) → length xs ≤ n → text ≡ before ++ flat_map f (take n xs) → text ≡ before ++ flat_map f xs
text_all f xs n before text all is = is ∙ ap (λ ys. before ++ flat_map f ys) (take_all n xs all)
