-- The lines of one element more.
use Rattle.std.proofs.Common.{◌≡◌, ℕ, ◌+◌, List, [], ◌∷◌, ◌++◌, take, flat_map, Some, ap, ◌∙◌}
use Rattle.std.specs.Prelude.{Bool, filter, slice_get}
use Rattle.std.proofs.lemmas.List.Elements.{filter-append}
use Rattle.std.proofs.lemmas.Grind.{flat_map-append}
use Rattle.std.proofs.lemmas.List.{append-nil, take_more}
use Rattle.std.proofs.lemmas.Option.{slice_get_within, get_or_from_slice_get}

pub flat_map-take-one : {X : Type 0} (f : X → List ℕ) (xs : List X) (i : ℕ) (x : X) → slice_get xs i ≡ Some x → flat_map f (take (i + 1) xs) ≡ flat_map f (take i xs) ++ f x
flat_map-take-one f xs i x e =
    ap (flat_map f) (take_more xs i x (slice_get_within xs i x e) ∙ ap (λ y. take i xs ++ (y ∷ [])) (get_or_from_slice_get xs i x x e))
    ∙ flat_map-append f (take i xs) (x ∷ []) ∙ ap (λ ys. flat_map f (take i xs) ++ ys) (append-nil (f x))

pub listed-take-one : {X : Type 0} (f : X → List ℕ) (p : X → Bool) (xs : List X) (i : ℕ) (x : X) → slice_get xs i ≡ Some x → flat_map f (filter p (take (i + 1) xs)) ≡ flat_map f (filter p (take i xs)) ++ flat_map f (filter p (x ∷ []))
listed-take-one f p xs i x e =
    ap (λ ys. flat_map f (filter p ys)) (take_more xs i x (slice_get_within xs i x e) ∙ ap (λ y. take i xs ++ (y ∷ [])) (get_or_from_slice_get xs i x x e))
    ∙ ap (flat_map f) (filter-append p (take i xs) (x ∷ [])) ∙ flat_map-append f (filter p (take i xs)) (filter p (x ∷ []))
