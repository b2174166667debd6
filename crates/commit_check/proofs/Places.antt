-- The first place that passes, as loops find it.
use Rattle.std.proofs.Common.{◌≡◌, ℕ, ◌+◌, ◌<◌, ◌≤◌, List, [], ◌∷◌, Bool, true, false, cond, Option, Some, None, is_some, length, get_or, drop, map, refl, sym, ap, ◌∙◌, subst, arith, true≢false}
use Rattle.std.specs.Prelude.{◌||◌, IfSome}
use Rattle.std.specs.List.{list_any, position_from}
use Rattle.std.proofs.lemmas.List.{drop_more, drop_all, get_or-map, length-map}

-- from a place on, which is counted as k, the first is that place or a later one
pub first_here : {X : Type 0} (p : X → Bool) (xs : List X) (i k : ℕ) (x : X) → i < length xs → x ≡ get_or xs i x → position_from p k (drop i xs) ≡ cond (p x) (Some k) (position_from p (k + 1) (drop (i + 1) xs))
first_here p xs i k x lt is = ap (position_from p k) (drop_more xs i x lt ∙ ap (λ y. y ∷ drop (i + 1) xs) (sym is))

-- the element at the place doesn't pass
pub first_later : {X : Type 0} (p : X → Bool) (xs : List X) (i k : ℕ) (x : X) (o : Option ℕ) → i < length xs → x ≡ get_or xs i x → p x ≡ false → position_from p k (drop i xs) ≡ o
    → position_from p (k + 1) (drop (i + 1) xs) ≡ o
first_later p xs i k x o lt is fails left = sym (first_here p xs i k x lt is ∙ ap (λ b. cond b (Some k) (position_from p (k + 1) (drop (i + 1) xs))) fails) ∙ left

-- it does
pub first_found : {X : Type 0} (p : X → Bool) (xs : List X) (i k : ℕ) (x : X) (o : Option ℕ) → i < length xs → x ≡ get_or xs i x → p x ≡ true → position_from p k (drop i xs) ≡ o → Some k ≡ o
first_found p xs i k x o lt is passes left = sym (first_here p xs i k x lt is ∙ ap (λ b. cond b (Some k) (position_from p (k + 1) (drop (i + 1) xs))) passes) ∙ left

-- no element is left
pub first_nowhere : {X : Type 0} (p : X → Bool) (xs : List X) (i k : ℕ) (o : Option ℕ) → length xs ≤ i → position_from p k (drop i xs) ≡ o → None ≡ o
first_nowhere p xs i k o all left = ap (position_from p k) (sym (drop_all i xs all)) ∙ left

-- an element of a list that is looked at through a function
pub at_map : {X Y : Type 0} (f : X → Y) (xs : List X) (i : ℕ) (x : X) → i < length xs → x ≡ get_or xs i x → f x ≡ get_or (map f xs) i (f x)
at_map f xs i x lt is = ap f is ∙ sym (get_or-map f xs i x (f x) lt)

pub within_map : {X Y : Type 0} (f : X → Y) (xs : List X) (i : ℕ) → i < length xs → i < length (map f xs)
within_map f xs i lt = subst (λ n. i < n) (sym (length-map xs f)) lt

pub beyond_map : {X Y : Type 0} (f : X → Y) (xs : List X) (i : ℕ) → length xs ≤ i → length (map f xs) ≤ i
beyond_map f xs i all = subst (λ n. n ≤ i) (sym (length-map xs f)) all

none_case : (b rest : Bool) (i : ℕ) (o : Option ℕ) → cond b (Some i) o ≡ None → (o ≡ None → rest ≡ false) → (b || rest) ≡ false
none_case true rest i o e h = absurd (true≢false (ap is_some e))
none_case false rest i o e h = h e

-- where there is no first, none passes
pub none_passes : {X : Type 0} (p : X → Bool) (i : ℕ) (xs : List X) → position_from p i xs ≡ None → list_any p xs ≡ false
none_passes p i [] e = refl
none_passes p i (x ∷ xs) e = none_case (p x) (list_any p xs) i (position_from p (i + 1) xs) e (none_passes p (i + 1) xs)

pub lower : (i : ℕ) (o : Option ℕ) → IfSome o (λ k. i + 1 ≤ k) → IfSome o (λ k. i ≤ k)
lower i None h = tt
lower i (Some k) h = omega (arith, h)

bound_case : (b : Bool) (i : ℕ) (o : Option ℕ) → IfSome o (λ k. i + 1 ≤ k) → IfSome (cond b (Some i) o) (λ k. i ≤ k)
bound_case true i o h = omega arith
bound_case false i o h = lower i o h

-- the first isn't before the place that is counted from
pub first_bound : {X : Type 0} (p : X → Bool) (i : ℕ) (xs : List X) → IfSome (position_from p i xs) (λ k. i ≤ k)
first_bound p i [] = tt
first_bound p i (x ∷ xs) = bound_case (p x) i (position_from p (i + 1) xs) (first_bound p (i + 1) xs)
