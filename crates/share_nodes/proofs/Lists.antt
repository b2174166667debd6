-- Lists with more at their end.
use Rattle.std.proofs.Common.{◌≡◌, ℕ, ◌+◌, ◌<◌, ◌==◌, List, [], ◌∷◌, ◌++◌, length, false, cond, Some, zero, suc, refl, ap, ◌∙◌, arith}
use Rattle.std.specs.Prelude.{slice_get}
use Rattle.std.proofs.lemmas.Bool.{eq-eqb}
use Rattle.std.proofs.lemmas.List.Sums.{sum_by-append}
use Rattle.share_nodes.specs.Placings.{times}

pub slice_get_left : {X : Type 0} (xs ys : List X) (i : ℕ) → i < length xs → slice_get (xs ++ ys) i ≡ slice_get xs i
slice_get_left [] ys i k = absurd (omega arith)
slice_get_left (x ∷ xs) ys zero k = refl
slice_get_left (x ∷ xs) ys (suc i) k = slice_get_left xs ys i (omega arith)

pub slice_get_end : {X : Type 0} (xs : List X) (y : X) (i : ℕ) → i ≡ length xs → slice_get (xs ++ y ∷ []) i ≡ Some y
slice_get_end [] y i k = rw k refl
slice_get_end (x ∷ xs) y zero k = absurd (omega arith)
slice_get_end (x ∷ xs) y (suc i) k = slice_get_end xs y i (omega arith)

-- one more
pub times_same : (v u : ℕ) (vs : List ℕ) → u ≡ v → times v (vs ++ u ∷ []) ≡ times v vs + 1
times_same v u vs e =
    let one : times v (u ∷ []) ≡ 1 = rw (eq-eqb u v e) refl in
    sum_by-append (λ (x : ℕ). cond (x == v) 1 0) vs (u ∷ []) ∙ ap (λ (n : ℕ). times v vs + n) one

pub times_other : (v u : ℕ) (vs : List ℕ) → u == v ≡ false → times v (vs ++ u ∷ []) ≡ times v vs
times_other v u vs e =
    let none : times v (u ∷ []) ≡ 0 = rw e refl in
    let both : times v (vs ++ u ∷ []) ≡ times v vs + times v (u ∷ []) = sum_by-append (λ (x : ℕ). cond (x == v) 1 0) vs (u ∷ []) in
    omega (arith, both, none)
