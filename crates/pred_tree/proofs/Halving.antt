-- What halving finds among pairs in order of their names.
use Rattle.std.proofs.Common.{◌≡◌, ℕ, zero, suc, ◌<◌, List, [], ◌∷◌, true, false, None, Err, map, length, get_or, refl, sym, ap, ◌∙◌, subst, Less, Equal, arith, bytes_eq, nat_cmp}
use Rattle.std.specs.Prelude.{nat_lt}
use Rattle.std.specs.List.Sorted.{IsStrictlySortedBy, IsBinarySearchResult}
use Rattle.std.specs.Ordering.{is_eq}
use Rattle.std.specs.Cmp.Lexicographic.{slice_cmp}
use Rattle.std.proofs.lemmas.Bool.Decides.{nat_tests}
use Rattle.std.proofs.lemmas.Map.Text.{is_eq-slice_cmp}
use Rattle.std.proofs.lemmas.Slice.Eq.{bytes_eq-Decides}
use Rattle.json_tree.proofs.Rising.{KeysRise, below, rises}
use Rattle.json_tree.specs.Lists.{pair_of}
use Rattle.json_tree.specs.Pairs.{IsPairs, names}
use Rattle.json_tree.specs.declared.pairs.Pair.{Pair}
use Rattle.pred_tree.specs.Truth.{text_of_column}

abbrev name_of : Pair → List ℕ
name_of p = p.name

same_names : (ps : List Pair) → names (map pair_of ps) ≡ map name_of ps
same_names [] = refl
same_names (p ∷ ps) = ap (λ ns. p.name ∷ ns) (same_names ps)

rise-from_pairs : (ps : List Pair) → IsPairs (map pair_of ps) → KeysRise name_of ps
rise-from_pairs ps h = subst (λ ns. IsStrictlySortedBy (slice_cmp nat_cmp) ns) (same_names ps) h

-- the pair of that name is the first of that name
pub found : (name : List ℕ) (ps : List Pair) (i : ℕ) (p : Pair) → IsPairs (map pair_of ps) → i < length ps → p ≡ get_or ps i p → slice_cmp nat_cmp p.name name ≡ Equal → text_of_column name (map pair_of ps) ≡ p.value
unfolding IsStrictlySortedBy
found name [] i p rise lt at is = absurd (omega (arith, lt))
found name (q ∷ ps) zero p rise lt at is =
    let same : bytes_eq q.name name ≡ true = sym (is_eq-slice_cmp q.name name) ∙ ap is_eq (subst (λ x. slice_cmp nat_cmp x.name name ≡ Equal) at is) in
    rw same (ap (λ x. x.value) (sym at))
found name (q ∷ ps) (suc i) p rise lt at is =
    let lower : slice_cmp nat_cmp q.name (get_or ps i p).name ≡ Less = below name_of (q ∷ ps) 0 (suc i) p (rise-from_pairs (q ∷ ps) rise) (omega arith) lt in
    let named : p.name ≡ name = (bytes_eq-Decides p.name name).0 (sym (is_eq-slice_cmp p.name name) ∙ ap is_eq is) in
    let first : slice_cmp nat_cmp q.name name ≡ Less =
    subst (λ n. slice_cmp nat_cmp q.name n ≡ Less) named (subst (λ x. slice_cmp nat_cmp q.name x.name ≡ Less) (sym at) lower) in
    let other : bytes_eq q.name name ≡ false = sym (is_eq-slice_cmp q.name name) ∙ ap is_eq first in
    rw other (found name ps i p rise.1 (omega (arith, lt)) at is)

-- no pair has the name
none_left : (name : List ℕ) (ps : List Pair) → ((k : ℕ) (d : Pair) → k < length ps → is_eq (slice_cmp nat_cmp (get_or ps k d).name name) ≡ false) → text_of_column name (map pair_of ps) ≡ None
none_left name [] h = refl
none_left name (q ∷ ps) h =
    let other : bytes_eq q.name name ≡ false = sym (is_eq-slice_cmp q.name name) ∙ h 0 q (omega arith) in
    rw other (none_left name ps (λ k d lt. h (suc k) d (omega (arith, lt))))

pub missing : (name : List ℕ) (ps : List Pair) (i : ℕ) → IsPairs (map pair_of ps) → IsBinarySearchResult (λ p. slice_cmp nat_cmp p.name name) ps (Err i) → text_of_column name (map pair_of ps) ≡ None
missing name ps i rise ends =
    let parted = ends (rises name_of ps name (rise-from_pairs ps rise)) in
    none_left name ps (λ k d lt. elim (nat_lt k i) as (λ b. nat_lt k i ≡ b → is_eq (slice_cmp nat_cmp (get_or ps k d).name name) ≡ false) [
      | true ↦ λ e. ap is_eq (parted.0 k d (omega arith) (grind (arith, nat_tests, e)))
      | false ↦ λ e. ap is_eq (parted.1 k d (grind (arith, nat_tests, e)) lt)
    ] refl)
