-- Values whose keys rise, as halving looks through them.
use Rattle.std.proofs.Common.{◌≡◌, ℕ, ◌+◌, ◌<◌, List, map, length, get_or, false, sym, ap, ◌∙◌, subst, Less, arith}
use Rattle.std.specs.List.Sorted.{IsStrictlySortedBy, IsNonDecreasingBy, IsSortedBy}
use Rattle.std.specs.Ordering.{nat_cmp, is_lt, ordering_index, ordering_reverse}
use Rattle.std.specs.Cmp.Lexicographic.{slice_cmp}
use Rattle.std.proofs.lemmas.Cmp.{nat_list_cmp_total}
use Rattle.std.proofs.lemmas.List.{get_or-map, length-map}
use Rattle.std.proofs.lemmas.List.Sorted.{searchable_from_sorted}
use Rattle.std.proofs.lemmas.Map.Keys.{Less-from_sorted}

abbrev pub KeysRise : {V : Type 0} → (V → List ℕ) → List V → Type 0
KeysRise key vs = IsStrictlySortedBy (slice_cmp nat_cmp) (map key vs)

-- a key is below a later one
pub below : {V : Type 0} (key : V → List ℕ) (vs : List V) (k j : ℕ) (d : V) → KeysRise key vs → k < j → j < length vs → slice_cmp nat_cmp (key (get_or vs k d)) (key (get_or vs j d)) ≡ Less
below key vs k j d rise low high =
    subst (λ p. slice_cmp nat_cmp p (key (get_or vs j d)) ≡ Less) (get_or-map key vs k d (key d) (omega (arith, low, high)))
    (subst (λ p. slice_cmp nat_cmp (get_or (map key vs) k (key d)) p ≡ Less) (get_or-map key vs j d (key d) high)
    (Less-from_sorted (slice_cmp nat_cmp) (map key vs) k j (key d) rise low (subst (λ n. j < n) (sym (length-map vs key)) high)))

later_is_not_less : (x y : List ℕ) → slice_cmp nat_cmp x y ≡ Less → is_lt (slice_cmp nat_cmp y x) ≡ false
later_is_not_less x y e = ap is_lt (nat_list_cmp_total.antisymm y x ∙ ap ordering_reverse e)

sorted : {V : Type 0} (key : V → List ℕ) (vs : List V) → KeysRise key vs → IsSortedBy (λ a b. is_lt (slice_cmp nat_cmp (key a) (key b))) vs
sorted key vs rise k d low high = later_is_not_less (key (get_or vs k d)) (key (get_or vs (k + 1) d)) (below key vs k (k + 1) d rise (omega arith) high)

-- the side of a wanted key on which the values stand doesn't fall
pub rises : {V : Type 0} (key : V → List ℕ) (vs : List V) (wanted : List ℕ) → KeysRise key vs → IsNonDecreasingBy (λ v. ordering_index (slice_cmp nat_cmp (key v) wanted)) vs
rises key vs wanted rise = searchable_from_sorted nat_list_cmp_total key vs wanted (sorted key vs rise)
