-- Bytes that are compared by what is left of their differences.
use Rattle.std.proofs.Common.{◌≡◌, ◌↔◌, ℕ, ◌+◌, ◌<◌, List, length, get_or, eqb, ap, ◌∙◌, arith, below_more, eqb-true, eq-eqb}
use Rattle.std.specs.Prelude.{IsTrue, bit_or, bit_xor}
use Rattle.std.proofs.lemmas.Nat.{and_le_l, and_le_r}
use Rattle.std.proofs.lemmas.List.{ext_get_or}
use lib.Bits.{or_add_and, or_zero_r, xor_add_and, xor_self}

-- both are 0
or_none : (a b : ℕ) → bit_or a b ≡ 0 → (a ≡ 0) × (b ≡ 0)
or_none a b e =
    (omega (arith, or_add_and a b, and_le_l a b, and_le_r a b), omega (arith, or_add_and a b, and_le_l a b, and_le_r a b))

xor_none : (a b : ℕ) → bit_xor a b ≡ 0 → a ≡ b
xor_none a b e = omega (arith, xor_add_and a b, and_le_l a b, and_le_r a b)

same_none : (d a b : ℕ) → d ≡ 0 → a ≡ b → bit_or d (bit_xor a b) ≡ 0
same_none d a b none same =
    ap (λ x. bit_or x (bit_xor a b)) none ∙ ap (λ x. bit_or 0 (bit_xor x b)) same ∙ ap (bit_or 0) (xor_self b) ∙ or_zero_r 0

-- one byte more
pub one_more : (d i : ℕ) (xs ys : List ℕ)
    → (d ≡ 0) ↔ ((k : ℕ) → k < i → get_or xs k 0 ≡ get_or ys k 0)
    → (bit_or d (bit_xor (get_or xs i 0) (get_or ys i 0)) ≡ 0) ↔ ((k : ℕ) → k < i + 1 → get_or xs k 0 ≡ get_or ys k 0)
one_more d i xs ys so_far = (
  λ e. let both = or_none d (bit_xor (get_or xs i 0) (get_or ys i 0)) e in
      below_more _ _ (so_far.0 both.0) (xor_none (get_or xs i 0) (get_or ys i 0) both.1),
  λ all. same_none d (get_or xs i 0) (get_or ys i 0) (so_far.1 (λ k below. all k (omega arith))) (all i (omega arith)),
)

-- all of them
pub all_same : (d i : ℕ) (xs ys : List ℕ) → length xs ≡ length ys → i ≡ length xs
    → (d ≡ 0) ↔ ((k : ℕ) → k < i → get_or xs k 0 ≡ get_or ys k 0) → IsTrue (eqb d 0) ↔ (xs ≡ ys)
all_same d i xs ys sizes end so_far = (
  λ yes. ext_get_or 0 xs ys sizes (λ k below. so_far.0 (eqb-true d 0 yes) k (omega arith)),
  λ same. eq-eqb d 0 (so_far.1 (λ k below. ap (λ l. get_or l k 0) same)),
)
