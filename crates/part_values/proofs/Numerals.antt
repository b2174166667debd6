-- Numerals: which texts `parse` reads, and which of them are written.
use Rattle.std.proofs.Common.{arith, ◌≡◌, ◌<◌, ◌^◌, length, ℕ, zero, suc, true, false, List, [], ◌∷◌, get_or, ℤ, pos, negsuc, neg_ℤ, w64, FitsSigned, Some, None, inl, inr, refl, sym, subst, ◌==◌}
use Rattle.std.specs.Fmt.{decimal, signed_decimal}
use Rattle.std.specs.Str.{bytes_eq}
use Rattle.std.specs.Str.Parse.{AllDigits, IsNumeral, digits_value, signed_digits_value, without_leading_sign}
use Rattle.std.specs.Int.RustNames.{int_le}
use Rattle.std.proofs.lemmas.Str.Parse.{IsNumeralModel, numerals_by_value, tells_digits}
use Rattle.std.proofs.lemmas.Fmt.{decimal-digits_value, decimal_digit, first_decimal}
use Rattle.std.proofs.lemmas.Bool.{and_parts, and_from, cond-true, cond-false, cases_eq, ne_eqb, false_from_ne_true}
use Rattle.std.proofs.lemmas.Bool.Decides.{nat_tests}
use Rattle.std.proofs.lemmas.Slice.Eq.{bytes_eq-Decides}
use Rattle.part_values.specs.Whole.{is_shortest, whole_of}

own : IsNumeralModel (AllDigits 10) (digits_value 10)
own = numerals_by_value (AllDigits 10) tells_digits

written : (ds : List ℕ) → IsNumeral 10 ds → (get_or ds 0 0 ≡ 48 → length ds ≡ 1) → digits_value 10 ds < 2 ^ 64 → decimal (digits_value 10 ds) ≡ ds
written ds n short small = decimal-digits_value own ds n.1 n.0 short small

negative : (v : ℕ) (ds : List ℕ) → decimal v ≡ ds → (get_or ds 0 0 ≡ 48 → ⊥) → signed_decimal (neg_ℤ (pos v)) ≡ 45 ∷ ds
negative zero ds e first = absurd (first (rw (← e, decimal_digit 0 (omega arith)) refl))
negative (suc n) ds e first = rw e refl

below : (v : ℕ) → FitsSigned w64 (neg_ℤ (pos v)) → v < 2 ^ 64
below zero f = omega arith
below (suc n) f = omega (arith, f.sfits)

after_minus : (cs : List ℕ) → is_shortest (45 ∷ cs) ≡ true → IsNumeral 10 cs → FitsSigned w64 (neg_ℤ (pos (digits_value 10 cs))) → signed_decimal (neg_ℤ (pos (digits_value 10 cs))) ≡ 45 ∷ cs
after_minus [] s n f = absurd (omega (arith, n.0))
after_minus (c ∷ cs) s n f =
    let first : c ≡ 48 → ⊥ = grind (arith, nat_tests, s) in
    negative (digits_value 10 (c ∷ cs)) (c ∷ cs) (written (c ∷ cs) n (λ e. absurd (first e)) (below (digits_value 10 (c ∷ cs)) f)) first

after_none : (c : ℕ) (cs : List ℕ) → is_shortest (c ∷ cs) ≡ true → (c ≡ 45 → ⊥) → IsNumeral 10 (c ∷ cs) → FitsSigned w64 (pos (digits_value 10 (c ∷ cs))) → decimal (digits_value 10 (c ∷ cs)) ≡ c ∷ cs
after_none c cs s other n f =
    written (c ∷ cs) n (λ e. grind (arith, nat_tests, s, e)) (omega (arith, f.sfits))

-- the shortest text of a number is what is written of it
pub shortest : (text : List ℕ) → is_shortest text ≡ true → IsNumeral 10 (without_leading_sign text) → FitsSigned w64 (signed_digits_value 10 text) → signed_decimal (signed_digits_value 10 text) ≡ text
shortest [] s n f = absurd (omega (arith, n.0))
shortest (c ∷ cs) s n f = elim (cases_eq c 45) [
  | inl e ↦ subst (λ x. is_shortest (x ∷ cs) ≡ true → IsNumeral 10 (without_leading_sign (x ∷ cs)) → FitsSigned w64 (signed_digits_value 10 (x ∷ cs)) → signed_decimal (signed_digits_value 10 (x ∷ cs)) ≡ x ∷ cs) (sym e) (after_minus cs) s n f
  | inr other ↦
      let minus : (c == 45) ≡ false = ne_eqb c 45 other in
      let plus : (c == 43) ≡ false = grind (arith, nat_tests, s) in
      let n₁ : IsNumeral 10 (c ∷ cs) = rw (minus, plus) at n in
      let f₁ : FitsSigned w64 (pos (digits_value 10 (c ∷ cs))) = rw (minus, plus) at f in
      rw (minus, plus) (after_none c cs s other n₁ f₁)
]

-- what is written of a number is its shortest text
pub is_shortest-written : (z : ℤ) → FitsSigned w64 z → is_shortest (signed_decimal z) ≡ true
is_shortest-written (pos zero) f = rw (decimal_digit 0 (omega arith)) refl
is_shortest-written (pos (suc n)) f =
    let first : 48 < get_or (decimal (suc n)) 0 0 = first_decimal (suc n) (omega arith) (omega (arith, f.sfits)) in
    grind (arith, nat_tests, first)
is_shortest-written (negsuc n) f =
    let first : 48 < get_or (decimal (suc n)) 0 0 = first_decimal (suc n) (omega arith) (omega (arith, f.sfits)) in
    grind (arith, nat_tests, first)

-- a number between two of 64 bits has 64 bits
pub fits : (low n high : ℤ) → int_le low n ≡ true → int_le n high ≡ true → FitsSigned w64 low → FitsSigned w64 high → FitsSigned w64 n
fits (pos a) (pos b) (pos c) below above f g = record { sfits = grind (arith, nat_tests, below, above, f.sfits, g.sfits) }
fits (pos a) (pos b) (negsuc c) below above f g = record { sfits = grind (arith, nat_tests, below, above, f.sfits, g.sfits) }
fits (pos a) (negsuc b) (pos c) below above f g = record { sfits = grind (arith, nat_tests, below, above, f.sfits, g.sfits) }
fits (pos a) (negsuc b) (negsuc c) below above f g = record { sfits = grind (arith, nat_tests, below, above, f.sfits, g.sfits) }
fits (negsuc a) (pos b) (pos c) below above f g = record { sfits = grind (arith, nat_tests, below, above, f.sfits, g.sfits) }
fits (negsuc a) (pos b) (negsuc c) below above f g = record { sfits = grind (arith, nat_tests, below, above, f.sfits, g.sfits) }
fits (negsuc a) (negsuc b) (pos c) below above f g = record { sfits = grind (arith, nat_tests, below, above, f.sfits, g.sfits) }
fits (negsuc a) (negsuc b) (negsuc c) below above f g = record { sfits = grind (arith, nat_tests, below, above, f.sfits, g.sfits) }

pub found : (low high : ℤ) (text : List ℕ) → signed_decimal (signed_digits_value 10 text) ≡ text → int_le low (signed_digits_value 10 text) ≡ true → int_le (signed_digits_value 10 text) high ≡ true → whole_of low high text ≡ Some (signed_digits_value 10 text)
found low high text e below above =
    cond-true _ _ _ (and_from _ _ ((bytes_eq-Decides text (signed_decimal (signed_digits_value 10 text))).1 (sym e)) (and_from _ _ below above))

pub missing : (low high : ℤ) (text : List ℕ) → (text ≡ signed_decimal (signed_digits_value 10 text) → int_le low (signed_digits_value 10 text) ≡ true → int_le (signed_digits_value 10 text) high ≡ true → ⊥) → whole_of low high text ≡ None
missing low high text no_such =
    cond-false _ _ _ (false_from_ne_true _ (λ t.
    let parts = and_parts (bytes_eq text (signed_decimal (signed_digits_value 10 text))) _ t in
    let ends = and_parts (int_le low (signed_digits_value 10 text)) _ parts.1 in
    no_such ((bytes_eq-Decides text (signed_decimal (signed_digits_value 10 text))).0 parts.0) ends.0 ends.1))
