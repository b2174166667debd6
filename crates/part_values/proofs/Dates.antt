-- A date by its pairs of digits is the date by its parts.
use Rattle.std.proofs.Common.{arith, ◌≡◌, ◌∙◌, ◌+◌, ◌-◌, ◌*◌, ℕ, ℤ, pos, Bool, true, false, List, [], ◌∷◌, length, Option, Some, None, inl, inr, refl, ap, ◌==◌, if◌then◌else◌}
use Rattle.std.specs.Prelude.{◌&&◌}
use Rattle.std.specs.Char.{digit_value, is_ascii_digit}
use Rattle.std.specs.Int.{IsInRange}
use Rattle.std.specs.Str.Parse.{digits_value}
use Rattle.std.proofs.lemmas.Bool.{and_parts, cases_eq, leb-true, ne_eqb}
use Rattle.std.proofs.lemmas.Str.{digit_value_digit}
use Rattle.part_values.specs.Day.{civil_day, day_of}
use Rattle.json_tree.specs.Options.{◌>>=◌}
use Rattle.part_values.specs.DigitPairs.{day_by_pairs}

splits : (p q a b c d f g i j : Bool) (w x y z : ℕ) (k : ℕ → ℕ → ℕ → ℕ → Option ℤ) (v : Option ℤ)
    → (a ≡ true → b ≡ true → c ≡ true → d ≡ true → f ≡ true → g ≡ true → i ≡ true → j ≡ true → k w x y z ≡ v)
    → (if true && p && q then (do
      century ← (if a && b then Some w else None)
      year ← (if c && d then Some x else None)
      month ← (if f && g then Some y else None)
      day ← (if i && j then Some z else None)
      k century year month day) else None)
    ≡ (if true && p && q && (a && (b && (c && (d && (f && (g && (i && (j && true)))))))) then v else None)
splits false q a b c d f g i j w x y z k v h = refl
splits true false a b c d f g i j w x y z k v h = refl
splits true true false b c d f g i j w x y z k v h = refl
splits true true true false c d f g i j w x y z k v h = refl
splits true true true true false d f g i j w x y z k v h = refl
splits true true true true true false f g i j w x y z k v h = refl
splits true true true true true true false g i j w x y z k v h = refl
splits true true true true true true true false i j w x y z k v h = refl
splits true true true true true true true true false j w x y z k v h = refl
splits true true true true true true true true true false w x y z k v h = refl
splits true true true true true true true true true true w x y z k v h = h refl refl refl refl refl refl refl refl

value : (c : ℕ) → is_ascii_digit c ≡ true → digit_value c ≡ c - 48
value c digit =
    let parts = and_parts _ _ digit in
    let range : IsInRange 48 57 c = (leb-true 48 c parts.0, leb-true c 57 parts.1) in
    omega (arith, digit_value_digit c range)

pair : (a b : ℕ) → is_ascii_digit a ≡ true → is_ascii_digit b ≡ true → (a - 48) * 10 + (b - 48) ≡ digits_value 10 (a ∷ b ∷ [])
pair a b p q = rw (value a p, value b q) (omega arith)

four : (a b c d : ℕ) → is_ascii_digit a ≡ true → is_ascii_digit b ≡ true → is_ascii_digit c ≡ true → is_ascii_digit d ≡ true
    → ((a - 48) * 10 + (b - 48)) * 100 + ((c - 48) * 10 + (d - 48)) ≡ digits_value 10 (a ∷ b ∷ c ∷ d ∷ [])
four a b c d p q r s = rw (value a p, value b q, value c r, value d s) (omega arith)

ten : (text : List ℕ) → length text ≡ 10 → day_by_pairs text ≡ day_of text
ten [] e = absurd (omega (arith, e))
ten (a ∷ []) e = absurd (omega (arith, e))
ten (a ∷ b ∷ []) e = absurd (omega (arith, e))
ten (a ∷ b ∷ c ∷ []) e = absurd (omega (arith, e))
ten (a ∷ b ∷ c ∷ d ∷ []) e = absurd (omega (arith, e))
ten (a ∷ b ∷ c ∷ d ∷ m ∷ []) e = absurd (omega (arith, e))
ten (a ∷ b ∷ c ∷ d ∷ m ∷ f ∷ []) e = absurd (omega (arith, e))
ten (a ∷ b ∷ c ∷ d ∷ m ∷ f ∷ g ∷ []) e = absurd (omega (arith, e))
ten (a ∷ b ∷ c ∷ d ∷ m ∷ f ∷ g ∷ n ∷ []) e = absurd (omega (arith, e))
ten (a ∷ b ∷ c ∷ d ∷ m ∷ f ∷ g ∷ n ∷ i ∷ []) e = absurd (omega (arith, e))
ten (a ∷ b ∷ c ∷ d ∷ m ∷ f ∷ g ∷ n ∷ i ∷ j ∷ []) e =
    splits (m == 45) (n == 45) (is_ascii_digit a) (is_ascii_digit b) (is_ascii_digit c) (is_ascii_digit d) (is_ascii_digit f) (is_ascii_digit g) (is_ascii_digit i) (is_ascii_digit j)
    ((a - 48) * 10 + (b - 48)) ((c - 48) * 10 + (d - 48)) ((f - 48) * 10 + (g - 48)) ((i - 48) * 10 + (j - 48))
    (λ century year month day. civil_day (pos (century * 100 + year)) month day)
    (civil_day (pos (digits_value 10 (a ∷ b ∷ c ∷ d ∷ []))) (digits_value 10 (f ∷ g ∷ [])) (digits_value 10 (i ∷ j ∷ [])))
    (λ da db dc dd df dg di dj.
    ap (λ year. civil_day (pos year) ((f - 48) * 10 + (g - 48)) ((i - 48) * 10 + (j - 48))) (four a b c d da db dc dd)
    ∙ ap (λ month. civil_day (pos (digits_value 10 (a ∷ b ∷ c ∷ d ∷ []))) month ((i - 48) * 10 + (j - 48))) (pair f g df dg)
    ∙ ap (λ day. civil_day (pos (digits_value 10 (a ∷ b ∷ c ∷ d ∷ []))) (digits_value 10 (f ∷ g ∷ [])) day) (pair i j di dj))
ten (a ∷ b ∷ c ∷ d ∷ m ∷ f ∷ g ∷ n ∷ i ∷ j ∷ l ∷ rest) e = absurd (omega (arith, e))

pub same : (text : List ℕ) → day_by_pairs text ≡ day_of text
same text = elim (cases_eq (length text) 10) [
  | inl e ↦ ten text e
  | inr other ↦ rw (ne_eqb (length text) 10 other) refl
]
