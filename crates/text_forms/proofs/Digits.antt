-- Texts of digits, and numbers that `parse` refuses.
use Rattle.std.proofs.Common.{◌≡◌, ℕ, ◌^◌, ◌<◌, ◌≤◌, List, [], ◌∷◌, length, Bool, true, false, ltb, Result, Ok, Err, refl, subst, arith}
use Rattle.std.specs.Char.{is_ascii_digit}
use Rattle.std.specs.List.{list_all}
use Rattle.std.specs.Str.{all_ascii_digits, IsUtf8}
use Rattle.std.specs.Str.Parse.{IsNumeral, digits_value, without_leading_plus, ParsesUnsigned}
use Rattle.std.proofs.lemmas.Bool.{and_parts, and_from, ltb-false, ltb-true}
use Rattle.std.proofs.lemmas.Fmt.{IsAscii-from_digits}
use Rattle.std.proofs.lemmas.Str.{IsUtf8-from_ascii}
use Rattle.std.proofs.lemmas.Str.Parse.{IsNumeralModel, numerals_by_value, tells_all_ascii_digits, not_in_digits, without_leading_plus_none}
use Rattle.text_forms.specs.Numbers.{is_digits}

own : IsNumeralModel (λ ds. all_ascii_digits ds ≡ true) (digits_value 10)
own = numerals_by_value (λ ds. all_ascii_digits ds ≡ true) tells_all_ascii_digits

all_digits : (ds : List ℕ) → list_all is_ascii_digit ds ≡ true → all_ascii_digits ds ≡ true
all_digits [] all = refl
all_digits (d ∷ ds) all =
    let parts = and_parts (is_ascii_digit d) (list_all is_ascii_digit ds) all in
    and_from _ _ parts.0 (all_digits ds parts.1)

no_plus : (text : List ℕ) → 0 < length text → all_ascii_digits text ≡ true → without_leading_plus text ≡ text
no_plus text some all = without_leading_plus_none text (not_in_digits own text 43 all (λ digit. absurd (omega arith)) 0 some)

large_by : (text : List ℕ) (test : Bool) → ltb (digits_value 10 text) (2 ^ 64) ≡ test
    → ¬ (IsNumeral 10 text × (digits_value 10 text < 2 ^ 64)) → IsNumeral 10 text → 2 ^ 64 ≤ digits_value 10 text
large_by text true is none numeral = absurd (none (numeral, ltb-true _ _ is))
large_by text false is none numeral = ltb-false _ _ is

-- digits that aren't read write a number of more than 64 bits
pub too_large : {E : Type 0} (text : List ℕ) (r : Result ℕ E) (e : E) → ParsesUnsigned 64 10 text r → r ≡ Err e → is_digits text ≡ true → 2 ^ 64 ≤ digits_value 10 text
too_large text (Ok k) e h is digits = absurd cc
too_large text (Err d) e h is digits =
    let parts = and_parts (ltb 0 (length text)) (list_all is_ascii_digit text) digits in
    let some : 0 < length text = ltb-true 0 (length text) parts.0 in
    let all = all_digits text parts.1 in
    let none = subst (λ t. ¬ (IsNumeral 10 t × (digits_value 10 t < 2 ^ 64))) (no_plus text some all) h in
    large_by text _ refl none (some, own.to text all)

-- digits are text
pub digits_text : (text : List ℕ) → is_digits text ≡ true → IsUtf8 text
digits_text text digits =
    let parts = and_parts (ltb 0 (length text)) (list_all is_ascii_digit text) digits in
    IsUtf8-from_ascii text (IsAscii-from_digits text (own.to text (all_digits text parts.1)))
