-- Numbers read by `parse`, and those that are spelt.
use Rattle.std.proofs.Common.{◌≡◌, ◌≢◌, ℕ, ◌^◌, ◌<◌, List, ◌∷◌, ◌++◌, length, true, ltb, cond, ◌&&◌, lit<, All, Option, Some, None, Result, Ok, Err, refl, ap, sym, ◌∙◌, arith}
use Rattle.std.specs.Str.{all_ascii_digits}
use Rattle.std.specs.Str.Parse.{IsNumeral, digits_value, without_leading_plus, ParsesUnsigned}
use Rattle.std.specs.Fmt.{decimal}
use Rattle.std.proofs.lemmas.Bool.{and_parts, and_from, cond-true, cond-false, lt-ltb, ltb-true, false_from_ne_true}
use Rattle.std.proofs.lemmas.List.Elements.{All-from_get_or}
use Rattle.std.proofs.lemmas.Str.Parse.{IsNumeralModel, numerals_by_value, tells_all_ascii_digits, not_in_digits, without_leading_plus_none}
use Rattle.std.proofs.lemmas.Fmt.{digits_decimal, digits_value-decimal, decimal_nonempty}
use Rattle.signed_link.specs.Reading.{number_of, number_in}
use Rattle.signed_link.proofs.Cuts.{value_again}

own : IsNumeralModel (λ ds. all_ascii_digits ds ≡ true) (digits_value 10)
own = numerals_by_value (λ ds. all_ascii_digits ds ≡ true) tells_all_ascii_digits

-- what the digits behind a plus write
abbrev number_in_digits : List ℕ → Option ℕ
number_in_digits digits =
    cond (ltb 0 (length digits) && all_ascii_digits digits && ltb (digits_value 10 digits) (2 ^ 63)) (Some (digits_value 10 digits)) None

digits_read : (digits : List ℕ) (n : ℕ) → IsNumeral 10 digits → n ≡ digits_value 10 digits → n < 2 ^ 63 → number_in_digits digits ≡ Some n
digits_read digits n numeral value small =
    cond-true _ _ _ (and_from _ _ (and_from _ _ (lt-ltb 0 (length digits) numeral.0) (own.from digits numeral.1)) (lt-ltb (digits_value 10 digits) (2 ^ 63) (omega arith)))
    ∙ ap (λ (k : ℕ). Some k) (sym value)

not_read : (digits : List ℕ) → ¬ (IsNumeral 10 digits × (digits_value 10 digits < 2 ^ 64)) → number_in_digits digits ≡ None
not_read digits none =
    cond-false _ _ _ (false_from_ne_true _ (λ e.
    let tests = and_parts (ltb 0 (length digits) && all_ascii_digits digits) (ltb (digits_value 10 digits) (2 ^ 63)) e in
    let form = and_parts (ltb 0 (length digits)) (all_ascii_digits digits) tests.0 in
    let some : 0 < length digits = ltb-true 0 (length digits) form.0 in
    let small : digits_value 10 digits < 2 ^ 63 = ltb-true (digits_value 10 digits) (2 ^ 63) tests.1 in
    none ((some, own.to digits form.1), omega arith)))

pub parsed : {E : Type 0} (text : List ℕ) (r : Result ℕ E) (n : ℕ) → ParsesUnsigned 64 10 text r → r ≡ Ok n → n < 2 ^ 63 → number_of text ≡ Some n
unfolding number_of
parsed text (Ok k) n h is small = let same : k ≡ n = cc in digits_read (without_leading_plus text) n h.0.0 (sym same ∙ h.1) small
parsed text (Err e) n h is small = absurd cc

pub not_parsed : {E : Type 0} (text : List ℕ) (r : Result ℕ E) (e : E) → ParsesUnsigned 64 10 text r → r ≡ Err e → number_of text ≡ None
unfolding number_of
not_parsed text (Ok k) e h is = absurd cc
not_parsed text (Err d) e h is = not_read (without_leading_plus text) h

-- ---- numbers that are spelt

not_inside : (n c : ℕ) → n < 2 ^ 63 → (c < 48) → All (λ b. b ≢ c) (decimal n)
not_inside n c small low =
    All-from_get_or (λ b. b ≢ c) (decimal n) 0 (not_in_digits own (decimal n) c (digits_decimal own n (omega arith)) (λ digit. absurd (omega arith)))

no_plus : (n : ℕ) → n < 2 ^ 63 → without_leading_plus (decimal n) ≡ decimal n
no_plus n small =
    without_leading_plus_none (decimal n)
    (not_in_digits own (decimal n) 43 (digits_decimal own n (omega arith)) (λ digit. absurd (omega arith)) 0 (decimal_nonempty n (omega arith)))

number_of_again : (n : ℕ) → n < 2 ^ 63 → number_of (decimal n) ≡ Some n
unfolding number_of
number_of_again n small =
    ap number_in_digits (no_plus n small)
    ∙ digits_read (decimal n) n (decimal_nonempty n (omega arith), own.to (decimal n) (digits_decimal own n (omega arith))) (sym (digits_value-decimal own n (omega arith))) small

pub number_again : (name : List ℕ) (n : ℕ) (rest : List ℕ) → n < 2 ^ 63 → number_in name (name ++ (decimal n ++ 38 ∷ rest)) ≡ Some (n, rest)
unfolding number_in
number_again name n rest small = rw (value_again name (decimal n) rest (not_inside n 38 small (lit< tt)), number_of_again n small) refl
