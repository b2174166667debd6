-- What a query asked for, a hint and a text are read from their fields.
use Rattle.std.proofs.Common.{◌≡◌, ℕ, suc, ◌+◌, ◌-◌, ◌^◌, ◌<◌, ◌≤◌, List, [], ◌∷◌, length, false, eqb, Option, Some, None, refl, arith}
use Rattle.std.specs.Prelude.{ℤ, pos, negsuc, FitsSigned, IfSome}
use Rattle.std.specs.Int.{w128}
use Rattle.std.specs.Str.{IsUtf8}
use Rattle.std.specs.Str.Parse.{AllDigits}
use Rattle.std.specs.Fmt.{decimal, signed_decimal}
use Rattle.std.proofs.lemmas.Bool.Decides.{nat_tests}
use Rattle.std.proofs.lemmas.Str.{is_utf8-from_IsUtf8}
use Rattle.std.proofs.lemmas.Str.Parse.{digit_from_value}
use Rattle.std.proofs.lemmas.Fmt.{decimal_is_IsNumeral_wide}
use Rattle.page_token.specs.declared.cursor.Asked.{Asked}
use Rattle.page_token.specs.declared.cursor.Asked.TheVariants as asked
use Rattle.page_token.specs.Payload.{asked_field, hint_field, IsAskedInRange, IsAskedValue}
use Rattle.page_token.specs.Reading.{digits_in, moment_of, asked_of, text_of, hint_of}
use Rattle.page_token.proofs.Digits.{digits_again}

no_minus : (c : ℕ) → 48 ≤ c → eqb c 45 ≡ false
no_minus c low = grind (arith, nat_tests)

plain_moment : (ds : List ℕ) (n : ℕ) → AllDigits 10 ds → 0 < length ds → digits_in (2 ^ 127) ds ≡ Some n → moment_of ds ≡ Some (pos n)
unfolding moment_of
plain_moment [] n digits some e = absurd (omega arith)
plain_moment (c ∷ cs) n digits some e =
    let digit = digit_from_value c digits.0 in
    let plain : eqb c 45 ≡ false = no_minus c digit.0 in
    rw (plain, e) refl

not_zero : (n : ℕ) → eqb (suc n) 0 ≡ false
not_zero n = grind (arith, nat_tests)

one_less : (n : ℕ) → suc n - 1 ≡ n
one_less n = omega arith

moment_again : (z : ℤ) → FitsSigned w128 z → moment_of (signed_decimal z) ≡ Some z
unfolding moment_of
moment_again (pos n) fits =
    let k = decimal_is_IsNumeral_wide n (omega (arith, fits.sfits)) in
    plain_moment (decimal n) n k.0.1 k.0.0 (digits_again (2 ^ 127) n (omega (arith, fits.sfits)) (omega (arith, fits.sfits)))
moment_again (negsuc n) fits =
    let digits = digits_again (2 ^ 127 + 1) (suc n) (omega (arith, fits.sfits)) (omega (arith, fits.sfits)) in
    rw (digits, not_zero n, one_less n) refl

pub asked_of_again : (a : Asked) → IsAskedInRange a → IsAskedValue a → asked_of (asked_field a) ≡ Some a
unfolding asked_of
asked_of_again asked.Latest range value = refl
asked_of_again (asked.Version v) range value = rw (digits_again (2 ^ 63) v (omega arith) range) refl
asked_of_again (asked.Moment z) range value = rw (moment_again z value) refl

pub text_again : (t : List ℕ) → IsUtf8 t → text_of t ≡ Some t
text_again t utf8 = rw (is_utf8-from_IsUtf8 t utf8) refl

pub hint_again : (h : Option (List ℕ)) → IfSome h IsUtf8 → hint_of (hint_field h) ≡ Some h
unfolding hint_of
hint_again None utf8 = refl
hint_again (Some t) utf8 = rw (text_again t utf8) refl
