-- A field that is written is read, whatever follows it.
use Rattle.std.proofs.Common.{◌≡◌, ℕ, ◌^◌, ◌<◌, ◌≤◌, List, [], ◌∷◌, ◌++◌, length, Bool, true, false, ltb, eqb, Some, refl, ap, ◌∙◌, append_assoc, arith}
use Rattle.std.proofs.lemmas.Bool.Decides.{nat_tests}
use Rattle.std.proofs.lemmas.List.{take_at, drop_at, length-append}
use Rattle.std.proofs.lemmas.Str.Parse.{digit_from_value}
use Rattle.std.proofs.lemmas.Fmt.{decimal_is_IsNumeral_wide}
use Rattle.std.specs.Prelude.{position}
use Rattle.std.specs.List.{position_or_len}
use Rattle.std.specs.Str.Parse.{AllDigits}
use Rattle.std.specs.Fmt.{decimal}
use Rattle.page_token.specs.Payload.{field}
use Rattle.page_token.specs.Reading.{field_in, number_in, digits_in}
use Rattle.page_token.proofs.Digits.{digits_again}

abbrev is_colon : ℕ → Bool
is_colon b = eqb b 58

no_colon : (c : ℕ) → 48 ≤ c → c ≤ 57 → is_colon c ≡ false
no_colon c low high = grind (arith, nat_tests)

colon_at : (ds t : List ℕ) → AllDigits 10 ds → position_or_len is_colon (ds ++ 58 ∷ t) ≡ length ds
colon_at [] t h = refl
colon_at (c ∷ cs) t h =
    let digit = digit_from_value c h.0 in
    let other : is_colon c ≡ false = no_colon c digit.0 digit.1 in
    rw (other, colon_at cs t h.1) (omega arith)

pub first_colon : (ds t : List ℕ) → AllDigits 10 ds → position is_colon (ds ++ 58 ∷ t) ≡ Some (length ds)
first_colon ds t h =
    let at = colon_at ds t h in
    let inside : ltb (length ds) (length (ds ++ 58 ∷ t)) ≡ true = simp length-append (grind (arith, nat_tests)) in
    rw (at, inside) refl

-- the parts of a field, and what follows it
regrouped : (ds f rest : List ℕ) → (((ds ++ (58 ∷ [])) ++ f) ++ (44 ∷ [])) ++ rest ≡ ds ++ (58 ∷ (f ++ (44 ∷ rest)))
regrouped ds f rest = simp append_assoc

field_parts : (ds f rest : List ℕ) → AllDigits 10 ds → digits_in (2 ^ 64) ds ≡ Some (length f) → field_in (ds ++ 58 ∷ (f ++ 44 ∷ rest)) ≡ Some (f, rest)
unfolding field_in
field_parts ds f rest digits value =
    let colon = first_colon ds (f ++ 44 ∷ rest) digits in
    let front = take_at ds (58 ∷ (f ++ 44 ∷ rest)) (length ds) refl in
    let back = drop_at ds (58 ∷ (f ++ 44 ∷ rest)) (length ds) refl in
    let inside : ltb (length f) (length (f ++ 44 ∷ rest)) ≡ true = simp length-append (grind (arith, nat_tests)) in
    rw (colon, front, value, back, inside, take_at f (44 ∷ rest) (length f) refl, drop_at f (44 ∷ rest) (length f) refl) refl

pub field_again : (f rest : List ℕ) → length (field f ++ rest) < 2 ^ 64 → field_in (field f ++ rest) ≡ Some (f, rest)
field_again f rest short =
    let small : length f < 2 ^ 64 = omega (arith, simp length-append at short) in
    ap field_in (regrouped (decimal (length f)) f rest)
    ∙ field_parts (decimal (length f)) f rest (decimal_is_IsNumeral_wide (length f) (omega arith)).0.1 (digits_again (2 ^ 64) (length f) (omega arith) small)

pub rest_short : (f rest : List ℕ) → length (field f ++ rest) < 2 ^ 64 → length rest < 2 ^ 64
rest_short f rest short = omega (arith, length-append (field f) rest)

pub number_again : (n : ℕ) (rest : List ℕ) → n < 2 ^ 63 → length (field (decimal n) ++ rest) < 2 ^ 64 → number_in (field (decimal n) ++ rest) ≡ Some (n, rest)
unfolding number_in
number_again n rest small short = rw (field_again (decimal n) rest short, digits_again (2 ^ 63) n (omega arith) small) refl
