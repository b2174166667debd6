-- How long texts are in a JSON string.
use Rattle.std.proofs.Common.{◌≡◌, ◌≢◌, ℕ, ◌+◌, ◌*◌, ◌%◌, ◌^◌, ◌<◌, ◌≤◌, Bool, true, false, cond, not, ◌&&◌, ◌||◌, ◌==◌, List, [], ◌∷◌, ◌++◌, All, length, length-append, refl, ap, ◌∙◌, arith, eqb-true, decimal}
use Rattle.std.specs.Prelude.{nat_le, nat_lt}
use Rattle.std.specs.List.{flat_map, list_all}
use Rattle.std.proofs.lemmas.Bool.{agree_below, agree_below_at, and_parts}
use Rattle.std.proofs.lemmas.Bool.Decides.{nat_tests}
use Rattle.std.proofs.lemmas.Fmt.{decimal_by_steps}
use Rattle.std.proofs.lemmas.Grind.{flat_map-append}
use Rattle.std.proofs.lemmas.List.Elements.{All-head, All-tail}
use Rattle.json.specs.Print.{escape, escape_byte, escape_letter}
use Rattle.percent_encoding.specs.Percent.{percent_encode_byte}
use Rattle.hmac_core.proofs.Bytes.{IsByte}
use Rattle.json_print.proofs.LengthLemmas.{length-escape_byte, escaped_few}
use Rattle.text_forms.specs.Escape.{escaped, escaped_byte, is_unreserved}

-- as long as it is
abbrev pub IsPlain : List ℕ → Type 0
IsPlain text = length (escape text) ≡ length text

pub escape_both : (xs ys : List ℕ) → length (escape (xs ++ ys)) ≡ length (escape xs) + length (escape ys)
escape_both xs ys = ap length (flat_map-append escape_byte xs ys) ∙ length-append (escape xs) (escape ys)

-- ---- bytes

visible_agrees : agree_below (λ b. length (escape_byte b) == 1) (λ b. nat_le 32 b && not ((b == 34) || (b == 92))) 256 ≡ true
unfolding escape_byte
visible_agrees = refl

pub byte_plain : (b : ℕ) → 35 ≤ b → b ≤ 122 → b ≢ 92 → length (escape_byte b) ≡ 1
byte_plain b low high other =
    let visible : (nat_le 32 b && not ((b == 34) || (b == 92))) ≡ true = grind (arith, nat_tests) in
    eqb-true _ _ (agree_below_at (λ x. length (escape_byte x) == 1) (λ x. nat_le 32 x && not ((x == 34) || (x == 92))) 256 b visible_agrees (omega arith) ∙ visible)

one_plain : (b : ℕ) → length (escape_byte b) ≡ 1 → IsPlain (b ∷ [])
one_plain b one = omega (arith, length-append (escape_byte b) [])

-- all bytes of a class
pub all_plain : (test : ℕ → Bool) → ((b : ℕ) → test b ≡ true → length (escape_byte b) ≡ 1) → (text : List ℕ) → list_all test text ≡ true → IsPlain text
all_plain test each [] e = refl
all_plain test each (b ∷ bs) e =
    let parts = and_parts (test b) (list_all test bs) e in
    let one = each b parts.0 in
    let rest = all_plain test each bs parts.1 in
    omega (arith, one, rest, length-append (escape_byte b) (escape bs))

-- ---- numbers

digit_plain : (d : ℕ) → d < 10 → IsPlain ((48 + d) ∷ [])
digit_plain d small = one_plain (48 + d) (byte_plain (48 + d) (omega arith) (omega arith) (λ same. absurd (omega arith)))

digits_more : (n : ℕ) (ds : List ℕ) → 10 ≤ n → IsPlain ds → IsPlain (ds ++ (48 + n % 10) ∷ [])
digits_more n ds some plain =
    let digit = digit_plain (n % 10) (omega arith) in
    omega (arith, plain, digit, escape_both ds ((48 + n % 10) ∷ []), length-append ds ((48 + n % 10) ∷ []))

pub number_plain : (n : ℕ) → n < 2 ^ 64 → IsPlain (decimal n)
number_plain n small = decimal_by_steps (λ k ds. IsPlain ds) digit_plain digits_more n small

-- ---- paths

escaped_agrees : agree_below (λ b. length (escape (escaped_byte b)) == length (escaped_byte b)) (λ b. true) 256 ≡ true
unfolding escape_byte percent_encode_byte
escaped_agrees = refl

pub path_plain : (path : List ℕ) → All IsByte path → IsPlain (escaped path)
unfolding escaped
path_plain [] bytes = refl
path_plain (b ∷ bs) bytes =
    let one = eqb-true _ _ (agree_below_at (λ x. length (escape (escaped_byte x)) == length (escaped_byte x)) (λ x. true) 256 b escaped_agrees (All-head IsByte b bs bytes)) in
    let rest = path_plain bs (All-tail IsByte b bs bytes) in
    omega (arith, one, rest, escape_both (escaped_byte b) (flat_map escaped_byte bs), length-append (escaped_byte b) (flat_map escaped_byte bs))

by_kind : (kept : Bool) (b : ℕ) → length (cond kept (b ∷ []) (percent_encode_byte b)) ≡ cond kept 1 3
unfolding percent_encode_byte
by_kind true b = refl
by_kind false b = refl

-- a byte of a path, or its escape
pub length-escaped_byte : (b : ℕ) → length (escaped_byte b) ≡ cond (is_unreserved b) 1 3
length-escaped_byte b = by_kind (is_unreserved b) b

-- ---- bounds

byte_few : (b : ℕ) → length (escape_byte b) ≤ 6
byte_few b = omega (arith, length-escape_byte b, escaped_few (nat_lt 0 (escape_letter b)) (nat_lt b 32))

-- the longest escape is `\u` with four digits
pub escape_few : (text : List ℕ) → length (escape text) ≤ 6 * length text
escape_few [] = omega arith
escape_few (b ∷ bs) = omega (arith, escape_few bs, byte_few b, length-append (escape_byte b) (escape bs))
