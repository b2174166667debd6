-- What callers' proofs need of tags.
use Rattle.std.proofs.Common.{◌≡◌, ℕ, zero, suc, ◌/◌, ◌%◌, ◌<◌, List, [], ◌∷◌, All, true, length, slice_index, refl, arith, eq-eqb}
use Rattle.std.specs.List.{list_all}
use Rattle.std.specs.Str.{IsUtf8}
use Rattle.std.specs.Int.{byte_at, bytes_high_first}
use Rattle.std.proofs.lemmas.Bool.Decides.{nat_tests}
use Rattle.std.proofs.lemmas.Bool.{and_from, and_parts, agree_below, agree_below_at}
use Rattle.std.proofs.lemmas.List.Elements.{All-nil, All-cons, All-append, All-head, All-tail}
use Rattle.sha2.specs.Sha256.{sha256, digest_bytes, final_hash, initial_hash_256}
use Rattle.sha2.proofs.Facts256.{length-sha256}
use Rattle.hex.specs.Hex.{encode_with, encode_lower, lower_digits}
use Rattle.hex.proofs.HexLemmas.{length-encode_with}
use Rattle.std.proofs.lemmas.Str.{IsUtf8-from_ascii}
use Rattle.std.specs.Str.{IsAscii}
use Rattle.std.proofs.lemmas.Str.Ascii.{IsAscii-nil, IsAscii-cons}
use Rattle.hmac_core.specs.Hmac.{are_tag_digits, hmac, is_tag_digit}
use Rattle.hmac_core.proofs.Bytes.{IsByte}

pub length-hmac : (key text : List ℕ) → length (hmac key text) ≡ 32
length-hmac key text = length-sha256 _

-- ---- tags are of bytes

byte_small : (k n : ℕ) → byte_at k n < 256
byte_small zero n = omega arith
byte_small (suc k) n = omega arith

high_first_bytes : (k n : ℕ) → All IsByte (bytes_high_first k n)
high_first_bytes zero n = All-nil IsByte
high_first_bytes (suc k) n = All-cons IsByte (byte_at k n) (bytes_high_first k n) (byte_small k n) (high_first_bytes k n)

digest_are_bytes : (h : List ℕ) (n : ℕ) → All IsByte (digest_bytes h n)
unfolding digest_bytes
digest_are_bytes h zero = All-nil IsByte
digest_are_bytes h (suc n) = All-append IsByte (digest_bytes h n) (bytes_high_first 4 (slice_index h n)) (digest_are_bytes h n) (high_first_bytes 4 (slice_index h n))

sha256_bytes : (m : List ℕ) → All IsByte (sha256 m)
unfolding sha256
sha256_bytes m = digest_are_bytes (final_hash initial_hash_256 m) 8

pub hmac_bytes : (key text : List ℕ) → All IsByte (hmac key text)
hmac_bytes key text = sha256_bytes _

-- ---- digits of tags

low_are_digits : agree_below (λ d. is_tag_digit (slice_index lower_digits d)) (λ d. true) 16 ≡ true
low_are_digits = refl

low_is_digit : (d : ℕ) → d < 16 → is_tag_digit (slice_index lower_digits d) ≡ true
low_is_digit d small = agree_below_at (λ x. is_tag_digit (slice_index lower_digits x)) (λ x. true) 16 d low_are_digits small

encoded_are_digits : (bytes : List ℕ) → All IsByte bytes → list_all is_tag_digit (encode_lower bytes) ≡ true
unfolding encode_with
encoded_are_digits [] small = refl
encoded_are_digits (b ∷ bs) small =
    let byte : b < 256 = All-head IsByte b bs small in
    and_from _ _ (low_is_digit (b / 16) (omega arith))
    (and_from _ _ (low_is_digit (b % 16) (omega arith)) (encoded_are_digits bs (All-tail IsByte b bs small)))

pub length-digits : (key text : List ℕ) → length (encode_lower (hmac key text)) ≡ 64
length-digits key text = let tag = length-hmac key text in let digits = length-encode_with lower_digits (hmac key text) in omega arith

-- the digits of a tag have their form
pub digits_are_digits : (key text : List ℕ) → are_tag_digits (encode_lower (hmac key text)) ≡ true
digits_are_digits key text =
    and_from _ _ (eq-eqb (length (encode_lower (hmac key text))) 64 (length-digits key text)) (encoded_are_digits (hmac key text) (hmac_bytes key text))

digit_small : (b : ℕ) → is_tag_digit b ≡ true → b < 128
digit_small b e = grind (arith, nat_tests)

digits_ascii : (text : List ℕ) → list_all is_tag_digit text ≡ true → IsAscii text
digits_ascii [] e = IsAscii-nil
digits_ascii (b ∷ bs) e =
    let parts = and_parts (is_tag_digit b) (list_all is_tag_digit bs) e in
    IsAscii-cons b bs (digit_small b parts.0) (digits_ascii bs parts.1)

-- they are text
pub digits_are_text : (key text : List ℕ) → IsUtf8 (encode_lower (hmac key text))
digits_are_text key text = IsUtf8-from_ascii _ (digits_ascii _ (encoded_are_digits (hmac key text) (hmac_bytes key text)))
