-- UTF-8 is of bytes.
use Rattle.std.proofs.Common.{◌≡◌, ℕ, ◌+◌, ◌/◌, ◌%◌, ◌<◌, List, [], ◌∷◌, true, All, subst, arith, ltb}
use Rattle.std.specs.Char.{encode_utf8}
use Rattle.std.specs.Str.{IsUtf8, encode_utf8_all}
use Rattle.std.proofs.lemmas.Bool.{and_parts, cond_both, ltb-true}
use Rattle.std.proofs.lemmas.Bool.Decides.{nat_tests}
use Rattle.std.proofs.lemmas.List.Elements.{All-nil, All-cons, All-append}
use lib.Utf8.{scalar, scalars}

abbrev pub IsByte : ℕ → Type 0
IsByte b = b < 256

scalar_below : (c : ℕ) → scalar c ≡ true → c < 1114112
scalar_below c e = grind (arith, nat_tests)

-- the last bytes of a character have six bits
rest_byte : (bits : ℕ) (bs : List ℕ) → All IsByte bs → All IsByte ((128 + bits % 64) ∷ bs)
rest_byte bits bs h = All-cons IsByte (128 + bits % 64) bs (omega arith) h

one_byte : (c : ℕ) → c < 128 → All IsByte (c ∷ [])
one_byte c small = All-cons IsByte c [] (omega arith) (All-nil IsByte)

two_bytes : (c : ℕ) → c < 2048 → All IsByte ((192 + c / 64) ∷ (128 + c % 64) ∷ [])
two_bytes c small = All-cons IsByte (192 + c / 64) ((128 + c % 64) ∷ []) (omega arith) (rest_byte c [] (All-nil IsByte))

three_bytes : (c : ℕ) → c < 65536 → All IsByte ((224 + c / 4096) ∷ (128 + c / 64 % 64) ∷ (128 + c % 64) ∷ [])
three_bytes c small =
    All-cons IsByte (224 + c / 4096) ((128 + c / 64 % 64) ∷ (128 + c % 64) ∷ []) (omega arith)
    (rest_byte (c / 64) ((128 + c % 64) ∷ []) (rest_byte c [] (All-nil IsByte)))

four_bytes : (c : ℕ) → c < 1114112 → All IsByte ((240 + c / 262144) ∷ (128 + c / 4096 % 64) ∷ (128 + c / 64 % 64) ∷ (128 + c % 64) ∷ [])
four_bytes c small =
    All-cons IsByte (240 + c / 262144) ((128 + c / 4096 % 64) ∷ (128 + c / 64 % 64) ∷ (128 + c % 64) ∷ []) (omega arith)
    (rest_byte (c / 4096) ((128 + c / 64 % 64) ∷ (128 + c % 64) ∷ []) (rest_byte (c / 64) ((128 + c % 64) ∷ []) (rest_byte c [] (All-nil IsByte))))

char_bytes : (c : ℕ) → c < 1114112 → All IsByte (encode_utf8 c)
unfolding encode_utf8
char_bytes c small =
    cond_both (ltb c 128) _ _ (All IsByte) (λ e. one_byte c (ltb-true c 128 e))
    (λ _. cond_both (ltb c 2048) _ _ (All IsByte) (λ e. two_bytes c (ltb-true c 2048 e))
    (λ _. cond_both (ltb c 65536) _ _ (All IsByte) (λ e. three_bytes c (ltb-true c 65536 e)) (λ _. four_bytes c small)))

chars_bytes : (cs : List ℕ) → scalars cs ≡ true → All IsByte (encode_utf8_all cs)
chars_bytes [] e = All-nil IsByte
chars_bytes (c ∷ cs) e =
    let parts = and_parts (scalar c) (scalars cs) e in
    All-append IsByte (encode_utf8 c) (encode_utf8_all cs) (char_bytes c (scalar_below c parts.0)) (chars_bytes cs parts.1)

pub utf8_bytes : (t : List ℕ) → IsUtf8 t → All IsByte t
utf8_bytes t h = subst (All IsByte) h.1.1 (chars_bytes h.0 h.1.0)
