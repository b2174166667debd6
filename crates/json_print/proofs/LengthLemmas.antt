-- The length of a text, token after token.
use Rattle.std.proofs.Common.{◌≡◌, ℕ, ◌+◌, ◌*◌, ◌^◌, ◌<◌, ◌≤◌, List, [], ◌∷◌, ◌++◌, Bool, true, false, cond, not, ◌&&◌, fold, length, length-append, refl, ap, ◌∙◌, arith}
use mir.Val.{bool_byte}
use Rattle.std.specs.Prelude.{nat_lt}
use Rattle.json.specs.Token.{Token, boolean}
use Rattle.json.specs.Print.{print, print_from, ends, begins, separator, token_text, escape_byte, escape_letter}
use Rattle.serde_json.specs.Data.{Data}
use Rattle.serde_json.specs.Written.{compact_text}
use Rattle.serde_json.proofs.Texts.{print-outline}
use Rattle.json_print.specs.Tokens.{value_tokens}
use Rattle.json_print.specs.Lengths.{Counts, capped, nothing, with_token}
use Rattle.json_print.specs.declared.lengths.Length.{Length}

-- ---- a text

escaped : (x a : ℕ) (long : List ℕ) (short control : Bool) → length long ≡ 6
    → length (cond short (92 ∷ a ∷ []) (cond control long (x ∷ []))) ≡ 1 + (bool_byte short + bool_byte (control && not short) * 5)
escaped x a long true true e = refl
escaped x a long true false e = refl
escaped x a long false true e = e
escaped x a long false false e = refl

pub length-escape_byte : (x : ℕ) → length (escape_byte x) ≡ 1 + (bool_byte (nat_lt 0 (escape_letter x)) + bool_byte (nat_lt x 32 && not (nat_lt 0 (escape_letter x))) * 5)
unfolding escape_byte
length-escape_byte x = escaped x (escape_letter x) _ (nat_lt 0 (escape_letter x)) (nat_lt x 32) refl

pub escaped_few : (short control : Bool) → bool_byte short + bool_byte (control && not short) * 5 ≤ 5
escaped_few true true = omega arith
escaped_few true false = omega arith
escaped_few false true = omega arith
escaped_few false false = omega arith

-- ---- tokens

comma_length : (b : Bool) → length {A = ℕ} (cond b (44 ∷ []) []) ≡ cond b 1 0
comma_length true = refl
comma_length false = refl

-- one token more, of a known length
pub one_more : (at : Length) (t : Token) (n : ℕ) → n ≡ capped (length (token_text t))
    → record { bytes = capped (at.bytes + (cond (at.after_value && begins t) 1 0 + n)); after_value = ends t } ≡ with_token at t
one_more at t n e =
    let whole = length-append (separator at.after_value t) (token_text t) in
    let comma = comma_length (at.after_value && begins t) in
    ap (λ b. record { bytes = b; after_value = ends t }) (omega (arith, whole, comma, e))

pub flag_length : (b : Bool) → length (token_text (boolean b)) ≡ capped (length (token_text (boolean b)))
flag_length true = refl
flag_length false = refl

-- tokens, by the length of their text
tokens_counted : (ts : List Token) (at : Length) → at.bytes < 2 ^ 64 → (fold with_token at ts).bytes ≡ capped (at.bytes + length (print_from at.after_value ts))
unfolding print_from
tokens_counted [] at h = omega arith
tokens_counted (t ∷ ts) at h =
    let one = length-append (separator at.after_value t) (token_text t) in
    let rest = length-append (token_text t) (print_from (ends t) ts) in
    let whole = length-append (separator at.after_value t) (token_text t ++ print_from (ends t) ts) in
    let small : (with_token at t).bytes < 2 ^ 64 = omega arith in
    tokens_counted ts (with_token at t) small ∙ omega (arith, one, rest, whole)

-- the length of a whole text
pub text_counted : {at : Length} (d : Data) → Counts nothing at (value_tokens d) → at.bytes ≡ capped (length (compact_text d))
text_counted {at} d counted =
    let text = ap length (print-outline d) in
    let whole : 0 + length (print (value_tokens d)) ≡ length (compact_text d) = omega (arith, text) in
    ap (λ (l : Length). l.bytes) counted ∙ tokens_counted (value_tokens d) nothing (omega arith) ∙ ap capped whole
