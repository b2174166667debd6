-- The parts of a signed payload's text.
use Rattle.std.proofs.Common.{◌≡◌, ℕ, ◌-◌, ◌^◌, ◌<◌, ◌≤◌, List, [], length, take, drop, ltb, false, Option, Some, unwrap_or, Result, Ok, Err, refl, ap, ◌∙◌, arith, rules}
use Rattle.std.proofs.lemmas.Bool.{false_from_ne_true, ltb-true}
use Rattle.std.specs.Prelude.{IfOk}
use Rattle.std.proofs.lemmas.List.{take_at, drop_at, length-append}
use Rattle.base64.specs.declared.decode.DecodeError.{DecodeError}
use Rattle.base64.specs.Rfc4648.{encode_symbols}
use Rattle.base64.specs.Engines.{url_safe_no_pad}
use Rattle.base64.specs.GeneralPurpose.{encode_of, decode_of, IsBytes}
use Rattle.base64.proofs.RoundTrip.{length-encode_symbols}
use Rattle.base64.proofs.EngineFacts.{decode_of-encode_of}
use Rattle.hex.specs.Hex.{encode_lower, lower_digits}
use Rattle.hex.proofs.HexLemmas.{length-encode_with}
use Rattle.hmac_core.specs.Hmac.{hmac}
use Rattle.hmac_core.proofs.Facts.{digits_are_digits, length-hmac}
use Rattle.page_token.specs.declared.cursor.Cursor.{Cursor}
use Rattle.page_token.specs.Payload.{payload}
use Rattle.page_token.specs.Token.{tag_text, signed_text, parts_of, IsSpelling}
use Rattle.page_token.proofs.PayloadBytes.{payload_bytes}

pub length-tag_text : (key bytes : List ℕ) → length (tag_text key bytes) ≡ 65
length-tag_text key bytes =
    let digits = length-encode_with lower_digits (hmac key bytes) in
    let tag = length-hmac key bytes in
    omega arith

too_short : (key bytes text : List ℕ) → length text < 65 → text ≡ signed_text key bytes → ⊥
too_short key bytes text short e =
    absurd (omega (arith, ap length e, length-append (encode_of url_safe_no_pad bytes) (tag_text key bytes), length-tag_text key bytes))

-- where the text is cut
cut_at : (key bytes text : List ℕ) → text ≡ signed_text key bytes → length (encode_of url_safe_no_pad bytes) ≡ length text - 65
cut_at key bytes text e =
    omega (arith, ap length e, length-append (encode_of url_safe_no_pad bytes) (tag_text key bytes), length-tag_text key bytes)

pub front_is : (key bytes text : List ℕ) → text ≡ signed_text key bytes → take (length text - 65) text ≡ encode_of url_safe_no_pad bytes
front_is key bytes text e =
    ap (take (length text - 65)) e ∙ take_at (encode_of url_safe_no_pad bytes) (tag_text key bytes) (length text - 65) (cut_at key bytes text e)

pub tail_is : (key bytes text : List ℕ) → text ≡ signed_text key bytes → drop (length text - 65) text ≡ tag_text key bytes
tail_is key bytes text e =
    ap (drop (length text - 65)) e ∙ drop_at (encode_of url_safe_no_pad bytes) (tag_text key bytes) (length text - 65) (cut_at key bytes text e)

-- a signed text has the form of a token
pub parts_again : (key bytes text : List ℕ) → text ≡ signed_text key bytes
    → parts_of text ≡ Some (encode_of url_safe_no_pad bytes, encode_lower (hmac key bytes))
parts_again key bytes text e =
    let long : ltb (length text) 65 ≡ false = false_from_ne_true _ (λ short. too_short key bytes text (ltb-true _ _ short) e) in
    let front = front_is key bytes text e in
    let tail = tail_is key bytes text e in
    let digits = digits_are_digits key bytes in
    rw (long, front, tail, digits) refl

pub same_parts : {A B : Type 0} (a x : A) (b y : B) → ◌≡◌ {A = Option (A × B)} (Some (a, b)) (Some (x, y)) → (a ≡ x) × (b ≡ y)
same_parts {A} {B} a x b y e =
    let first : (A × B) → A = λ p. p.0 in
    let second : (A × B) → B = λ p. p.1 in
    let pair : (A × B) = (a, b) in
    (ap (λ o. first (unwrap_or o pair)) e, ap (λ o. second (unwrap_or o pair)) e)

-- what the front of the text decodes to
pub decoded : (bytes front : List ℕ) → IsBytes bytes → front ≡ encode_of url_safe_no_pad bytes → decode_of url_safe_no_pad front ≡ Ok bytes
decoded bytes front h e = ap (decode_of url_safe_no_pad) e ∙ decode_of-encode_of url_safe_no_pad bytes (search rules) h

-- a payload is no longer than its token
shorter : (bytes : List ℕ) → length bytes ≤ length (encode_of url_safe_no_pad bytes)
shorter bytes = omega (arith, length-append (encode_symbols url_safe_no_pad.encode_table bytes) [], length-encode_symbols url_safe_no_pad.encode_table bytes)

-- so a cursor's payload is shorter than 2^64
pub payload_short : (text key : List ℕ) (c : Cursor) → length text < 2 ^ 64 → IsSpelling text key c → length (payload c) < 2 ^ 64
payload_short text key c short h =
    omega (arith, ap length h.spelt, length-append (encode_of url_safe_no_pad (payload c)) (tag_text key (payload c)), shorter (payload c))

pub spelling_bytes : (text key : List ℕ) (c : Cursor) → length text < 2 ^ 64 → IsSpelling text key c → IsBytes (payload c)
spelling_bytes text key c short h = payload_bytes c h.value h.in_range (payload_short text key c short h)

pub same_bytes : (a b : List ℕ) → Some a ≡ Some b → a ≡ b
same_bytes a b e = cc

pub same_payload : (a b : List ℕ) (r : Result (List ℕ) DecodeError) → r ≡ Ok a → r ≡ Ok b → a ≡ b
same_payload a b r d e = cc

pub if_ok_both : {A E : Type 0} (r : Result A E) (P Q R : A → Type 0) → ((x : A) → P x → Q x → R x) → IfOk r P → IfOk r Q → IfOk r R
if_ok_both (Ok x) P Q R f g h = f x g h
if_ok_both (Err e) P Q R f g h = tt
