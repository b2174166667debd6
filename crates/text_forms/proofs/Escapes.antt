-- Escaped texts: the set of `src/escape.rt` against the words of the specification, and what they are read as.
use Rattle.std.proofs.Common.{◌≡◌, ◌≢◌, ℕ, ◌<◌, Bool, true, false, not, cond, List, [], ◌∷◌, ◌++◌, All, refl, ap, sym, subst, ◌∙◌, arith}
use Rattle.std.proofs.lemmas.Bool.{agree_below, agree_below_at}
use Rattle.std.proofs.lemmas.List.Elements.{All-head, All-tail}
use Rattle.percent_encoding.specs.AsciiSet.{should_percent_encode}
use Rattle.percent_encoding.specs.Percent.{percent_encode_byte, encode_byte, percent_encode, percent_decode}
use Rattle.percent_encoding.proofs.PercentLemmas.{round_trip, IsByte, IsEscapeByte, All-percent_encode}
use Rattle.text_forms.specs.declared.escape.TheConstants.{RESERVED}
use Rattle.text_forms.specs.Escape.{is_unreserved, escaped_byte, escaped}

set_agrees : agree_below (should_percent_encode RESERVED) (λ b. not (is_unreserved b)) 256 ≡ true
unfolding should_percent_encode
set_agrees = refl

other_way : (b : ℕ) (kept : Bool) → cond (not kept) (percent_encode_byte b) (b ∷ []) ≡ cond kept (b ∷ []) (percent_encode_byte b)
other_way b true = refl
other_way b false = refl

encode_byte-escaped_byte : (b : ℕ) → b < 256 → encode_byte RESERVED b ≡ escaped_byte b
encode_byte-escaped_byte b small =
    ap (λ x. cond x (percent_encode_byte b) (b ∷ [])) (agree_below_at (should_percent_encode RESERVED) (λ x. not (is_unreserved x)) 256 b set_agrees small)
    ∙ other_way b (is_unreserved b)

pub percent_encode-escaped : (bytes : List ℕ) → All IsByte bytes → percent_encode RESERVED bytes ≡ escaped bytes
unfolding percent_encode escaped
percent_encode-escaped [] small = refl
percent_encode-escaped (b ∷ bytes) small =
    let first : encode_byte RESERVED b ≡ escaped_byte b = encode_byte-escaped_byte b (All-head IsByte b bytes small) in
    let rest : percent_encode RESERVED bytes ≡ escaped bytes = percent_encode-escaped bytes (All-tail IsByte b bytes small) in
    ap (λ x. x ++ percent_encode RESERVED bytes) first ∙ ap (λ x. escaped_byte b ++ x) rest

-- what is escaped is read as what it was
pub percent_decode-escaped : (bytes : List ℕ) → All IsByte bytes → percent_decode (escaped bytes) ≡ bytes
percent_decode-escaped bytes small =
    ap percent_decode (sym (percent_encode-escaped bytes small)) ∙ round_trip RESERVED bytes refl small

-- a byte that is escaped, and isn't of an escape, stands in no escaped text
free_of : (m : ℕ) → should_percent_encode RESERVED m ≡ true → ((b : ℕ) → IsEscapeByte b → b ≢ m) → (bytes : List ℕ) → All IsByte bytes → All (λ b. b ≢ m) (escaped bytes)
free_of m is_escaped other bytes small =
    let kept_is_other : (b : ℕ) → should_percent_encode RESERVED b ≡ false → b ≢ m =
    λ b kept same. (let no : should_percent_encode RESERVED m ≡ false = subst (λ x. should_percent_encode RESERVED x ≡ false) same kept in absurd cc) in
    subst (All (λ b. b ≢ m)) (percent_encode-escaped bytes small) (All-percent_encode (λ b. b ≢ m) RESERVED bytes kept_is_other other)

no_slash : (b : ℕ) → IsEscapeByte b → b ≢ 47
no_slash b h = grind arith

no_question_mark : (b : ℕ) → IsEscapeByte b → b ≢ 63
no_question_mark b h = grind arith

pub free_of_slash : (bytes : List ℕ) → All IsByte bytes → All (λ b. b ≢ 47) (escaped bytes)
unfolding should_percent_encode
free_of_slash bytes small = free_of 47 refl no_slash bytes small

pub free_of_question_mark : (bytes : List ℕ) → All IsByte bytes → All (λ b. b ≢ 63) (escaped bytes)
unfolding should_percent_encode
free_of_question_mark bytes small = free_of 63 refl no_question_mark bytes small
