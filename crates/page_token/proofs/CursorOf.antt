-- The cursor that a text stands for is the one whose token it is.
use Rattle.std.proofs.Common.{◌≡◌, ℕ, ◌-◌, ◌^◌, ◌<◌, List, length, take, Bool, true, false, cond, Option, Some, None, Result, Ok, Err, refl, sym, ap, ◌∙◌}
use Rattle.std.specs.Prelude.{IfSome, bytes_eq}
use Rattle.std.proofs.lemmas.Slice.Eq.{bytes_eq-Decides}
use Rattle.base64.specs.declared.decode.DecodeError.{DecodeError}
use Rattle.base64.specs.Engines.{url_safe_no_pad}
use Rattle.base64.specs.GeneralPurpose.{decode_of}
use Rattle.page_token.specs.declared.cursor.Cursor.{Cursor}
use Rattle.page_token.specs.Cursors.{if_token, of_payload, cursor_of}
use Rattle.page_token.specs.Laws.{CursorsAreSpelt, OneCursor, SpellingsAreRead}
use Rattle.page_token.specs.Payload.{payload, IsPayload}
use Rattle.page_token.specs.Reading.{cursor_in}
use Rattle.page_token.specs.Token.{token_text, signed_text, IsSpelling}
use Rattle.page_token.proofs.Again.{payload_again}
use Rattle.page_token.proofs.ReadTyped.{read_typed}
use Rattle.page_token.proofs.ReadingLemmas.{same_some}
use Rattle.page_token.proofs.Signed.{decoded, front_is, payload_short, spelling_bytes}

token_cond : (key text : List ℕ) (b : Bool) (d c : Cursor) → bytes_eq (token_text key d) text ≡ b → cursor_in (payload d) ≡ cursor_in (payload d)
    → cond b (Some d) None ≡ Some c → (d ≡ c) × (bytes_eq (token_text key d) text ≡ true)
token_cond key text true d c is again e = (same_some d c e, is)
token_cond key text false d c is again e = absurd cc

read_token : (key text bytes : List ℕ) (o : Option Cursor) (c : Cursor) → cursor_in bytes ≡ o → if_token key text o ≡ Some c → IsSpelling text key c
read_token key text bytes None c is e = absurd cc
read_token key text bytes (Some d) c is e =
    let found = token_cond key text (bytes_eq (token_text key d) text) d c refl refl e in
    let read : cursor_in bytes ≡ Some c = is ∙ ap (λ x. Some x) found.0 in
    let typed = read_typed bytes c read in
    let text_is : token_text key d ≡ text = (bytes_eq-Decides (token_text key d) text).0 found.1 in
    record { value = typed.0; in_range = typed.1; spelt = sym text_is ∙ ap (token_text key) found.0 }

decoded_token : (key text : List ℕ) (r : Result (List ℕ) DecodeError) (c : Cursor) → of_payload key text r ≡ Some c → IsSpelling text key c
decoded_token key text (Ok bytes) c e = read_token key text bytes (cursor_in bytes) c refl e
decoded_token key text (Err f) c e = absurd cc

pub cursors_are_spelt : CursorsAreSpelt
cursors_are_spelt key text c e = decoded_token key text (decode_of url_safe_no_pad (take (length text - 65) text)) c e

pub spellings_are_read : SpellingsAreRead
spellings_are_read key text c short h =
    let bytes = decoded (payload c) (take (length text - 65) text) (spelling_bytes text key c short h) (front_is key (payload c) text h.spelt) in
    let read = payload_again c h.value h.in_range (payload_short text key c short h) in
    let same : bytes_eq (token_text key c) text ≡ true = (bytes_eq-Decides (token_text key c) text).1 (sym h.spelt) in
    rw (bytes, read, same) refl

-- both are what the text is read as
pub one_cursor : OneCursor
one_cursor text key c d short h k = same_some c d (sym (spellings_are_read key text c short h) ∙ spellings_are_read key text d short k)

-- what was found is what the text stands for
some_is : (key text : List ℕ) (o p : Option Cursor) → length text < 2 ^ 64 → cursor_of key text ≡ p
    → IfSome o (IsSpelling text key) → ((c : Cursor) → IsSpelling text key c → o ≡ Some c) → o ≡ p
some_is key text None None short is found every = refl
some_is key text None (Some c) short is found every = every c (cursors_are_spelt key text c is)
some_is key text (Some d) p short is found every = sym (spellings_are_read key text d short found) ∙ is

pub read_is : (key text : List ℕ) (o : Option Cursor) → length text < 2 ^ 64
    → IfSome o (IsSpelling text key) → ((c : Cursor) → IsSpelling text key c → o ≡ Some c) → o ≡ cursor_of key text
read_is key text o short found every = some_is key text o (cursor_of key text) short refl found every

pub none_is : (key text : List ℕ) → length text < 2 ^ 64 → ((c : Cursor) → IsSpelling text key c → ⊥) → None ≡ cursor_of key text
none_is key text short none = read_is key text None short tt (λ c s. absurd (none c s))

spelling_of : (key text bytes : List ℕ) (o : Option Cursor) → text ≡ signed_text key bytes → IfSome o (IsPayload bytes) → IfSome o (IsSpelling text key)
spelling_of key text bytes None is found = tt
spelling_of key text bytes (Some c) is found = record { value = found.value; in_range = found.in_range; spelt = is ∙ ap (signed_text key) found.spelt }

-- what was read of the payload is what the text stands for
pub payload_is : (key text bytes : List ℕ) (o : Option Cursor) → length text < 2 ^ 64 → text ≡ signed_text key bytes
    → ((c : Cursor) → IsSpelling text key c → bytes ≡ payload c)
    → IfSome o (IsPayload bytes) → ((c : Cursor) → IsPayload bytes c → o ≡ Some c) → o ≡ cursor_of key text
payload_is key text bytes o short is one found every =
    read_is key text o short (spelling_of key text bytes o is found)
    (λ c s. every c (record { value = s.value; in_range = s.in_range; spelt = one c s }))
