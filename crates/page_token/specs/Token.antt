-- The text of a page token (RFC 4648 for its base64 and hexadecimal digits).
use Rattle.std.specs.Prelude.{◌≡◌, ℕ, ◌-◌, ◌==◌, List, [], ◌∷◌, ◌++◌, Option, Some, None, length, take, drop, nat_lt, if◌then◌else◌, codes}
use Rattle.base64.specs.Engines.{url_safe_no_pad}
use Rattle.base64.specs.GeneralPurpose.{encode_of}
use Rattle.hex.specs.Hex.{encode_lower}
use Rattle.hmac_core.specs.Hmac.{are_tag_digits, hmac}
use Rattle.page_token.specs.declared.cursor.Cursor.{Cursor}
use Rattle.page_token.specs.Payload.{payload, IsInRange, IsValue}

-- a dot, and the tag in lower-case hexadecimal digits (section 8)
abbrev pub tag_text : List ℕ → List ℕ → List ℕ
tag_text key bytes = codes "." ++ encode_lower (hmac key bytes)

-- base64url without padding (section 5), and the tag
abbrev pub signed_text : List ℕ → List ℕ → List ℕ
signed_text key bytes = encode_of url_safe_no_pad bytes ++ tag_text key bytes

abbrev pub token_text : List ℕ → Cursor → List ℕ
token_text key cursor = signed_text key (payload cursor)

-- the text is the token of this cursor under the key
pub record IsSpelling (text key : List ℕ) (cursor : Cursor) : Type 0 where
  pub value : IsValue cursor
  pub in_range : IsInRange cursor
  pub spelt : text ≡ token_text key cursor

-- the text cut before the dot and behind it, where a dot and the digits of a tag stand at its end
abbrev pub tail_parts : List ℕ → List ℕ → Option (List ℕ × List ℕ)
tail_parts front [] = None
tail_parts front (b ∷ digits) = if b == 46 then (if are_tag_digits digits then Some (front, digits) else None) else None

abbrev pub parts_of : List ℕ → Option (List ℕ × List ℕ)
parts_of text = if nat_lt (length text) 65 then None else tail_parts (take (length text - 65) text) (drop (length text - 65) text)
