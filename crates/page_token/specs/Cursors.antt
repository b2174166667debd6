-- The cursor that a text stands for, as a function: what is in front of the tag is decoded and read, and then spelt again and
-- compared. By the laws of `Laws` it is the cursor whose token the text is.
use Rattle.std.specs.Prelude.{ℕ, ◌-◌, List, Option, Some, None, Result, Ok, Err, length, take, bytes_eq, if◌then◌else◌}
use Rattle.base64.specs.declared.decode.DecodeError.{DecodeError}
use Rattle.base64.specs.Engines.{url_safe_no_pad}
use Rattle.base64.specs.GeneralPurpose.{decode_of}
use Rattle.page_token.specs.declared.cursor.Cursor.{Cursor}
use Rattle.page_token.specs.Reading.{cursor_in}
use Rattle.page_token.specs.Token.{token_text}

-- the cursor, where the text is its token
abbrev pub if_token : List ℕ → List ℕ → Option Cursor → Option Cursor
if_token key text None = None
if_token key text (Some c) = if bytes_eq (token_text key c) text then Some c else None

abbrev pub of_payload : List ℕ → List ℕ → Result (List ℕ) DecodeError → Option Cursor
of_payload key text (Ok payload) = if_token key text (cursor_in payload)
of_payload key text (Err e) = None

-- behind the payload stand a dot and the 64 digits of the tag
abbrev pub cursor_of : List ℕ → List ℕ → Option Cursor
cursor_of key text = of_payload key text (decode_of url_safe_no_pad (take (length text - 65) text))
