-- The token of a cursor is read as it.
use Rattle.std.proofs.Common.{◌≡◌, ℕ, ◌^◌, ◌<◌, List, Some, refl, length}
use Rattle.page_token.specs.Cursors.{cursor_of}
use Rattle.page_token.specs.Payload.{IsInRange, IsValue}
use Rattle.page_token.specs.Token.{token_text}
use Rattle.page_token.specs.declared.cursor.Cursor.{Cursor}
use Rattle.page_token.proofs.CursorOf.{spellings_are_read}

pub token_again : (key : List ℕ) (c : Cursor) → IsValue c → IsInRange c → length (token_text key c) < 2 ^ 64 → cursor_of key (token_text key c) ≡ Some c
token_again key c value range short = spellings_are_read key (token_text key c) c short (record { value = value; in_range = range; spelt = refl })
