-- Laws of tokens.
use Rattle.std.specs.Prelude.{◌≡◌, ℕ, ◌^◌, ◌<◌, List, Some, length}
use Rattle.page_token.specs.declared.cursor.Cursor.{Cursor}
use Rattle.page_token.specs.Cursors.{cursor_of}
use Rattle.page_token.specs.Token.{IsSpelling}

-- what is read is what the text spells
abbrev pub CursorsAreSpelt : Type 0
CursorsAreSpelt = (key text : List ℕ) (c : Cursor) → cursor_of key text ≡ Some c → IsSpelling text key c

-- what a text spells is read; no text of the code has 2^64 bytes
abbrev pub SpellingsAreRead : Type 0
SpellingsAreRead = (key text : List ℕ) (c : Cursor) → length text < 2 ^ 64 → IsSpelling text key c → cursor_of key text ≡ Some c

-- no two cursors have one token under a key
abbrev pub OneCursor : Type 0
OneCursor = (text key : List ℕ) (c d : Cursor) → length text < 2 ^ 64 → IsSpelling text key c → IsSpelling text key d → c ≡ d
