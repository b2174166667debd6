-- How payloads are read, from left to right. What is read is spelt again and compared, so this may take more than
-- payloads: leading zeros, and any byte in a comma's place.
use Rattle.std.specs.Prelude.{ℕ, ◌+◌, ◌-◌, ◌*◌, ◌^◌, ◌&&◌, ◌==◌, ℤ, pos, negsuc, List, [], ◌∷◌, length, take, drop, Option, Some, None, nat_lt, if◌then◌else◌, position}
use Rattle.std.specs.Char.{is_ascii_digit}
use Rattle.std.specs.Str.{is_utf8}
use Rattle.json_tree.specs.Options.{◌>>=◌}
use Rattle.page_token.specs.declared.cursor.ListKind.{ListKind}
use Rattle.page_token.specs.declared.cursor.ListKind.TheVariants as kind
use Rattle.page_token.specs.declared.cursor.Asked.{Asked}
use Rattle.page_token.specs.declared.cursor.Asked.TheVariants as asked
use Rattle.page_token.specs.declared.cursor.ListCursor.{ListCursor}
use Rattle.page_token.specs.declared.cursor.TableAccess.{TableAccess}
use Rattle.page_token.specs.declared.cursor.FilesCursor.{FilesCursor}
use Rattle.page_token.specs.declared.cursor.FeedCursor.{FeedCursor}
use Rattle.page_token.specs.declared.cursor.Cursor.{Cursor}
use Rattle.page_token.specs.declared.cursor.Cursor.TheVariants as cursor

-- the number that digits write behind those of n, below the limit
abbrev pub digits_after : ℕ → ℕ → List ℕ → Option ℕ
digits_after limit n [] = Some n
digits_after limit n (d ∷ ds) =
    if is_ascii_digit d && nat_lt (n * 10 + (d - 48)) limit then digits_after limit (n * 10 + (d - 48)) ds else None

abbrev pub digits_in : ℕ → List ℕ → Option ℕ
digits_in limit digits = digits_after limit 0 digits

-- a field, and the bytes after it and one byte more
unfoldable pub field_in : List ℕ → Option (List ℕ × List ℕ)
field_in bytes = do
  colon ← position (λ b. b == 58) bytes
  len ← digits_in (2 ^ 64) (take colon bytes)
  if nat_lt len (length (drop 1 (drop colon bytes))) then Some (take len (drop 1 (drop colon bytes)), drop 1 (drop len (drop 1 (drop colon bytes)))) else None

unfoldable pub number_in : List ℕ → Option (ℕ × List ℕ)
number_in bytes = do
  f ← field_in bytes
  n ← digits_in (2 ^ 63) f.0
  Some (n, f.1)

-- digits, with a minus before a number that isn't 0
unfoldable pub moment_of : List ℕ → Option ℤ
moment_of [] = None
moment_of (b ∷ bs) = if b == 45 then (do
  n ← digits_in (2 ^ 127 + 1) bs
  if n == 0 then None else Some (negsuc (n - 1))) else (do
    n ← digits_in (2 ^ 127) (b ∷ bs)
    Some (pos n))

unfoldable pub asked_of : List ℕ → Option Asked
asked_of [] = None
asked_of (b ∷ bs) =
    if b == 108 then Some asked.Latest
    else if b == 118 then (digits_in (2 ^ 63) bs >>= λ n. Some (asked.Version n))
    else if b == 109 then (moment_of bs >>= λ z. Some (asked.Moment z))
    else None

abbrev pub text_of : List ℕ → Option (List ℕ)
text_of bytes = if is_utf8 bytes then Some bytes else None

unfoldable pub hint_of : List ℕ → Option (Option (List ℕ))
hint_of [] = None
hint_of (b ∷ bs) =
    if b == 45 then Some None
    else if b == 43 then (text_of bs >>= λ t. Some (Some t))
    else None

unfoldable pub list_in : ListKind → List ℕ → Option ListCursor
list_in kind bytes = do
  recipient ← field_in bytes
  share ← field_in recipient.1
  schema ← field_in share.1
  after ← field_in schema.1
  recipient_text ← text_of recipient.0
  share_text ← text_of share.0
  schema_text ← text_of schema.0
  after_text ← text_of after.0
  Some (record { kind = kind; recipient = recipient_text; share = share_text; schema = schema_text; after = after_text })

-- who asked for which table, and the bytes behind
unfoldable pub access_in : List ℕ → Option (TableAccess × List ℕ)
access_in bytes = do
  recipient ← field_in bytes
  share ← field_in recipient.1
  schema ← field_in share.1
  table ← field_in schema.1
  grant ← number_in table.1
  binding ← number_in grant.1
  recipient_text ← text_of recipient.0
  share_text ← text_of share.0
  schema_text ← text_of schema.0
  table_text ← text_of table.0
  Some (record { recipient = recipient_text; share = share_text; schema = schema_text; table = table_text; grant = grant.0; binding = binding.0 }, binding.1)

unfoldable pub files_in : List ℕ → Option FilesCursor
files_in bytes = do
  access ← access_in bytes
  asked ← field_in access.1
  version ← number_in asked.1
  hint ← field_in version.1
  place ← number_in hint.1
  hint_text ← hint_of hint.0
  asked_state ← asked_of asked.0
  Some (record { access = access.0; asked = asked_state; version = version.0; hint = hint_text; place = place.0 })

-- the cursor of those parts, of which two are read
abbrev pub feed_of : TableAccess → List ℕ → List ℕ → ℕ → ℕ → ℕ → Option FeedCursor
feed_of access from_field to_field first last start = do
  first_state ← asked_of from_field
  last_state ← asked_of to_field
  Some (record { access = access; asked_from = first_state; asked_to = last_state; from = first; to = last; place = start })

unfoldable pub feed_in : List ℕ → Option FeedCursor
feed_in bytes = do
  access ← access_in bytes
  asked_from ← field_in access.1
  asked_to ← field_in asked_from.1
  from ← number_in asked_to.1
  to ← number_in from.1
  place ← number_in to.1
  feed_of access.0 asked_from.0 asked_to.0 from.0 to.0 place.0

abbrev pub listing_in : ListKind → List ℕ → Option Cursor
listing_in k bytes = list_in k bytes >>= λ c. Some (cursor.List c)

-- by the first field
unfoldable pub by_first : List ℕ → List ℕ → Option Cursor
by_first [] rest = None
by_first (b ∷ bs) rest =
    if b == 115 then listing_in kind.Shares rest
    else if b == 99 then listing_in kind.Schemas rest
    else if b == 116 then listing_in kind.Tables rest
    else if b == 97 then listing_in kind.AllTables rest
    else if b == 113 then (files_in rest >>= λ c. Some (cursor.Files c))
    else if b == 102 then (feed_in rest >>= λ c. Some (cursor.Feed c))
    else None

unfoldable pub cursor_in : List ℕ → Option Cursor
cursor_in payload = do
  first ← field_in payload
  by_first first.0 first.1
