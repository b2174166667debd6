-- The payload of a cursor: its fields one after another, each with its length.
use Rattle.std.specs.Prelude.{◌≡◌, ℕ, FitsSigned, ◌^◌, ◌<◌, List, [], ◌∷◌, ◌++◌, length, Option, Some, None, ⊤, IfSome, codes}
use Rattle.std.specs.List.{flat_map}
use Rattle.std.specs.Str.{IsUtf8}
use Rattle.std.specs.Fmt.{decimal, signed_decimal}
use Rattle.std.specs.Int.{w128}
use Rattle.page_token.specs.declared.cursor.ListKind.{ListKind}
use Rattle.page_token.specs.declared.cursor.ListKind.TheVariants as kind
use Rattle.page_token.specs.declared.cursor.Asked.{Asked}
use Rattle.page_token.specs.declared.cursor.Asked.TheVariants as asked
use Rattle.page_token.specs.declared.cursor.ListCursor.{ListCursor}
use Rattle.page_token.specs.declared.cursor.TableAccess.{TableAccess}
use Rattle.page_token.specs.declared.cursor.FilesCursor.{FilesCursor}
use Rattle.page_token.specs.declared.cursor.FeedCursor.{FeedCursor}
use Rattle.page_token.specs.declared.cursor.Cursor.{Cursor}
use Rattle.page_token.specs.declared.cursor.Cursor.TheVariants as cursor

-- ---- the grammar

-- the length in bytes in decimal, a colon, the field, a comma
abbrev pub field : List ℕ → List ℕ
field text = decimal (length text) ++ codes ":" ++ text ++ codes ","

-- the first field of a listing
abbrev pub kind_field : ListKind → List ℕ
kind_field kind.Shares = codes "s"
kind_field kind.Schemas = codes "c"
kind_field kind.Tables = codes "t"
kind_field kind.AllTables = codes "a"

-- the latest, a version, or a moment with a minus where it is negative
abbrev pub asked_field : Asked → List ℕ
asked_field asked.Latest = codes "l"
asked_field (asked.Version version) = codes "v" ++ decimal version
asked_field (asked.Moment moment) = codes "m" ++ signed_decimal moment

abbrev pub hint_field : Option (List ℕ) → List ℕ
hint_field None = codes "-"
hint_field (Some text) = codes "+" ++ text

abbrev pub list_fields : ListCursor → List (List ℕ)
list_fields c = kind_field c.kind ∷ c.recipient ∷ c.share ∷ c.schema ∷ c.after ∷ []

abbrev pub files_fields : FilesCursor → List (List ℕ)
files_fields c =
    codes "q" ∷ c.access.recipient ∷ c.access.share ∷ c.access.schema ∷ c.access.table ∷ decimal c.access.grant ∷ decimal c.access.binding
    ∷ asked_field c.asked ∷ decimal c.version ∷ hint_field c.hint ∷ decimal c.place ∷ []

abbrev pub feed_fields : FeedCursor → List (List ℕ)
feed_fields c =
    codes "f" ∷ c.access.recipient ∷ c.access.share ∷ c.access.schema ∷ c.access.table ∷ decimal c.access.grant ∷ decimal c.access.binding
    ∷ asked_field c.asked_from ∷ asked_field c.asked_to ∷ decimal c.from ∷ decimal c.to ∷ decimal c.place ∷ []

abbrev pub fields : Cursor → List (List ℕ)
fields (cursor.List c) = list_fields c
fields (cursor.Files c) = files_fields c
fields (cursor.Feed c) = feed_fields c

abbrev pub payload : Cursor → List ℕ
payload c = flat_map field (fields c)

-- ---- which cursors have a payload

abbrev pub IsAskedInRange : Asked → Type 0
IsAskedInRange asked.Latest = ⊤
IsAskedInRange (asked.Version version) = version < 2 ^ 63
IsAskedInRange (asked.Moment moment) = ⊤

-- editions, versions and places are below 2^63
abbrev pub IsAccessInRange : TableAccess → Type 0
IsAccessInRange a = (a.grant < 2 ^ 63) × (a.binding < 2 ^ 63)

abbrev pub IsFilesInRange : FilesCursor → Type 0
IsFilesInRange c = IsAccessInRange c.access × IsAskedInRange c.asked × (c.version < 2 ^ 63) × (c.place < 2 ^ 63)

abbrev pub IsFeedInRange : FeedCursor → Type 0
IsFeedInRange c =
    IsAccessInRange c.access × IsAskedInRange c.asked_from × IsAskedInRange c.asked_to
    × (c.from < 2 ^ 63) × (c.to < 2 ^ 63) × (c.place < 2 ^ 63)

abbrev pub IsInRange : Cursor → Type 0
IsInRange (cursor.List c) = ⊤
IsInRange (cursor.Files c) = IsFilesInRange c
IsInRange (cursor.Feed c) = IsFeedInRange c

-- What a Rust cursor satisfies by its type: its texts are UTF-8, and its moments have 128 bits.
abbrev pub IsAskedValue : Asked → Type 0
IsAskedValue asked.Latest = ⊤
IsAskedValue (asked.Version version) = ⊤
IsAskedValue (asked.Moment moment) = FitsSigned w128 moment

abbrev pub IsListValue : ListCursor → Type 0
IsListValue c = IsUtf8 c.recipient × IsUtf8 c.share × IsUtf8 c.schema × IsUtf8 c.after

abbrev pub IsAccessValue : TableAccess → Type 0
IsAccessValue a = IsUtf8 a.recipient × IsUtf8 a.share × IsUtf8 a.schema × IsUtf8 a.table

abbrev pub IsFilesValue : FilesCursor → Type 0
IsFilesValue c = IsAccessValue c.access × IsAskedValue c.asked × IfSome c.hint IsUtf8

abbrev pub IsFeedValue : FeedCursor → Type 0
IsFeedValue c = IsAccessValue c.access × IsAskedValue c.asked_from × IsAskedValue c.asked_to

abbrev pub IsValue : Cursor → Type 0
IsValue (cursor.List c) = IsListValue c
IsValue (cursor.Files c) = IsFilesValue c
IsValue (cursor.Feed c) = IsFeedValue c

-- the bytes are this cursor's payload
pub record IsPayload (bytes : List ℕ) (c : Cursor) : Type 0 where
  pub value : IsValue c
  pub in_range : IsInRange c
  pub spelt : bytes ≡ payload c
