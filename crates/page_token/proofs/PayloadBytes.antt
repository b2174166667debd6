-- A payload is of bytes.
use Rattle.std.proofs.Common.{ℕ, suc, ◌^◌, ◌<◌, List, [], ◌∷◌, ◌++◌, length, drop, Option, Some, None, All, arith, inl, inr}
use Rattle.std.specs.Prelude.{ℤ, pos, negsuc, FitsSigned, IfSome, ⊤, codes}
use Rattle.std.specs.Int.{w128}
use Rattle.std.specs.List.{flat_map}
use Rattle.std.specs.Str.{IsUtf8}
use Rattle.std.specs.Fmt.{decimal, signed_decimal}
use Rattle.std.proofs.lemmas.Bool.{cases_lt}
use Rattle.std.proofs.lemmas.List.{get_or_past, length-append}
use Rattle.std.proofs.lemmas.List.Elements.{All-nil, All-cons, All-append, All-get_or}
use Rattle.std.proofs.lemmas.Str.Ascii.{All-from_ascii}
use Rattle.std.proofs.lemmas.Fmt.{IsAscii-decimal_wide}
use Rattle.base64.specs.GeneralPurpose.{IsBytes}
use Rattle.hmac_core.proofs.Bytes.{IsByte, utf8_bytes}
use Rattle.page_token.specs.declared.cursor.ListKind.{ListKind}
use Rattle.page_token.specs.declared.cursor.ListKind.TheVariants as kind
use Rattle.page_token.specs.declared.cursor.Asked.{Asked}
use Rattle.page_token.specs.declared.cursor.Asked.TheVariants as asked
use Rattle.page_token.specs.declared.cursor.ListCursor.{ListCursor}
use Rattle.page_token.specs.declared.cursor.TableAccess.{TableAccess}
use Rattle.page_token.specs.declared.cursor.FilesCursor.{FilesCursor}
use Rattle.page_token.specs.declared.cursor.FeedCursor.{FeedCursor}
use Rattle.page_token.specs.declared.cursor.Cursor.{Cursor}
use Rattle.page_token.specs.declared.cursor.Cursor.TheVariants as cursor
use Rattle.page_token.specs.Payload.{field, list_fields, files_fields, feed_fields, fields, kind_field, asked_field, hint_field, payload, IsAskedInRange, IsAskedValue, IsFilesInRange, IsFeedInRange, IsInRange, IsListValue, IsFilesValue, IsFeedValue, IsValue, IsAccessInRange, IsAccessValue}

byte_then : (b : ℕ) (bs : List ℕ) → b < 256 → All IsByte bs → All IsByte (b ∷ bs)
byte_then = All-cons IsByte

one_byte : (b : ℕ) → b < 256 → All IsByte (b ∷ [])
one_byte b small = byte_then b [] small (All-nil IsByte)

both : (xs ys : List ℕ) → All IsByte xs → All IsByte ys → All IsByte (xs ++ ys)
both = All-append IsByte

-- past the end there are zeros
are_bytes : (bs : List ℕ) → All IsByte bs → IsBytes bs
are_bytes bs h i =
    elim (cases_lt i (length bs)) [
      | inl lt ↦ All-get_or IsByte bs i 0 lt h
      | inr le ↦ omega (arith, get_or_past bs i 0 le)
    ]

-- ---- fields

number_bytes : (n : ℕ) → n < 10 ^ 64 → All IsByte (decimal n)
number_bytes n small k d inside =
    let ascii = All-from_ascii (decimal n) (IsAscii-decimal_wide n small) k d inside in
    omega arith

small_bytes : (n : ℕ) → n < 2 ^ 63 → All IsByte (decimal n)
small_bytes n small = number_bytes n (omega arith)

moment_bytes : (z : ℤ) → FitsSigned w128 z → All IsByte (signed_decimal z)
moment_bytes (pos n) fits = number_bytes n (omega (arith, fits.sfits))
moment_bytes (negsuc n) fits = byte_then 45 (decimal (suc n)) (omega arith) (number_bytes (suc n) (omega (arith, fits.sfits)))

asked_bytes : (a : Asked) → IsAskedInRange a → IsAskedValue a → All IsByte (asked_field a)
asked_bytes asked.Latest range value = one_byte 108 (omega arith)
asked_bytes (asked.Version v) range value = byte_then 118 (decimal v) (omega arith) (small_bytes v range)
asked_bytes (asked.Moment z) range value = byte_then 109 (signed_decimal z) (omega arith) (moment_bytes z value)

hint_bytes : (h : Option (List ℕ)) → IfSome h IsUtf8 → All IsByte (hint_field h)
hint_bytes None value = one_byte 45 (omega arith)
hint_bytes (Some t) value = byte_then 43 t (omega arith) (utf8_bytes t value)

kind_bytes : (k : ListKind) → All IsByte (kind_field k)
kind_bytes kind.Shares = one_byte 115 (omega arith)
kind_bytes kind.Schemas = one_byte 99 (omega arith)
kind_bytes kind.Tables = one_byte 116 (omega arith)
kind_bytes kind.AllTables = one_byte 97 (omega arith)

field_bytes : (f : List ℕ) → length f < 2 ^ 64 → All IsByte f → All IsByte (field f)
field_bytes f short h =
    both ((decimal (length f) ++ codes ":") ++ f) (codes ",")
    (both (decimal (length f) ++ codes ":") f (both (decimal (length f)) (codes ":") (number_bytes (length f) (omega arith)) (one_byte 58 (omega arith))) h)
    (one_byte 44 (omega arith))

-- ---- cursors

abbrev AllBytes : List (List ℕ) → Type 0
AllBytes [] = ⊤
AllBytes (f ∷ fs) = All IsByte f × AllBytes fs

short_parts : (f rest : List ℕ) → length (field f ++ rest) < 2 ^ 64 → (length f < 2 ^ 64) × (length rest < 2 ^ 64)
short_parts f rest short = (omega (arith, simp length-append at short), omega (arith, length-append (field f) rest))

joined_bytes : (fs : List (List ℕ)) → length (flat_map field fs) < 2 ^ 64 → AllBytes fs → All IsByte (flat_map field fs)
joined_bytes [] short h = All-nil IsByte
joined_bytes (f ∷ fs) short h =
    let parts = short_parts f (flat_map field fs) short in
    both (field f) (flat_map field fs) (field_bytes f parts.0 h.0) (joined_bytes fs parts.1 h.1)

-- the five fields that each payload begins with
front_bytes : (first recipient share schema name : List ℕ) (rest : List (List ℕ))
    → All IsByte first → IsUtf8 recipient → IsUtf8 share → IsUtf8 schema → IsUtf8 name → AllBytes rest
    → AllBytes (first ∷ recipient ∷ share ∷ schema ∷ name ∷ rest)
front_bytes first recipient share schema name rest h r s c n more =
    (h, (utf8_bytes recipient r, (utf8_bytes share s, (utf8_bytes schema c, (utf8_bytes name n, more)))))

list_bytes : (c : ListCursor) → IsListValue c → AllBytes (list_fields c)
list_bytes c value = front_bytes (kind_field c.kind) c.recipient c.share c.schema c.after [] (kind_bytes c.kind) value.0 value.1 value.2 value.3 tt

access_bytes : (first : List ℕ) (a : TableAccess) (rest : List (List ℕ)) → All IsByte first → IsAccessValue a → IsAccessInRange a → AllBytes rest
    → AllBytes (first ∷ a.recipient ∷ a.share ∷ a.schema ∷ a.table ∷ decimal a.grant ∷ decimal a.binding ∷ rest)
access_bytes first a rest h value range more =
    front_bytes first a.recipient a.share a.schema a.table (decimal a.grant ∷ decimal a.binding ∷ rest) h value.0 value.1 value.2 value.3
    (small_bytes a.grant range.0, (small_bytes a.binding range.1, more))

files_bytes : (c : FilesCursor) → IsFilesValue c → IsFilesInRange c → AllBytes (files_fields c)
files_bytes c value range =
    let answered : AllBytes (drop 8 (files_fields c)) = (small_bytes c.version range.2, (hint_bytes c.hint value.2, (small_bytes c.place range.3, tt))) in
    access_bytes (codes "q") c.access (drop 7 (files_fields c)) (one_byte 113 (omega arith)) value.0 range.0 (asked_bytes c.asked range.1 value.1, answered)

feed_bytes : (c : FeedCursor) → IsFeedValue c → IsFeedInRange c → AllBytes (feed_fields c)
feed_bytes c value range =
    let answered : AllBytes (drop 9 (feed_fields c)) = (small_bytes c.from range.3, (small_bytes c.to range.4, (small_bytes c.place range.5, tt))) in
    access_bytes (codes "f") c.access (drop 7 (feed_fields c)) (one_byte 102 (omega arith)) value.0 range.0
    (asked_bytes c.asked_from range.1 value.1, (asked_bytes c.asked_to range.2 value.2, answered))

fields_bytes : (c : Cursor) → IsValue c → IsInRange c → AllBytes (fields c)
fields_bytes (cursor.List c) value range = list_bytes c value
fields_bytes (cursor.Files c) value range = files_bytes c value range
fields_bytes (cursor.Feed c) value range = feed_bytes c value range

pub payload_bytes : (c : Cursor) → IsValue c → IsInRange c → length (payload c) < 2 ^ 64 → IsBytes (payload c)
payload_bytes c value range short = are_bytes (payload c) (joined_bytes (fields c) short (fields_bytes c value range))
