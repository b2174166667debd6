-- The record of an edit is short.
use Rattle.std.proofs.Common.{◌≡◌, ℕ, ◌<◌, ◌≤◌, ◌^◌, ◌+◌, ◌*◌, List, [], ◌∷◌, ◌++◌, Bool, true, false, Option, Some, None, refl, sym, ap, ◌∙◌, arith, codes, length, length-append, flat_map, IfSome, option_map, nat_lt, nat_le, leb-true}
use Rattle.std.specs.Prelude.{decimal}
use Rattle.std.proofs.lemmas.Bool.{and_parts}
use Rattle.std.proofs.lemmas.Fmt.{length-decimal-le}
use Rattle.json.specs.Print.{escape, escape_byte, escape_letter, quoted}
use Rattle.serde_json.specs.Data.{Data, boolean, string}
use Rattle.serde_json.specs.Written.{comma_if, compact_text, members_text}
use Rattle.hex.specs.Hex.{encode_lower, encode_with, lower_digits}
use Rattle.json_print.specs.Fields.{Field, members_of, object_of}
use Rattle.json_print.specs.Values.{count_value}
use Rattle.json_print.proofs.LengthLemmas.{escaped_few, length-escape_byte}
use Rattle.edge_core.specs.Names.{is_name}
use Rattle.share_catalog.specs.Grammar.{is_name_byte}
use Rattle.share_catalog.specs.Locations.{is_location}
use Rattle.share_catalog.specs.declared.credential.Credential.{Credential}
use Rattle.share_catalog.specs.declared.table_name.TableName.{TableName}
use Rattle.share_catalog.specs.declared.edit.Binding.{Binding}
use Rattle.share_catalog.specs.declared.edit.Edit.{Edit}
use Rattle.share_catalog.specs.declared.edit.Edit.TheVariants as edit
use Rattle.catalog_log.specs.Printing.{Kept, KeptBinding, KeptCredential, KeptName, KeptRestriction, KeptTable, bind_fields, edit_data, edit_fields, expiry_value, kind_name, name_fields, pair_fields, record_data, record_line, record_text, recipient_fields, table_fields}

-- ---- texts

-- a byte is written in at most six
escaped_short : (s : List ℕ) → length (flat_map escape_byte s) ≤ 6 * length s
escaped_short [] = omega arith
escaped_short (x ∷ s) =
    let one = length-escape_byte x in
    let few = escaped_few (nat_lt 0 (escape_letter x)) (nat_lt x 32) in
    let more = length-append (escape_byte x) (flat_map escape_byte s) in
    let rest = escaped_short s in
    omega (arith, one, few, more, rest)

text_short : (s : List ℕ) → length (quoted s) ≤ 6 * length s + 2
text_short s = let e = escaped_short s in let a = length-append (escape s) (34 ∷ []) in omega (arith, e, a)

-- ---- objects

abbrev value_len : Option Data → ℕ
value_len None = 0
value_len (Some d) = length (compact_text d)

-- what the fields of an object need at most
abbrev total : List Field → ℕ
total [] = 0
total ((name, o) ∷ more) = 6 * length name + 4 + value_len o + total more

comma_short : (later : Bool) → length (comma_if later) ≤ 1
comma_short true = omega arith
comma_short false = omega arith

members_short : (later : Bool) (fields : List Field) → length (members_text later (members_of fields)) ≤ 1 + total fields
members_short later [] = omega arith
members_short later ((name, None) ∷ more) = let rest = members_short later more in omega (arith, rest)
members_short later ((name, Some d) ∷ more) =
    let rest = members_short true more in
    let comma = comma_short later in
    let key = text_short name in
    let tail : List ℕ = members_text true (members_of more) in
    let a = length-append (compact_text d) tail in
    let b = length-append (quoted name) (58 ∷ (compact_text d ++ tail)) in
    let c = length-append (comma_if later) (quoted name ++ 58 ∷ (compact_text d ++ tail)) in
    omega (arith, rest, comma, key, a, b, c)

object_short : (fields : List Field) → length (compact_text (object_of fields)) ≤ 2 + total fields
object_short fields = let m = members_short false fields in omega (arith, m)

-- ---- the values of an edit

count_short : (n : ℕ) → n < 2 ^ 63 → length (compact_text (count_value n)) ≤ 20
count_short n small = length-decimal-le 20 n (omega arith) (omega (arith, small)) (omega (arith, small))

name_short : (n : List ℕ) → KeptName n → length (compact_text (string n)) ≤ 770
name_short n kept =
    let few : length n ≤ 128 = leb-true (length n) 128 (and_parts (nat_le (length n) 128) _ (and_parts (nat_lt 0 (length n)) _ kept).1).0 in
    let text = text_short n in
    omega (arith, few, text)

location_short : (b : Binding) → KeptBinding b → length (compact_text (string b.location)) ≤ 1538
location_short b kept =
    let few : length b.location ≤ 256 = leb-true (length b.location) 256 (and_parts (nat_le (length b.location) 256) _ (and_parts (is_name b.location) (is_location b.location) kept.location).1).0 in
    let text = text_short b.location in
    omega (arith, few, text)

only_short : (o : Option (List ℕ)) → IfSome o KeptRestriction → value_len (option_map string o) ≤ 12290
only_short None kept = omega arith
only_short (Some s) kept =
    let few : length s ≤ 2048 = leb-true (length s) 2048 kept in
    let text = text_short s in
    omega (arith, few, text)

flag_short : (b : Bool) → length (compact_text (boolean b)) ≤ 5
flag_short true = omega arith
flag_short false = omega arith

expiry_short : (o : Option ℕ) → IfSome o (λ n. n < 2 ^ 63) → length (compact_text (expiry_value o)) ≤ 20
expiry_short None small = omega arith
expiry_short (Some n) small = count_short n small

hex_long : (bytes : List ℕ) → length (encode_with lower_digits bytes) ≡ 2 * length bytes
unfolding encode_with
hex_long [] = refl
hex_long (b ∷ bytes) = let e = hex_long bytes in omega (arith, e)

digest_short : (c : Credential) → KeptCredential c → length (compact_text (string (encode_lower c.digest))) ≤ 386
digest_short c kept =
    let long = hex_long c.digest in
    let is = kept.long in
    let text = text_short (encode_lower c.digest) in
    omega (arith, long, is, text)

-- ---- the nine kinds

table_short : (t : TableName) → KeptTable t → total (table_fields t) ≤ 2500
table_short t kept =
    let a = name_short t.share kept.share in
    let b = name_short t.schema kept.schema in
    let c = name_short t.table kept.table in
    omega (arith, a, b, c)

bind_short : (t : TableName) (b : Binding) → KeptTable t → KeptBinding b → total (bind_fields t b) ≤ 20000
bind_short t b table kept =
    let names = table_short t table in
    let first = count_short b.first kept.first in
    let history = flag_short b.history in
    let location = location_short b kept in
    let only = only_short b.only kept.only in
    omega (arith, names, first, history, location, only)

recipient_short : (n : List ℕ) (c : Credential) → KeptName n → KeptCredential c → total (recipient_fields n c) ≤ 2500
recipient_short n c name kept =
    let a = name_short n name in
    let b = digest_short c kept in
    let d = expiry_short c.expires kept.expires in
    omega (arith, a, b, d)

pair_short : (r s : List ℕ) → KeptName r → KeptName s → total (pair_fields r s) ≤ 2500
pair_short r s first second =
    let a = name_short r first in
    let b = name_short s second in
    omega (arith, a, b)

alone_short : (n : List ℕ) → KeptName n → total (name_fields n) ≤ 2500
alone_short n kept = let a = name_short n kept in omega (arith, a)

-- a kind's name and the fields
abbrev IsShort : Edit → Type 0
IsShort e = (length (kind_name e) ≤ 16) × (total (edit_fields e) ≤ 20000)

kind_short : (e : Edit) → Kept e → IsShort e
kind_short (edit.NewShare n) kept = let a = alone_short n kept in (omega arith, omega (arith, a))
kind_short (edit.DropShare n) kept = let a = alone_short n kept in (omega arith, omega (arith, a))
kind_short (edit.Bind t b) kept = (omega arith, bind_short t b kept.0 kept.1)
kind_short (edit.Unbind t) kept = let a = table_short t kept in (omega arith, omega (arith, a))
kind_short (edit.NewRecipient n c) kept = let a = recipient_short n c kept.0 kept.1 in (omega arith, omega (arith, a))
kind_short (edit.Rotate n c) kept = let a = recipient_short n c kept.0 kept.1 in (omega arith, omega (arith, a))
kind_short (edit.DropRecipient n) kept = let a = alone_short n kept in (omega arith, omega (arith, a))
kind_short (edit.Grant r s) kept = let a = pair_short r s kept.0 kept.1 in (omega arith, omega (arith, a))
kind_short (edit.Revoke r s) kept = let a = pair_short r s kept.0 kept.1 in (omega arith, omega (arith, a))

line_short : (e : Edit) → Kept e → length (record_line e) ≤ 30000
unfolding record_line
line_short e kept =
    let kind = kind_short e kept in
    let fields = object_short (edit_fields e) in
    let inner = object_short ((kind_name e, Some (object_of (edit_fields e))) ∷ []) in
    let whole = object_short ((codes "edit", Some (edit_data e)) ∷ (codes "version", Some (count_value 2)) ∷ []) in
    let version = count_short 2 (omega arith) in
    omega (arith, kind.0, kind.1, fields, inner, whole, version)

-- the record of an edit has at most 16 MiB
pub record_short : (e : Edit) → Kept e → length (record_text e) ≤ 2 ^ 24
record_short e kept =
    let line = line_short e kept in
    let more = length-append (record_line e) (10 ∷ []) in
    omega (arith, line, more)
