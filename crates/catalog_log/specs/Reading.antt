-- How the edits of a catalogue are read (RFC 8259; the fields are this server's own).
use Rattle.std.specs.Prelude.{ℕ, ℤ, pos, negsuc, ◌&&◌, ◌+◌, ◌==◌, List, [], ◌∷◌, Bool, Option, Some, None, Result, Ok, Err, option_map, if◌then◌else◌, bytes_eq, codes, count_by}
use Rattle.serde_json.specs.Data.{Data}
use Rattle.serde_json.specs.Find.{as_bool, as_str}
use Rattle.hex.specs.Hex.{decode_sized, encode_lower}
use Rattle.hex.specs.declared.FromHexError.{FromHexError}
use Rattle.json_tree.specs.Fields.{count_of, present, whole}
use Rattle.json_tree.specs.Options.{◌>>=◌}
use Rattle.edge_core.specs.Names.{is_name}
use Rattle.share_catalog.specs.Grammar.{is_catalog_name}
use Rattle.share_catalog.specs.Locations.{is_location}
use Rattle.share_catalog.specs.Restrictions.{is_restriction}
use Rattle.share_catalog.specs.declared.credential.Credential.{Credential}
use Rattle.share_catalog.specs.declared.table_name.TableName.{TableName}
use Rattle.share_catalog.specs.declared.edit.Binding.{Binding}
use Rattle.share_catalog.specs.declared.edit.Edit.{Edit}
use Rattle.share_catalog.specs.declared.edit.Edit.TheVariants as edit
use Rattle.catalog_log.specs.declared.version.RecordVersion.{RecordVersion}
use Rattle.catalog_log.specs.declared.version.RecordVersion.TheVariants as version

-- the text of a field
abbrev pub text_in : List ℕ → Data → Option (List ℕ)
text_in name d = present name d >>= as_str

abbrev pub passing : {X : Type 0} → (X → Bool) → X → Option X
passing test x = if test x then Some x else None

-- the name of a share, a schema, a table or a recipient
abbrev pub name_in : List ℕ → Data → Option (List ℕ)
name_in name d = text_in name d >>= passing is_catalog_name

abbrev pub is_location_text : List ℕ → Bool
is_location_text text = is_name text && is_location text

abbrev pub location_in : Data → Option (List ℕ)
location_in d = text_in (codes "location") d >>= passing is_location_text

abbrev pub same_digits : List ℕ → Result (List ℕ) FromHexError → Option (List ℕ)
same_digits text (Ok bytes) = if bytes_eq (encode_lower bytes) text then Some bytes else None
same_digits text (Err e) = None

-- the 32 bytes that the text spells in 64 lower-case hexadecimal digits
abbrev pub digest_of : List ℕ → Option (List ℕ)
digest_of text = same_digits text (decode_sized text 32)

abbrev pub digest_in : Data → Option (List ℕ)
digest_in d = text_in (codes "digest") d >>= digest_of

abbrev pub from_zero : ℤ → Option ℕ
from_zero (pos n) = Some n
from_zero (negsuc n) = None

-- a whole number from 0 to 2^63 - 1
abbrev pub natural : Data → Option ℕ
natural d = whole d >>= from_zero

-- no expiry where the field is absent or null
abbrev pub expiry_of : Option Data → Option (Option ℕ)
expiry_of None = Some None
expiry_of (Some d) = option_map Some (natural d)

abbrev pub credential_in : Data → Option Credential
credential_in d = do
  digest ← digest_in d
  expires ← expiry_of (present (codes "expires") d)
  Some (record { digest = digest; expires = expires })

abbrev pub table_in : Data → Option TableName
table_in d = do
  share ← name_in (codes "share") d
  schema ← name_in (codes "schema") d
  table ← name_in (codes "table") d
  Some (record { share = share; schema = schema; table = table })

-- the first version that is shared: the table's first one where the field is absent or null
abbrev pub first_or_zero : Option Data → Option ℕ
first_or_zero None = Some 0
first_or_zero (Some d) = natural d

abbrev pub restriction_of : Data → Option (List ℕ)
restriction_of d = as_str d >>= passing is_restriction

-- no restriction where the field is absent or null
abbrev pub restriction_or_none : Option Data → Option (Option (List ℕ))
restriction_or_none None = Some None
restriction_or_none (Some d) = option_map Some (restriction_of d)

-- Version 1 knew tables alone that are shared whole, so what it has under these two names is passed over.
abbrev pub first_in : RecordVersion → Data → Option ℕ
first_in version.One d = Some 0
first_in version.Two d = first_or_zero (present (codes "first") d)

abbrev pub only_in : RecordVersion → Data → Option (Option (List ℕ))
only_in version.One d = Some None
only_in version.Two d = restriction_or_none (present (codes "only") d)

abbrev pub binding_in : RecordVersion → Data → Option Binding
binding_in v d = do
  history ← present (codes "history") d >>= as_bool
  first ← first_in v d
  only ← only_in v d
  location ← location_in d
  Some (record { history = history; first = first; only = only; location = location })

-- ---- the nine kinds, by the value of the member that names the kind

abbrev pub new_share_in : Data → Option Edit
new_share_in d = name_in (codes "name") d >>= λ n. Some (edit.NewShare n)

abbrev pub drop_share_in : Data → Option Edit
drop_share_in d = name_in (codes "name") d >>= λ n. Some (edit.DropShare n)

abbrev pub bind_in : RecordVersion → Data → Option Edit
bind_in v d = do
  table ← table_in d
  binding ← binding_in v d
  Some (edit.Bind table binding)

abbrev pub unbind_in : Data → Option Edit
unbind_in d = table_in d >>= λ t. Some (edit.Unbind t)

abbrev pub new_recipient_in : Data → Option Edit
new_recipient_in d = do
  name ← name_in (codes "name") d
  credential ← credential_in d
  Some (edit.NewRecipient name credential)

abbrev pub rotate_in : Data → Option Edit
rotate_in d = do
  name ← name_in (codes "name") d
  credential ← credential_in d
  Some (edit.Rotate name credential)

abbrev pub drop_recipient_in : Data → Option Edit
drop_recipient_in d = name_in (codes "name") d >>= λ n. Some (edit.DropRecipient n)

abbrev pub grant_in : Data → Option Edit
grant_in d = do
  recipient ← name_in (codes "recipient") d
  share ← name_in (codes "share") d
  Some (edit.Grant recipient share)

abbrev pub revoke_in : Data → Option Edit
revoke_in d = do
  recipient ← name_in (codes "recipient") d
  share ← name_in (codes "share") d
  Some (edit.Revoke recipient share)

-- ---- an edit's object

-- how many of the nine kinds have a member that isn't null
abbrev pub kind_count : Data → ℕ
kind_count d =
    count_of (codes "newShare") d + count_of (codes "dropShare") d + count_of (codes "bind") d + count_of (codes "unbind") d
    + count_of (codes "newRecipient") d + count_of (codes "rotate") d + count_of (codes "dropRecipient") d
    + count_of (codes "grant") d + count_of (codes "revoke") d

abbrev pub read_or : Option Data → (Data → Option Edit) → Option Edit → Option Edit
read_or None reads other = other
read_or (Some d) reads other = reads d

abbrev pub grants_in : Data → Option Edit
grants_in d = read_or (present (codes "grant") d) grant_in (read_or (present (codes "revoke") d) revoke_in None)

abbrev pub recipients_in : Data → Option Edit
recipients_in d =
    read_or (present (codes "newRecipient") d) new_recipient_in
    (read_or (present (codes "rotate") d) rotate_in
    (read_or (present (codes "dropRecipient") d) drop_recipient_in (grants_in d)))

-- what is read of the kind that has a member
abbrev pub kind_in : RecordVersion → Data → Option Edit
kind_in v d =
    read_or (present (codes "newShare") d) new_share_in
    (read_or (present (codes "dropShare") d) drop_share_in
    (read_or (present (codes "bind") d) (bind_in v) (read_or (present (codes "unbind") d) unbind_in (recipients_in d))))

-- The edit of an object: exactly one of the nine kinds has a member that isn't null, and what it
-- needs. Other members are passed over.
abbrev pub edit_by : RecordVersion → Data → Option Edit
edit_by v d = if kind_count d == 1 then kind_in v d else None

-- the edit of an object that isn't a record's, as an administrator's: it has what the last version has
abbrev pub edit_in : Data → Option Edit
edit_in d = edit_by version.Two d
