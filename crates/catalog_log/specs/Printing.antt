-- The record of an edit: a compact JSON object with the names in byte order, and a line feed. Each is of version 2.
use Rattle.std.specs.Prelude.{◌≡◌, ℕ, ◌<◌, ◌^◌, List, true, [], ◌∷◌, ◌++◌, Option, Some, None, IfSome, length, codes, option_map}
use Rattle.serde_json.specs.Data.{Data, boolean, null, string}
use Rattle.serde_json.specs.Written.{compact_text}
use Rattle.hex.specs.Hex.{IsBytes, encode_lower}
use Rattle.json_print.specs.Fields.{Field, object_of}
use Rattle.json_print.specs.Values.{count_value}
use Rattle.share_catalog.specs.Grammar.{is_catalog_name}
use Rattle.share_catalog.specs.Restrictions.{is_restriction}
use Rattle.share_catalog.specs.declared.credential.Credential.{Credential}
use Rattle.share_catalog.specs.declared.table_name.TableName.{TableName}
use Rattle.share_catalog.specs.declared.edit.Binding.{Binding}
use Rattle.share_catalog.specs.declared.edit.Edit.{Edit}
use Rattle.share_catalog.specs.declared.edit.Edit.TheVariants as edit
use Rattle.catalog_log.specs.Reading.{is_location_text}

abbrev pub expiry_value : Option ℕ → Data
expiry_value None = null
expiry_value (Some n) = count_value n

abbrev pub name_fields : List ℕ → List Field
name_fields name = (codes "name", Some (string name)) ∷ []

abbrev pub bind_fields : TableName → Binding → List Field
bind_fields t b =
    (codes "first", Some (count_value b.first))
    ∷ (codes "history", Some (boolean b.history))
    ∷ (codes "location", Some (string b.location))
    ∷ (codes "only", option_map string b.only)
    ∷ (codes "schema", Some (string t.schema))
    ∷ (codes "share", Some (string t.share))
    ∷ (codes "table", Some (string t.table))
    ∷ []

abbrev pub table_fields : TableName → List Field
table_fields t =
    (codes "schema", Some (string t.schema))
    ∷ (codes "share", Some (string t.share))
    ∷ (codes "table", Some (string t.table))
    ∷ []

abbrev pub recipient_fields : List ℕ → Credential → List Field
recipient_fields name c =
    (codes "digest", Some (string (encode_lower c.digest)))
    ∷ (codes "expires", Some (expiry_value c.expires))
    ∷ (codes "name", Some (string name))
    ∷ []

abbrev pub pair_fields : List ℕ → List ℕ → List Field
pair_fields recipient share =
    (codes "recipient", Some (string recipient))
    ∷ (codes "share", Some (string share))
    ∷ []

abbrev pub kind_name : Edit → List ℕ
kind_name (edit.NewShare n) = codes "newShare"
kind_name (edit.DropShare n) = codes "dropShare"
kind_name (edit.Bind t b) = codes "bind"
kind_name (edit.Unbind t) = codes "unbind"
kind_name (edit.NewRecipient n c) = codes "newRecipient"
kind_name (edit.Rotate n c) = codes "rotate"
kind_name (edit.DropRecipient n) = codes "dropRecipient"
kind_name (edit.Grant r s) = codes "grant"
kind_name (edit.Revoke r s) = codes "revoke"

abbrev pub edit_fields : Edit → List Field
edit_fields (edit.NewShare n) = name_fields n
edit_fields (edit.DropShare n) = name_fields n
edit_fields (edit.Bind t b) = bind_fields t b
edit_fields (edit.Unbind t) = table_fields t
edit_fields (edit.NewRecipient n c) = recipient_fields n c
edit_fields (edit.Rotate n c) = recipient_fields n c
edit_fields (edit.DropRecipient n) = name_fields n
edit_fields (edit.Grant r s) = pair_fields r s
edit_fields (edit.Revoke r s) = pair_fields r s

-- an edit's object, with the kind as its one name
abbrev pub edit_data : Edit → Data
edit_data e = object_of ((kind_name e, Some (object_of (edit_fields e))) ∷ [])

abbrev pub record_data : Edit → Data
record_data e = object_of ((codes "edit", Some (edit_data e)) ∷ (codes "version", Some (count_value 2)) ∷ [])

unfoldable pub record_line : Edit → List ℕ
record_line e = compact_text (record_data e)

-- 10 is a line feed
abbrev pub record_text : Edit → List ℕ
record_text e = record_line e ++ 10 ∷ []

-- ---- what the types of an edit keep

abbrev pub KeptName : List ℕ → Type 0
KeptName n = is_catalog_name n ≡ true

pub record KeptTable (t : TableName) : Type 0 where
  pub share : KeptName t.share
  pub schema : KeptName t.schema
  pub table : KeptName t.table

pub record KeptCredential (c : Credential) : Type 0 where
  pub bytes : IsBytes c.digest
  pub long : length c.digest ≡ 32
  pub expires : IfSome c.expires (λ n. n < 2 ^ 63)

abbrev pub KeptLocation : List ℕ → Type 0
KeptLocation l = is_location_text l ≡ true

abbrev pub KeptRestriction : List ℕ → Type 0
KeptRestriction text = is_restriction text ≡ true

pub record KeptBinding (b : Binding) : Type 0 where
  pub first : b.first < 2 ^ 63
  pub only : IfSome b.only KeptRestriction
  pub location : KeptLocation b.location

abbrev pub Kept : Edit → Type 0
Kept (edit.NewShare n) = KeptName n
Kept (edit.DropShare n) = KeptName n
Kept (edit.Bind t b) = KeptTable t × KeptBinding b
Kept (edit.Unbind t) = KeptTable t
Kept (edit.NewRecipient n c) = KeptName n × KeptCredential c
Kept (edit.Rotate n c) = KeptName n × KeptCredential c
Kept (edit.DropRecipient n) = KeptName n
Kept (edit.Grant r s) = KeptName r × KeptName s
Kept (edit.Revoke r s) = KeptName r × KeptName s
