-- The line of an action (Delta Lake PROTOCOL.md, "Actions"): a compact JSON object whose one name is the action's. Its value has each field that has a value, a default too, with the names in byte order.
use Rattle.std.specs.Prelude.{ℕ, List, [], ◌∷◌, Bool, false, Some, option_map, codes}
use Rattle.serde_json.specs.Data.{Data, boolean, string}
use Rattle.serde_json.specs.Written.{compact_text}
use Rattle.json_print.specs.Fields.{Field, object_of}
use Rattle.json_print.specs.Values.{count_value, whole_value, texts_value, pairs_value}
use Rattle.log_actions.specs.declared.actions.Action.{Action}
use Rattle.log_actions.specs.declared.actions.Action.TheVariants as action
use Rattle.log_actions.specs.declared.actions.AddFile.{AddFile}
use Rattle.log_actions.specs.declared.actions.RemoveFile.{RemoveFile}
use Rattle.log_actions.specs.declared.actions.Protocol.{Protocol}
use Rattle.log_actions.specs.declared.actions.MetaData.{MetaData}
use Rattle.log_actions.specs.declared.actions.Format.{Format}
use Rattle.log_actions.specs.declared.actions.CdcFile.{CdcFile}
use Rattle.log_actions.specs.declared.actions.Txn.{Txn}
use Rattle.log_actions.specs.declared.actions.CommitInfo.{CommitInfo}

-- "Protocol Evolution", "Table Features"
abbrev pub protocol_fields : Protocol → List Field
protocol_fields p =
    (codes "minReaderVersion", Some (count_value p.min_reader))
    ∷ (codes "minWriterVersion", Some (count_value p.min_writer))
    ∷ (codes "readerFeatures", option_map texts_value p.reader_features)
    ∷ (codes "writerFeatures", option_map texts_value p.writer_features)
    ∷ []

-- "Format Specification"
abbrev pub format_fields : Format → List Field
format_fields f =
    (codes "options", Some (pairs_value f.options))
    ∷ (codes "provider", Some (string f.provider))
    ∷ []

-- "Change Metadata"
abbrev pub meta_data_fields : MetaData → List Field
meta_data_fields m =
    (codes "configuration", Some (pairs_value m.configuration))
    ∷ (codes "createdTime", option_map whole_value m.created)
    ∷ (codes "description", option_map string m.description)
    ∷ (codes "format", Some (object_of (format_fields m.format)))
    ∷ (codes "id", Some (string m.id))
    ∷ (codes "name", option_map string m.name)
    ∷ (codes "partitionColumns", Some (texts_value m.columns))
    ∷ (codes "schemaString", Some (string m.schema))
    ∷ []

-- "Add File and Remove File", without the deletion vector
abbrev pub add_fields_at : List ℕ → AddFile → List Field
add_fields_at path f =
    (codes "dataChange", Some (boolean f.data_change))
    ∷ (codes "modificationTime", Some (whole_value f.modified))
    ∷ (codes "partitionValues", Some (pairs_value f.values))
    ∷ (codes "path", Some (string path))
    ∷ (codes "size", Some (count_value f.size))
    ∷ (codes "stats", option_map string f.stats)
    ∷ (codes "tags", option_map pairs_value f.tags)
    ∷ []

abbrev pub add_fields : AddFile → List Field
add_fields f = add_fields_at f.path f

-- "Add File and Remove File", without the deletion vector
abbrev pub remove_fields_at : List ℕ → RemoveFile → List Field
remove_fields_at path f =
    (codes "dataChange", Some (boolean f.data_change))
    ∷ (codes "deletionTimestamp", option_map whole_value f.deleted)
    ∷ (codes "partitionValues", option_map pairs_value f.values)
    ∷ (codes "path", Some (string path))
    ∷ (codes "size", option_map count_value f.size)
    ∷ []

abbrev pub remove_fields : RemoveFile → List Field
remove_fields f = remove_fields_at f.path f

-- "Add CDC File": its `dataChange` is always false
abbrev pub cdc_fields_at : List ℕ → CdcFile → List Field
cdc_fields_at path f =
    (codes "dataChange", Some (boolean false))
    ∷ (codes "partitionValues", Some (pairs_value f.values))
    ∷ (codes "path", Some (string path))
    ∷ (codes "size", Some (count_value f.size))
    ∷ []

abbrev pub cdc_fields : CdcFile → List Field
cdc_fields f = cdc_fields_at f.path f

-- "Transaction Identifiers"
abbrev pub txn_fields : Txn → List Field
txn_fields t =
    (codes "appId", Some (string t.app))
    ∷ (codes "lastUpdated", option_map whole_value t.updated)
    ∷ (codes "version", Some (whole_value t.version))
    ∷ []

-- "Commit Provenance Information"
abbrev pub commit_info_fields : CommitInfo → List Field
commit_info_fields i = (codes "timestamp", option_map count_value i.timestamp) ∷ []

abbrev pub action_name : Action → List ℕ
action_name (action.Protocol p) = codes "protocol"
action_name (action.MetaData m) = codes "metaData"
action_name (action.Add f) = codes "add"
action_name (action.Remove f) = codes "remove"
action_name (action.Cdc f) = codes "cdc"
action_name (action.Txn t) = codes "txn"
action_name (action.CommitInfo i) = codes "commitInfo"

abbrev pub action_fields : Action → List Field
action_fields (action.Protocol p) = protocol_fields p
action_fields (action.MetaData m) = meta_data_fields m
action_fields (action.Add f) = add_fields f
action_fields (action.Remove f) = remove_fields f
action_fields (action.Cdc f) = cdc_fields f
action_fields (action.Txn t) = txn_fields t
action_fields (action.CommitInfo i) = commit_info_fields i

-- the object of a line
abbrev pub action_data : Action → Data
action_data a = object_of ((action_name a, Some (object_of (action_fields a))) ∷ [])

-- the line, without a line feed
abbrev pub line_text : Action → List ℕ
line_text a = compact_text (action_data a)

-- whether there is a deletion vector, which a line leaves out
abbrev pub has_vector : Action → Bool
has_vector (action.Add f) = f.vector
has_vector (action.Remove f) = f.vector
has_vector _ = false
