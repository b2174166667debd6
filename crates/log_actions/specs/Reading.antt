-- The actions that JSON objects stand for (Delta Lake PROTOCOL.md, "Actions"). The first faulty field is told, in the order of the table of fields.
use Rattle.std.specs.Prelude.{ℕ, ◌^◌, ℤ, pos, negsuc, [], true, Option, Some, None, Result, Ok, Err, option_map, option_and_then, is_some, if◌then◌else◌, codes}
use Rattle.serde_json.specs.Data.{Data}
use Rattle.serde_json.specs.Find.{as_bool, as_str, as_object}
use Rattle.json_tree.specs.Fields.{field, present, whole, texts, pairs}
use Rattle.json_tree.specs.declared.fields.FieldFault.{FieldFault}
use Rattle.case_table.specs.declared.action_fields.Field as table
use Rattle.case_table.specs.declared.action_fields.Field.TheVariants.{ProtocolMinReaderVersion, ProtocolMinWriterVersion, ProtocolReaderFeatures, ProtocolWriterFeatures, MetaDataId, MetaDataName, MetaDataDescription, MetaDataFormat, MetaDataSchemaString, MetaDataPartitionColumns, MetaDataConfiguration, MetaDataCreatedTime, AddPath, AddPartitionValues, AddSize, AddModificationTime, AddDataChange, AddStats, AddTags, RemovePath, RemoveDeletionTimestamp, RemoveDataChange, RemovePartitionValues, RemoveSize, CdcPath, CdcPartitionValues, CdcSize, TxnAppId, TxnVersion, TxnLastUpdated}
use Rattle.log_actions.specs.Ranges.{within, times_end}
use Rattle.json_tree.specs.Results.{◌>>=◌}
use Rattle.log_actions.specs.declared.line_fault.LineFault.{LineFault}
use Rattle.log_actions.specs.declared.line_fault.LineFault.TheVariants.{Field, NotObject}
use Rattle.log_actions.specs.declared.actions.AddFile.{AddFile}
use Rattle.log_actions.specs.declared.actions.RemoveFile.{RemoveFile}
use Rattle.log_actions.specs.declared.actions.Protocol.{Protocol}
use Rattle.log_actions.specs.declared.actions.MetaData.{MetaData}
use Rattle.log_actions.specs.declared.actions.Format.{Format}
use Rattle.log_actions.specs.declared.actions.CdcFile.{CdcFile}
use Rattle.log_actions.specs.declared.actions.Txn.{Txn}
use Rattle.log_actions.specs.declared.actions.CommitInfo.{CommitInfo}

-- a field that has to be there
abbrev pub required : {X : Type 0} → table.Field → Result (Option X) FieldFault → Result X LineFault
required which (Err e) = Err (Field which)
required which (Ok None) = Err (Field which)
required which (Ok (Some x)) = Ok x

-- a field that may be absent
abbrev pub optional : {X : Type 0} → table.Field → Result (Option X) FieldFault → Result (Option X) LineFault
optional which (Err e) = Err (Field which)
optional which (Ok o) = Ok o

-- a field with a default
abbrev pub default_to : {X : Type 0} → table.Field → X → Result (Option X) FieldFault → Result X LineFault
default_to which default (Err e) = Err (Field which)
default_to which default (Ok None) = Ok default
default_to which default (Ok (Some x)) = Ok x

abbrev pub count_below : ℕ → ℤ → Option ℕ
count_below limit (pos n) = within limit n
count_below limit (negsuc n) = None

-- a whole number from 0 on, below a limit
abbrev pub count : ℕ → Data → Option ℕ
count limit d = option_and_then (count_below limit) (whole d)

-- the value of an action has to be an object
abbrev pub as_action : Data → Result (Unit {0}) LineFault
as_action d = if is_some (as_object d) then Ok tt else Err NotObject

-- "Protocol Evolution", "Table Features"
unfoldable pub protocol_of : Data → Result Protocol LineFault
protocol_of d = do
  o ← as_action d
  reader ← required ProtocolMinReaderVersion (field (count (2 ^ 31)) (codes "minReaderVersion") d)
  writer ← required ProtocolMinWriterVersion (field (count (2 ^ 31)) (codes "minWriterVersion") d)
  reader_features ← optional ProtocolReaderFeatures (field texts (codes "readerFeatures") d)
  writer_features ← optional ProtocolWriterFeatures (field texts (codes "writerFeatures") d)
  Ok (record { min_reader = reader; min_writer = writer; reader_features = reader_features; writer_features = writer_features })

-- a field with a default: none where it is of another kind
abbrev pub or_else : {X : Type 0} → X → Result (Option X) FieldFault → Option X
or_else default (Err e) = None
or_else default (Ok None) = Some default
or_else default (Ok (Some x)) = Some x

-- the value of the field `format`
unfoldable pub format_in : Data → Option Format
format_in d =
    if is_some (as_object d)
    then option_and_then (λ provider. option_map (λ options. record { provider = provider; options = options })
    (or_else [] (field pairs (codes "options") d)))
    (or_else (codes "parquet") (field as_str (codes "provider") d))
    else None

-- the format of a table that names none
abbrev pub parquet : Format
parquet = record { provider = codes "parquet"; options = [] }

-- "Add File and Remove File"
unfoldable pub add_of : Data → Result AddFile LineFault
add_of d = do
  o ← as_action d
  path ← required AddPath (field as_str (codes "path") d)
  values ← default_to AddPartitionValues [] (field pairs (codes "partitionValues") d)
  size ← required AddSize (field (count (2 ^ 63)) (codes "size") d)
  modified ← default_to AddModificationTime (pos 0) (field whole (codes "modificationTime") d)
  change ← default_to AddDataChange true (field as_bool (codes "dataChange") d)
  stats ← optional AddStats (field as_str (codes "stats") d)
  tags ← optional AddTags (field pairs (codes "tags") d)
  Ok (record { path = path; values = values; size = size; modified = modified; data_change = change; stats = stats; tags = tags; vector = is_some (present (codes "deletionVector") d) })

-- "Add File and Remove File"
unfoldable pub remove_of : Data → Result RemoveFile LineFault
remove_of d = do
  o ← as_action d
  path ← required RemovePath (field as_str (codes "path") d)
  deleted ← optional RemoveDeletionTimestamp (field whole (codes "deletionTimestamp") d)
  change ← default_to RemoveDataChange true (field as_bool (codes "dataChange") d)
  values ← optional RemovePartitionValues (field pairs (codes "partitionValues") d)
  size ← optional RemoveSize (field (count (2 ^ 63)) (codes "size") d)
  Ok (record { path = path; deleted = deleted; data_change = change; values = values; size = size; vector = is_some (present (codes "deletionVector") d) })

-- "Change Metadata"
unfoldable pub meta_data_of : Data → Result MetaData LineFault
meta_data_of d = do
  o ← as_action d
  id ← required MetaDataId (field as_str (codes "id") d)
  name ← optional MetaDataName (field as_str (codes "name") d)
  description ← optional MetaDataDescription (field as_str (codes "description") d)
  format ← default_to MetaDataFormat parquet (field format_in (codes "format") d)
  schema ← required MetaDataSchemaString (field as_str (codes "schemaString") d)
  columns ← default_to MetaDataPartitionColumns [] (field texts (codes "partitionColumns") d)
  configuration ← default_to MetaDataConfiguration [] (field pairs (codes "configuration") d)
  created ← optional MetaDataCreatedTime (field whole (codes "createdTime") d)
  Ok (record { id = id; name = name; description = description; format = format; schema = schema; columns = columns; configuration = configuration; created = created })

-- "Add CDC File"
unfoldable pub cdc_of : Data → Result CdcFile LineFault
cdc_of d = do
  o ← as_action d
  path ← required CdcPath (field as_str (codes "path") d)
  values ← default_to CdcPartitionValues [] (field pairs (codes "partitionValues") d)
  size ← required CdcSize (field (count (2 ^ 63)) (codes "size") d)
  Ok (record { path = path; values = values; size = size })

-- "Transaction Identifiers"
unfoldable pub txn_of : Data → Result Txn LineFault
txn_of d = do
  o ← as_action d
  app ← required TxnAppId (field as_str (codes "appId") d)
  version ← required TxnVersion (field whole (codes "version") d)
  updated ← optional TxnLastUpdated (field whole (codes "lastUpdated") d)
  Ok (record { app = app; version = version; updated = updated })

-- "Commit Provenance Information": any value stands for one; a moment is kept where it is in the bounds
abbrev pub commit_info_of : Data → CommitInfo
commit_info_of d = record { timestamp = option_and_then (count times_end) (present (codes "timestamp") d) }
