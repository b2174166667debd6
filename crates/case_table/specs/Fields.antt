-- The fields of the actions in a commit (Delta Lake PROTOCOL.md, "Actions").
use Rattle.std.specs.Prelude.{ℕ, List, [], ◌∷◌, codes}
use Rattle.case_table.specs.declared.action_fields.ActionKind.{ActionKind}
use Rattle.case_table.specs.declared.action_fields.ActionKind.TheVariants as action
use Rattle.case_table.specs.declared.action_fields.Field.{Field}
use Rattle.case_table.specs.declared.action_fields.Field.TheVariants.{ProtocolMinReaderVersion, ProtocolMinWriterVersion, ProtocolReaderFeatures, ProtocolWriterFeatures, MetaDataId, MetaDataName, MetaDataDescription, MetaDataFormat, MetaDataSchemaString, MetaDataPartitionColumns, MetaDataConfiguration, MetaDataCreatedTime, AddPath, AddPartitionValues, AddSize, AddModificationTime, AddDataChange, AddStats, AddTags, RemovePath, RemoveDeletionTimestamp, RemoveDataChange, RemovePartitionValues, RemoveSize, CdcPath, CdcPartitionValues, CdcSize, TxnAppId, TxnVersion, TxnLastUpdated}

-- number, action and name
pub record FieldRow : Type 0 where
  pub code : ℕ
  pub kind : ActionKind
  pub name : List ℕ

abbrev row : ℕ → ActionKind → List ℕ → FieldRow
row code kind name = record { code = code; kind = kind; name = name }

abbrev pub field_row : Field → FieldRow
field_row ProtocolMinReaderVersion = row 1 action.Protocol (codes "minReaderVersion")
field_row ProtocolMinWriterVersion = row 2 action.Protocol (codes "minWriterVersion")
field_row ProtocolReaderFeatures = row 3 action.Protocol (codes "readerFeatures")
field_row ProtocolWriterFeatures = row 4 action.Protocol (codes "writerFeatures")
field_row MetaDataId = row 5 action.MetaData (codes "id")
field_row MetaDataName = row 6 action.MetaData (codes "name")
field_row MetaDataDescription = row 7 action.MetaData (codes "description")
field_row MetaDataFormat = row 8 action.MetaData (codes "format")
field_row MetaDataSchemaString = row 9 action.MetaData (codes "schemaString")
field_row MetaDataPartitionColumns = row 10 action.MetaData (codes "partitionColumns")
field_row MetaDataConfiguration = row 11 action.MetaData (codes "configuration")
field_row MetaDataCreatedTime = row 12 action.MetaData (codes "createdTime")
field_row AddPath = row 13 action.Add (codes "path")
field_row AddPartitionValues = row 14 action.Add (codes "partitionValues")
field_row AddSize = row 15 action.Add (codes "size")
field_row AddModificationTime = row 16 action.Add (codes "modificationTime")
field_row AddDataChange = row 17 action.Add (codes "dataChange")
field_row AddStats = row 18 action.Add (codes "stats")
field_row AddTags = row 19 action.Add (codes "tags")
field_row RemovePath = row 20 action.Remove (codes "path")
field_row RemoveDeletionTimestamp = row 21 action.Remove (codes "deletionTimestamp")
field_row RemoveDataChange = row 22 action.Remove (codes "dataChange")
field_row RemovePartitionValues = row 23 action.Remove (codes "partitionValues")
field_row RemoveSize = row 24 action.Remove (codes "size")
field_row CdcPath = row 25 action.Cdc (codes "path")
field_row CdcPartitionValues = row 26 action.Cdc (codes "partitionValues")
field_row CdcSize = row 27 action.Cdc (codes "size")
field_row TxnAppId = row 28 action.Txn (codes "appId")
field_row TxnVersion = row 29 action.Txn (codes "version")
field_row TxnLastUpdated = row 30 action.Txn (codes "lastUpdated")

-- all of them, by number
abbrev pub all_fields : List Field
all_fields =
    ProtocolMinReaderVersion ∷ ProtocolMinWriterVersion ∷ ProtocolReaderFeatures ∷ ProtocolWriterFeatures ∷ MetaDataId
    ∷ MetaDataName ∷ MetaDataDescription ∷ MetaDataFormat ∷ MetaDataSchemaString ∷ MetaDataPartitionColumns
    ∷ MetaDataConfiguration ∷ MetaDataCreatedTime ∷ AddPath ∷ AddPartitionValues ∷ AddSize ∷ AddModificationTime
    ∷ AddDataChange ∷ AddStats ∷ AddTags ∷ RemovePath ∷ RemoveDeletionTimestamp ∷ RemoveDataChange
    ∷ RemovePartitionValues ∷ RemoveSize ∷ CdcPath ∷ CdcPartitionValues ∷ CdcSize ∷ TxnAppId ∷ TxnVersion
    ∷ TxnLastUpdated ∷ []

-- the member of a line that has the action
abbrev pub action_word : ActionKind → List ℕ
action_word action.Protocol = codes "protocol"
action_word action.MetaData = codes "metaData"
action_word action.Add = codes "add"
action_word action.Remove = codes "remove"
action_word action.Cdc = codes "cdc"
action_word action.Txn = codes "txn"
