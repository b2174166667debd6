-- The lines of an answer in the delta format (Delta Sharing PROTOCOL.md, "API Response Format in Delta"): compact JSON (RFC 8259), an object whose one name is the kind's. In its value stands what a log says (Delta Lake PROTOCOL.md, "Actions"), as the log has it but with the link in the place of a file's path; it has each field that has a value, with the names in byte order.
use Rattle.std.specs.Prelude.{ℕ, List, [], ◌∷◌, ◌++◌, Bool, true, false, not, ◌&&◌, Some, option_map, flat_map, bytes_eq, codes}
use Rattle.serde_json.specs.Data.{Data, string}
use Rattle.serde_json.specs.Written.{compact_text}
use Rattle.json_print.specs.Fields.{Field, object_of}
use Rattle.json_print.specs.Values.{count_value, whole_value}
use Rattle.log_actions.specs.Printing.{add_fields_at, cdc_fields_at, meta_data_fields, protocol_fields, remove_fields_at}
use Rattle.share_lines.specs.Printing.{end_fields}
use Rattle.delta_lines.specs.declared.kinds.FileAction.{FileAction}
use Rattle.delta_lines.specs.declared.kinds.FileAction.TheVariants as action
use Rattle.delta_lines.specs.declared.kinds.DeltaFile.{DeltaFile}
use Rattle.delta_lines.specs.declared.kinds.DeltaLine.{DeltaLine}
use Rattle.delta_lines.specs.declared.kinds.DeltaLine.TheVariants as line

-- ---- the actions of files

abbrev pub path_of : FileAction → List ℕ
path_of (action.Add f) = f.path
path_of (action.Cdc f) = f.path
path_of (action.Remove f) = f.path

-- whether there is a deletion vector, which a line leaves out
abbrev pub has_vector : FileAction → Bool
has_vector (action.Add f) = f.vector
has_vector (action.Cdc f) = false
has_vector (action.Remove f) = f.vector

-- the action's name in a log
abbrev pub action_name : FileAction → List ℕ
action_name (action.Add f) = codes "add"
action_name (action.Cdc f) = codes "cdc"
action_name (action.Remove f) = codes "remove"

-- what a log says of the file, with that path in place of its own
abbrev pub action_fields : List ℕ → FileAction → List Field
action_fields path (action.Add f) = add_fields_at path f
action_fields path (action.Cdc f) = cdc_fields_at path f
action_fields path (action.Remove f) = remove_fields_at path f

abbrev pub single_fields : List ℕ → FileAction → List Field
single_fields path a = (action_name a, Some (object_of (action_fields path a))) ∷ []

-- ---- the lines

-- "File": its identifier is the path in the log, in whose place the link stands; a change has the time and the version with which it came
abbrev pub file_fields : DeltaFile → List Field
file_fields f =
    (codes "deltaSingleAction", Some (object_of (single_fields f.url f.action)))
    ∷ (codes "expirationTimestamp", option_map count_value f.expires)
    ∷ (codes "id", Some (string f.id))
    ∷ (codes "timestamp", option_map whole_value f.time)
    ∷ (codes "version", option_map count_value f.version)
    ∷ []

abbrev pub kind_name : DeltaLine → List ℕ
kind_name (line.Protocol p) = codes "protocol"
kind_name (line.MetaData m) = codes "metaData"
kind_name (line.File f) = codes "file"
kind_name (line.End e) = codes "endStreamAction"

-- "Protocol", "Metadata" and "File"; the end of a page is that of each format
abbrev pub kind_fields : DeltaLine → List Field
kind_fields (line.Protocol p) = (codes "deltaProtocol", Some (object_of (protocol_fields p))) ∷ []
kind_fields (line.MetaData m) = (codes "deltaMetadata", Some (object_of (meta_data_fields m))) ∷ []
kind_fields (line.File f) = file_fields f
kind_fields (line.End e) = end_fields e

-- the object of a line
abbrev pub delta_line_data : DeltaLine → Data
delta_line_data l = object_of ((kind_name l, Some (object_of (kind_fields l))) ∷ [])

-- the line, without a line feed
abbrev pub delta_line_text : DeltaLine → List ℕ
delta_line_text l = compact_text (delta_line_data l)

-- the lines one after another, each with a line feed
abbrev pub delta_body_text : List DeltaLine → List ℕ
delta_body_text ls = flat_map (λ l. delta_line_text l ++ 10 ∷ []) ls

-- a file is identified by its path in the log, and has no deletion vector
abbrev pub is_printable : DeltaLine → Bool
is_printable (line.File f) = bytes_eq (path_of f.action) f.id && not (has_vector f.action)
is_printable _ = true

-- the file with another link
abbrev pub with_url : List ℕ → DeltaFile → DeltaFile
with_url url f = record f { url = url }
