-- The line of each kind (Delta Sharing PROTOCOL.md, "API Response Format in Parquet" and "Read Change Data Feed from a Table"): compact JSON (RFC 8259), an object whose one name is the kind's. Its value has each field that has a value, with the names in byte order.
use Rattle.std.specs.Prelude.{ℕ, List, [], ◌∷◌, ◌++◌, Bool, true, ◌&&◌, Some, option_map, is_some, is_none, flat_map, codes}
use Rattle.serde_json.specs.Data.{Data, string}
use Rattle.serde_json.specs.Written.{compact_text}
use Rattle.json_print.specs.Fields.{Field, object_of}
use Rattle.json_print.specs.Values.{count_value, whole_value, pairs_value, texts_value, unless_empty}
use Rattle.share_lines.specs.declared.kinds.MetaLine.{MetaLine}
use Rattle.share_lines.specs.declared.kinds.FileLine.{FileLine}
use Rattle.share_lines.specs.declared.kinds.EndLine.{EndLine}
use Rattle.share_lines.specs.declared.kinds.Line.{Line}
use Rattle.share_lines.specs.declared.kinds.Line.TheVariants as line

-- "Protocol": version 1, which asks for no more of a reader
abbrev pub protocol_fields : List Field
protocol_fields = (codes "minReaderVersion", Some (count_value 1)) ∷ []

-- "Format Object"
abbrev pub parquet_fields : List Field
parquet_fields = (codes "provider", Some (string (codes "parquet"))) ∷ []

-- "Metadata"
abbrev pub meta_fields : MetaLine → List Field
meta_fields m =
    (codes "configuration", option_map pairs_value (unless_empty m.configuration))
    ∷ (codes "description", option_map string m.description)
    ∷ (codes "format", Some (object_of parquet_fields))
    ∷ (codes "id", Some (string m.id))
    ∷ (codes "name", option_map string m.name)
    ∷ (codes "partitionColumns", Some (texts_value m.columns))
    ∷ (codes "schemaString", Some (string m.schema))
    ∷ []

-- "File", "Add File", "CDF File" and "Remove File"
abbrev pub file_fields : FileLine → List Field
file_fields f =
    (codes "expirationTimestamp", option_map count_value f.expires)
    ∷ (codes "id", Some (string f.id))
    ∷ (codes "partitionValues", Some (pairs_value f.values))
    ∷ (codes "size", Some (count_value f.size))
    ∷ (codes "stats", option_map string f.stats)
    ∷ (codes "timestamp", option_map whole_value f.time)
    ∷ (codes "url", Some (string f.url))
    ∷ (codes "version", option_map count_value f.version)
    ∷ []

-- "EndStreamAction"
abbrev pub end_fields : EndLine → List Field
end_fields e =
    (codes "minUrlExpirationTimestamp", option_map count_value e.min_expires)
    ∷ (codes "nextPageToken", option_map string e.token)
    ∷ []

abbrev pub kind_name : Line → List ℕ
kind_name line.Protocol = codes "protocol"
kind_name (line.MetaData m) = codes "metaData"
kind_name (line.File f) = codes "file"
kind_name (line.Add f) = codes "add"
kind_name (line.Cdf f) = codes "cdf"
kind_name (line.Remove f) = codes "remove"
kind_name (line.End e) = codes "endStreamAction"

abbrev pub kind_fields : Line → List Field
kind_fields line.Protocol = protocol_fields
kind_fields (line.MetaData m) = meta_fields m
kind_fields (line.File f) = file_fields f
kind_fields (line.Add f) = file_fields f
kind_fields (line.Cdf f) = file_fields f
kind_fields (line.Remove f) = file_fields f
kind_fields (line.End e) = end_fields e

-- the object of a line
abbrev pub line_data : Line → Data
line_data l = object_of ((kind_name l, Some (object_of (kind_fields l))) ∷ [])

-- the line, without a line feed
abbrev pub line_text : Line → List ℕ
line_text l = compact_text (line_data l)

-- the lines one after another, each with a line feed
abbrev pub body_text : List Line → List ℕ
body_text ls = flat_map (λ l. line_text l ++ 10 ∷ []) ls

-- ---- the fields of a file that a kind has

-- a file of a version comes with no change
abbrev pub has_no_change : FileLine → Bool
has_no_change f = is_none f.time && is_none f.version

abbrev pub has_change : FileLine → Bool
has_change f = is_some f.time && is_some f.version

-- a change has its version and the version's time, and statistics stand in files and adds alone
abbrev pub is_printable : Line → Bool
is_printable (line.File f) = has_no_change f
is_printable (line.Add f) = has_change f
is_printable (line.Cdf f) = has_change f && is_none f.stats
is_printable (line.Remove f) = has_change f && is_none f.stats
is_printable _ = true
