-- The lines that JSON objects stand for (Delta Sharing PROTOCOL.md, "API Response Format in Parquet" and "Read Change Data Feed from a Table"). A field that is null counts as absent; fields that the kind doesn't print are passed over.
use Rattle.std.specs.Prelude.{◌≡◌, ℕ, ◌+◌, ◌^◌, ◌==◌, ℤ, List, [], Option, Some, None, Result, Ok, Err, ⊤, if◌then◌else◌, codes}
use Rattle.serde_json.specs.Data.{Data}
use Rattle.serde_json.specs.Find.{as_str, as_object}
use Rattle.json_tree.specs.Fields.{count_of, field, present, whole, texts, pairs}
use Rattle.json_tree.specs.Options.{◌>>=◌}
use Rattle.json_tree.specs.declared.fields.FieldFault.{FieldFault}
use Rattle.log_actions.specs.Reading.{count}
use Rattle.share_lines.specs.declared.faults.LineFault.{LineFault}
use Rattle.share_lines.specs.declared.faults.LineFault.TheVariants as fault
use Rattle.share_lines.specs.declared.kinds.MetaLine.{MetaLine}
use Rattle.share_lines.specs.declared.kinds.FileLine.{FileLine}
use Rattle.share_lines.specs.declared.kinds.EndLine.{EndLine}
use Rattle.share_lines.specs.declared.kinds.Line.{Line}
use Rattle.share_lines.specs.declared.kinds.Line.TheVariants as line

-- a field that has to be there
abbrev pub required : {X : Type 0} → Result (Option X) FieldFault → Option X
required (Err e) = None
required (Ok o) = o

-- a field that may be absent
abbrev pub optional : {X : Type 0} → Result (Option X) FieldFault → Option (Option X)
optional (Err e) = None
optional (Ok o) = Some o

-- a field with a default
abbrev pub default_to : {X : Type 0} → X → Result (Option X) FieldFault → Option X
default_to default (Err e) = None
default_to default (Ok None) = Some default
default_to default (Ok (Some x)) = Some x

-- ---- the values of the kinds

-- "Protocol": version 1 of the reader's protocol
abbrev pub protocol_of : Data → Option Line
protocol_of d = required (field (count (2 ^ 63)) (codes "minReaderVersion") d) >>= λ version. if version == 1 then Some line.Protocol else None

-- "Metadata"; its format isn't looked at
unfoldable pub meta_of : Data → Option MetaLine
meta_of d = do
  id ← required (field as_str (codes "id") d)
  name ← optional (field as_str (codes "name") d)
  description ← optional (field as_str (codes "description") d)
  schema ← required (field as_str (codes "schemaString") d)
  columns ← default_to [] (field texts (codes "partitionColumns") d)
  configuration ← default_to [] (field pairs (codes "configuration") d)
  Some (record { id = id; name = name; description = description; schema = schema; columns = columns; configuration = configuration })

-- what each file has, with the rest of the kind
unfoldable pub file_with : Data → Option (List ℕ) → Option ℤ → Option ℕ → Option FileLine
file_with d stats time version = do
  url ← required (field as_str (codes "url") d)
  id ← required (field as_str (codes "id") d)
  values ← required (field pairs (codes "partitionValues") d)
  size ← required (field (count (2 ^ 63)) (codes "size") d)
  expires ← optional (field (count (2 ^ 63)) (codes "expirationTimestamp") d)
  Some (record { url = url; id = id; values = values; size = size; stats = stats; expires = expires; time = time; version = version })

-- "File"
unfoldable pub file_of : Data → Option FileLine
file_of d = do
  stats ← optional (field as_str (codes "stats") d)
  file_with d stats None None

-- "CDF File" and "Remove File", and an add with its statistics
unfoldable pub change_with : Data → Option (List ℕ) → Option FileLine
change_with d stats = do
  time ← required (field whole (codes "timestamp") d)
  version ← required (field (count (2 ^ 63)) (codes "version") d)
  file_with d stats (Some time) (Some version)

-- "Add File"
unfoldable pub add_of : Data → Option FileLine
add_of d = do
  stats ← optional (field as_str (codes "stats") d)
  change_with d stats

-- "EndStreamAction"
unfoldable pub end_of : Data → Option EndLine
end_of d = do
  o ← as_object d
  expires ← optional (field (count (2 ^ 63)) (codes "minUrlExpirationTimestamp") d)
  token ← optional (field as_str (codes "nextPageToken") d)
  Some (record { min_expires = expires; token = token })

-- ---- a line's object

-- how many of the seven kinds have a member that isn't null
abbrev pub kind_count : Data → ℕ
kind_count d =
    count_of (codes "protocol") d + count_of (codes "metaData") d + count_of (codes "file") d + count_of (codes "add") d + count_of (codes "cdf") d
    + count_of (codes "remove") d + count_of (codes "endStreamAction") d

abbrev pub read_or : Option Data → (Data → Option Line) → Option Line → Option Line
read_or None reads other = other
read_or (Some d) reads other = reads d

-- the file of a kind
abbrev pub file_kind_in : Data → Option Line
file_kind_in d =
    read_or (present (codes "file") d) (λ v. file_of v >>= λ f. Some (line.File f))
    (read_or (present (codes "add") d) (λ v. add_of v >>= λ f. Some (line.Add f))
    (read_or (present (codes "cdf") d) (λ v. change_with v None >>= λ f. Some (line.Cdf f))
    (read_or (present (codes "remove") d) (λ v. change_with v None >>= λ f. Some (line.Remove f)) None)))

-- what is read of the kind that has a member
abbrev pub kind_in : Data → Option Line
kind_in d =
    read_or (present (codes "protocol") d) protocol_of
    (read_or (present (codes "metaData") d) (λ v. meta_of v >>= λ m. Some (line.MetaData m))
    (read_or (present (codes "endStreamAction") d) (λ v. end_of v >>= λ e. Some (line.End e)) (file_kind_in d)))

-- the line of an object: exactly one of the seven kinds has a member that isn't null; other members are passed over
abbrev pub line_in : Data → Option Line
line_in d = if kind_count d == 1 then kind_in d else None

-- ---- answers

-- The answer is what is read, and Bad where that is nothing. Want of memory says nothing.
abbrev pub Gives : {X : Type 0} → Result X LineFault → Option X → Type 0
Gives (Ok x) read = read ≡ Some x
Gives (Err fault.Bad) read = read ≡ None
Gives (Err fault.NoMemory) read = ⊤
