-- What a line in the delta format is in the parquet format (Delta Sharing PROTOCOL.md, "API Response Format in Parquet", "API Response Format in Delta").
use Rattle.std.specs.Prelude.{ℕ, List, [], Option, Some, None, unwrap_or}
use Rattle.share_lines.specs.Lines.{meta_of}
use Rattle.share_lines.specs.declared.kinds.FileLine.{FileLine}
use Rattle.share_lines.specs.declared.kinds.Line.{Line}
use Rattle.share_lines.specs.declared.kinds.Line.TheVariants as line
use Rattle.delta_lines.specs.declared.kinds.FileAction.{FileAction}
use Rattle.delta_lines.specs.declared.kinds.FileAction.TheVariants as action
use Rattle.delta_lines.specs.declared.kinds.DeltaFile.{DeltaFile}
use Rattle.delta_lines.specs.declared.kinds.DeltaLine.{DeltaLine}
use Rattle.delta_lines.specs.declared.kinds.DeltaLine.TheVariants as delta

-- what a remove doesn't say of its file counts as no values
abbrev pub values_of : FileAction → List (List ℕ × Option (List ℕ))
values_of (action.Add f) = f.values
values_of (action.Cdc f) = f.values
values_of (action.Remove f) = unwrap_or f.values []

-- and as 0 bytes
abbrev pub size_of : FileAction → ℕ
size_of (action.Add f) = f.size
size_of (action.Cdc f) = f.size
size_of (action.Remove f) = unwrap_or f.size 0

-- only an add has statistics
abbrev pub stats_of : FileAction → Option (List ℕ)
stats_of (action.Add f) = f.stats
stats_of (action.Cdc f) = None
stats_of (action.Remove f) = None

abbrev pub file_line_of : DeltaFile → FileLine
file_line_of f = record { url = f.url; id = f.id; values = values_of f.action; size = size_of f.action; stats = stats_of f.action; expires = f.expires; time = f.time; version = f.version }

-- a file that came with no version is one of the table's; a change has its kind
abbrev pub as_kind : Option ℕ → FileAction → FileLine → Line
as_kind None a f = line.File f
as_kind (Some version) (action.Add _) f = line.Add f
as_kind (Some version) (action.Cdc _) f = line.Cdf f
as_kind (Some version) (action.Remove _) f = line.Remove f

abbrev pub parquet_of : DeltaFile → Line
parquet_of f = as_kind f.version f.action (file_line_of f)

-- every table that is read asks for no more of its reader than the one protocol of the parquet format
abbrev pub parquet_line : DeltaLine → Line
parquet_line (delta.Protocol p) = line.Protocol
parquet_line (delta.MetaData m) = line.MetaData (meta_of m)
parquet_line (delta.File f) = parquet_of f
parquet_line (delta.End e) = line.End e
