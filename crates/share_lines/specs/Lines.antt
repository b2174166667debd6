-- The lines of a table's version (Delta Sharing PROTOCOL.md, "API Response Format in Parquet"), by what its log says of it.
use Rattle.std.specs.Prelude.{ℕ, List, [], ◌∷◌, ◌++◌, None}
use Rattle.log_actions.specs.declared.actions.AddFile.{AddFile}
use Rattle.log_actions.specs.declared.actions.MetaData.{MetaData}
use Rattle.share_lines.specs.Printing.{line_text}
use Rattle.share_lines.specs.declared.kinds.FileLine.{FileLine}
use Rattle.share_lines.specs.declared.kinds.MetaLine.{MetaLine}
use Rattle.share_lines.specs.declared.kinds.Line.TheVariants as line

-- "Metadata"
abbrev pub meta_of : MetaData → MetaLine
meta_of m = record { id = m.id; name = m.name; description = m.description; schema = m.schema; columns = m.columns; configuration = m.configuration }

-- "File": its identifier and its place are the path as spelt
abbrev pub file_of : AddFile → FileLine
file_of f = record { url = f.path; id = f.path; values = f.values; size = f.size; stats = f.stats; expires = None; time = None; version = None }

-- "Protocol": every table that is read asks for no more of its reader
abbrev pub protocol_line : List ℕ
protocol_line = line_text line.Protocol ++ 10 ∷ []

abbrev pub meta_line : MetaData → List ℕ
meta_line m = line_text (line.MetaData (meta_of m)) ++ 10 ∷ []

abbrev pub file_line : AddFile → List ℕ
file_line f = line_text (line.File (file_of f)) ++ 10 ∷ []
