-- What is printed of a client's answers.
use Rattle.std.specs.Prelude.{ℕ, List, [], ◌∷◌, ◌++◌, codes, flat_map}
use Rattle.share_client.specs.declared.listing.SharedTable.{SharedTable}
use Rattle.share_client.specs.declared.table_read.TableRead.{TableRead}
use Rattle.share_lines.specs.Printing.{line_text}
use Rattle.share_lines.specs.declared.kinds.FileLine.{FileLine}
use Rattle.share_lines.specs.declared.kinds.Line.{Line}
use Rattle.share_lines.specs.declared.kinds.Line.TheVariants as line

-- share, schema and table, as the server gives them
abbrev pub table_line : SharedTable → List ℕ
table_line t = t.share ++ codes " " ++ t.schema ++ codes " " ++ t.table ++ codes "\n"

abbrev pub tables_text : List SharedTable → List ℕ
tables_text tables = flat_map table_line tables

-- a line of a body (Delta Sharing PROTOCOL.md, "API Response Format in Parquet")
abbrev pub line_and_end : Line → List ℕ
line_and_end l = line_text l ++ 10 ∷ []

abbrev pub file_text : FileLine → List ℕ
file_text f = line_and_end (line.File f)

-- the metaData line, and the lines of the files
abbrev pub read_text : TableRead → List ℕ
read_text read = line_and_end read.meta ++ flat_map file_text read.files.items
