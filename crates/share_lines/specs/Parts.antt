-- The lines that borrowed parts stand for.
use Rattle.std.specs.Prelude.{ℕ, List, [], ◌∷◌, Some, codes}
use Rattle.serde_json.specs.Data.{Data}
use Rattle.json_print.specs.Fields.{object_of}
use Rattle.share_lines.specs.Printing.{file_fields}
use Rattle.share_lines.specs.declared.kinds.FileLine.{FileLine}
use Rattle.share_lines.specs.declared.kinds.MetaLine.{MetaLine}
use Rattle.share_lines.specs.declared.kinds.Line.{Line}
use Rattle.share_lines.specs.declared.kinds.Line.TheVariants as line
use Rattle.share_lines.specs.declared.parts.FileKind.{FileKind}
use Rattle.share_lines.specs.declared.parts.FileKind.TheVariants as kind
use Rattle.share_lines.specs.declared.parts.FileParts.{FileParts}
use Rattle.share_lines.specs.declared.parts.MetaParts.{MetaParts}

abbrev pub file_in : FileParts → FileLine
file_in p = record { url = p.url.now; id = p.id.now; values = p.values.now; size = p.size; stats = p.stats.now; expires = p.expires; time = p.time; version = p.version }

abbrev pub meta_in : MetaParts → MetaLine
meta_in p = record { id = p.id.now; name = p.name.now; description = p.description.now; schema = p.schema.now; columns = p.columns.now; configuration = p.configuration.now }

-- the line of a kind that has a file
abbrev pub line_of : FileKind → FileLine → Line
line_of kind.File f = line.File f
line_of kind.Add f = line.Add f
line_of kind.Cdf f = line.Cdf f
line_of kind.Remove f = line.Remove f

abbrev pub kind_word : FileKind → List ℕ
kind_word kind.File = codes "file"
kind_word kind.Add = codes "add"
kind_word kind.Cdf = codes "cdf"
kind_word kind.Remove = codes "remove"

-- the object of such a line
abbrev pub file_data : FileKind → FileLine → Data
file_data k f = object_of ((kind_word k, Some (object_of (file_fields f))) ∷ [])
