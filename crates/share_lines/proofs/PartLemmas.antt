-- The object of a line that has a file.
use Rattle.std.proofs.Common.{◌≡◌, refl}
use Rattle.share_lines.specs.Parts.{file_data, line_of}
use Rattle.share_lines.specs.Printing.{line_data}
use Rattle.share_lines.specs.declared.kinds.FileLine.{FileLine}
use Rattle.share_lines.specs.declared.parts.FileKind.{FileKind}
use Rattle.share_lines.specs.declared.parts.FileKind.TheVariants as kind

pub of_kind : (k : FileKind) (f : FileLine) → file_data k f ≡ line_data (line_of k f)
of_kind kind.File f = refl
of_kind kind.Add f = refl
of_kind kind.Cdf f = refl
of_kind kind.Remove f = refl
