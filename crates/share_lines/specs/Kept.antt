-- What the types of a line's fields keep.
use Rattle.std.specs.Prelude.{◌^◌, ◌<◌, IfSome, FitsSigned, ⊤}
use Rattle.std.specs.Int.{w64}
use Rattle.json_tree.specs.Pairs.{IsPairs}
use Rattle.share_lines.specs.declared.kinds.FileLine.{FileLine}
use Rattle.share_lines.specs.declared.kinds.Line.{Line}
use Rattle.share_lines.specs.declared.kinds.Line.TheVariants as line

pub record KeptFile (f : FileLine) : Type 0 where
  pub expires : IfSome f.expires (λ n. n < 2 ^ 63)
  pub values : IsPairs f.values
  pub size : f.size < 2 ^ 63
  pub time : IfSome f.time (FitsSigned w64)
  pub version : IfSome f.version (λ n. n < 2 ^ 63)

abbrev pub Kept : Line → Type 0
Kept line.Protocol = ⊤
Kept (line.MetaData m) = IsPairs m.configuration
Kept (line.File f) = KeptFile f
Kept (line.Add f) = KeptFile f
Kept (line.Cdf f) = KeptFile f
Kept (line.Remove f) = KeptFile f
Kept (line.End e) = IfSome e.min_expires (λ n. n < 2 ^ 63)
