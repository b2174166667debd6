-- What the types of a line's fields keep.
use Rattle.std.specs.Prelude.{◌^◌, ◌<◌, IfSome, FitsSigned}
use Rattle.std.specs.Int.{w64}
use Rattle.log_actions.specs.Kept.{KeptAdd, KeptCdc, KeptMetaData, KeptProtocol, KeptRemove}
use Rattle.delta_lines.specs.declared.kinds.FileAction.{FileAction}
use Rattle.delta_lines.specs.declared.kinds.FileAction.TheVariants as action
use Rattle.delta_lines.specs.declared.kinds.DeltaFile.{DeltaFile}
use Rattle.delta_lines.specs.declared.kinds.DeltaLine.{DeltaLine}
use Rattle.delta_lines.specs.declared.kinds.DeltaLine.TheVariants as line

abbrev pub KeptAction : FileAction → Type 0
KeptAction (action.Add f) = KeptAdd f
KeptAction (action.Cdc f) = KeptCdc f
KeptAction (action.Remove f) = KeptRemove f

pub record KeptFile (f : DeltaFile) : Type 0 where
  pub action : KeptAction f.action
  pub expires : IfSome f.expires (λ n. n < 2 ^ 63)
  pub time : IfSome f.time (FitsSigned w64)
  pub version : IfSome f.version (λ n. n < 2 ^ 63)

abbrev pub Kept : DeltaLine → Type 0
Kept (line.Protocol p) = KeptProtocol p
Kept (line.MetaData m) = KeptMetaData m
Kept (line.File f) = KeptFile f
Kept (line.End e) = IfSome e.min_expires (λ n. n < 2 ^ 63)
