-- The lines that borrowed parts stand for.
use Rattle.delta_lines.specs.Delta.{path_of}
use Rattle.delta_lines.specs.declared.kinds.FileAction.{FileAction}
use Rattle.delta_lines.specs.declared.kinds.FileAction.TheVariants as action
use Rattle.delta_lines.specs.declared.kinds.DeltaFile.{DeltaFile}
use Rattle.delta_lines.specs.declared.kinds.DeltaLine.{DeltaLine}
use Rattle.delta_lines.specs.declared.kinds.DeltaLine.TheVariants as line
use Rattle.delta_lines.specs.declared.parts.ActionParts.{ActionParts}
use Rattle.delta_lines.specs.declared.parts.ActionParts.TheVariants as parts
use Rattle.delta_lines.specs.declared.parts.DeltaParts.{DeltaParts}
use Rattle.delta_lines.specs.declared.parts.LineParts.{LineParts}
use Rattle.delta_lines.specs.declared.parts.LineParts.TheVariants as lent

abbrev pub action_in : ActionParts → FileAction
action_in (parts.Add f) = action.Add f.now
action_in (parts.Cdc f) = action.Cdc f.now
action_in (parts.Remove f) = action.Remove f.now

-- its identifier is the path of its action
abbrev pub file_in : DeltaParts → DeltaFile
file_in p = record { id = path_of (action_in p.action); url = p.url.now; action = action_in p.action; expires = p.expires; time = p.time; version = p.version }

abbrev pub line_in : LineParts → DeltaLine
line_in (lent.Protocol p) = line.Protocol p.now
line_in (lent.MetaData m) = line.MetaData m.now
line_in (lent.File f) = line.File (file_in f.now)
line_in (lent.End e) = line.End e.now
