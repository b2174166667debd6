-- The files that an answer adds (Delta Sharing PROTOCOL.md, "API Response Format in Delta").
use Rattle.std.specs.Prelude.{List, Option, Some, None, Result, Ok, Err, Vec, is_none, filter_map, map, if◌then◌else◌}
use Rattle.std.specs.Borrow.{Bor}
use Rattle.std.specs.List.{list_any}
use Rattle.std.specs.declared.alloc.Global.{Global}
use Rattle.log_actions.specs.declared.actions.AddFile.{AddFile}
use Rattle.delta_lines.specs.declared.kinds.DeltaFile.{DeltaFile}
use Rattle.delta_lines.specs.declared.kinds.FileAction.{FileAction}
use Rattle.delta_lines.specs.declared.kinds.FileAction.TheVariants as action
use Rattle.mirror_table.specs.declared.ends.NoTarget.{NoTarget}
use Rattle.mirror_table.specs.declared.ends.NoTarget.TheVariants as none
use Rattle.mirror_table.specs.declared.ends.Unsuited.TheVariants as unsuited

abbrev pub added_by : FileAction → Option AddFile
added_by (action.Add f) = Some f
added_by (action.Cdc f) = None
added_by (action.Remove f) = None

-- what a line's file adds, if the line is an add
abbrev pub added : DeltaFile → Option AddFile
added f = added_by f.action

-- what the files add, where each is an add
abbrev pub adds_in : List DeltaFile → Result (List AddFile) NoTarget
adds_in files = if list_any (λ f. is_none (added f)) files then Err (none.Unsuited unsuited.NotAdd) else Ok (filter_map added files)

-- an answer by what it lends
abbrev pub lent : Result (Vec (Bor AddFile) Global) NoTarget → Result (List AddFile) NoTarget
lent (Ok v) = Ok (map (λ f. f.now) v.items)
lent (Err e) = Err e
