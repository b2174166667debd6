use Rattle.std.proofs.Common.{◌≡◌, ◌++◌, map, take}
use Rattle.std.specs.Prelude.{option_map}
use Rattle.mirror_table.specs.Targets.{adds, files_of}
use Rattle.mirror_table.proofs.changes.push_adds.Given as goal

abbrev pub invariant-loop-file : goal.invariant-loop-file
invariant-loop-file l = l.actions.items ≡ l.fn.actions.items ++ adds (files_of (option_map (λ s. s.now) l.fn.state)) (map (λ f. f.now) (take l.file-index l.wanted))
