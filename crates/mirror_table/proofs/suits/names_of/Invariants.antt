use Rattle.std.proofs.Common.{◌≡◌, map, take}
use Rattle.mirror_table.specs.Refusals.{names_of}
use Rattle.mirror_table.proofs.suits.names_of.Given as goal

abbrev pub invariant-loop-file : goal.invariant-loop-file
invariant-loop-file l = l.names.items ≡ names_of l.location (map (λ f. f.now.path) (take l.file-index l.files))
