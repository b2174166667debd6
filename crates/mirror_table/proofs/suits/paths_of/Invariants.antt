use Rattle.std.proofs.Common.{◌≡◌, map, take}
use Rattle.mirror_table.proofs.suits.paths_of.Given as goal

abbrev pub invariant-loop-file : goal.invariant-loop-file
invariant-loop-file l = map (λ p. p.now) l.paths.items ≡ map (λ f. f.now.path) (take l.file-index l.files)
