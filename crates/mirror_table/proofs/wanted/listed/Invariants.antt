use Rattle.std.proofs.Common.{◌≡◌, ◌++◌, map}
use Rattle.std.specs.BTreeMap.{values}
use Rattle.mirror_table.proofs.wanted.listed.Given as goal

abbrev pub invariant-loop-file : goal.invariant-loop-file
invariant-loop-file l = map (λ f. f.now) l.files.items ++ map (λ f. f.now) l.file-iterator ≡ map (λ f. f.now) (values l.by_path)
