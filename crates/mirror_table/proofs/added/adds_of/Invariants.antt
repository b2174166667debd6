use Rattle.std.proofs.Common.{◌≡◌, false, map, take}
use Rattle.std.specs.Prelude.{filter_map}
use Rattle.mirror_table.specs.Added.{added}
use Rattle.mirror_table.proofs.Adding.{are_mixed}
use Rattle.mirror_table.proofs.added.adds_of.Given as goal

abbrev pub invariant-loop-file : goal.invariant-loop-file
invariant-loop-file l = record {
  adds : map (λ f. f.now) l.adds.items ≡ filter_map added (take l.file-index l.files);
  each : are_mixed (take l.file-index l.files) ≡ false;
}
