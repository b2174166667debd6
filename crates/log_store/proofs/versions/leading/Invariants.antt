use Rattle.std.proofs.Common.{◌≡◌, ◌+◌, drop}
use Rattle.log_store.specs.Reading.{leading_from}
use Rattle.log_store.proofs.versions.leading.Given as goal

abbrev pub invariant-loop-version : goal.invariant-loop-version
invariant-loop-version l = record {
  at : l.count ≡ l.version-index;
  left : leading_from l.count (drop l.version-index l.versions) + l.count ≡ leading_from 0 l.versions;
}
