use Rattle.std.proofs.Common.{◌≡◌, drop, fold, min}
use Rattle.log_store.proofs.versions.least_of_all.Given as goal

abbrev pub invariant-loop-version : goal.invariant-loop-version
invariant-loop-version l = fold min l.least (drop l.version-index l.rest) ≡ fold min l.first l.rest
