use Rattle.std.proofs.Common.{◌≡◌, ◌++◌, drop}
use Rattle.std.specs.Prelude.{filter_map}
use Rattle.log_commit.specs.Names.{version_of}
use Rattle.log_store.proofs.versions.versions_of.Given as goal

abbrev pub invariant-loop-name : goal.invariant-loop-name
invariant-loop-name l = l.versions.items ++ filter_map version_of (drop l.name-index l.names) ≡ filter_map version_of l.names
