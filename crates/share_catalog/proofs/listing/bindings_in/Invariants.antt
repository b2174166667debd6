use Rattle.std.proofs.Common.{◌≡◌, ◌++◌, drop, map}
use Rattle.share_catalog.specs.Entries.{entries}
use Rattle.share_catalog.specs.Kept.{kept_table}
use Rattle.share_catalog.specs.Listed.{whole_entry, whole_run}
use Rattle.share_catalog.specs.TableNames.{parts_of}
use Rattle.share_catalog.proofs.listing.bindings_in.Given as goal

abbrev pub invariant-loop-entry : goal.invariant-loop-entry
invariant-loop-entry l =
    map whole_entry l.found.items ++ whole_run l.name (kept_table l.share) (entries parts_of (drop l.entry-index l.tables)) ≡ whole_run l.name (kept_table l.share) (entries parts_of l.tables)
