use Rattle.std.proofs.Common.{◌≡◌, ◌++◌, drop, map}
use Rattle.share_catalog.specs.Entries.{entries, pair_texts}
use Rattle.share_catalog.specs.HeldMaps.{maps_of}
use Rattle.share_catalog.specs.Kept.{kept_grant}
use Rattle.share_catalog.specs.Listed.{grant_entry, run}
use Rattle.share_catalog.proofs.held.Held.grants_in.Given as goal

abbrev pub invariant-loop-entry : goal.invariant-loop-entry
invariant-loop-entry l =
    map grant_entry l.found.items ++ run l.name (kept_grant (maps_of l.self) l.recipient) (entries pair_texts (drop l.entry-index l.grants))
    ≡ run l.name (kept_grant (maps_of l.self) l.recipient) (entries pair_texts l.grants)
