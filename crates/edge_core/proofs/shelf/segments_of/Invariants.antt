use Rattle.std.proofs.Common.{◌≡◌, ◌++◌, drop, true}
use Rattle.std.specs.List.{list_all}
use Rattle.edge_core.specs.Objects.{segments_in}
use Rattle.edge_core.specs.Stored.{is_named, stored_objects}
use Rattle.edge_core.proofs.shelf.segments_of.Given as goal

abbrev pub invariant-loop-slot : goal.invariant-loop-slot
invariant-loop-slot l = (l.found.items ++ segments_in l.dir (stored_objects l.text (drop l.slot-index l.slots)) ≡ segments_in l.dir (stored_objects l.text l.slots))
    × (list_all is_named (stored_objects l.text (drop l.slot-index l.slots)) ≡ true)
