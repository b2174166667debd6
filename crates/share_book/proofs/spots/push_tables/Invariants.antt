use Rattle.std.proofs.Common.{◌≡◌, ◌++◌, map, take}
use Rattle.share_catalog.specs.declared.listing.Bound.{Bound}
use Rattle.share_book.proofs.spots.push_tables.Given as goal

abbrev pub invariant-loop-bound : goal.invariant-loop-bound
invariant-loop-bound l = l.tables.items ≡ l.initial.tables.items ++ map (λ (b : Bound). b.table.now) (take l.bound-index l.bindings)
