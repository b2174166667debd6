use Rattle.std.proofs.Common.{◌≡◌, drop, length, nat_eq}
use Rattle.std.specs.Bool.{OnTrue}
use Rattle.edge_core.specs.Objects.{GrowsTo}
use Rattle.edge_core.specs.Arrivals.{arrived, waiting}
use Rattle.edge_core.proofs.foreign.arrive.Given as goal

abbrev pub invariant-loop-next : goal.invariant-loop-next
invariant-loop-next l = record {
  place : l.come ≡ l.next-index;
  shelf : arrived l.call l.shelf (drop l.next-index l.coming) ≡ arrived l.call l.fn.shelf l.coming;
  waiting : waiting l.call (drop l.next-index l.coming) ≡ waiting l.call l.coming;
  grows : GrowsTo l.fn.shelf.0 l.shelf.0;
  same : OnTrue (nat_eq (length l.coming) 0) (l.shelf ≡ l.fn.shelf);
}
