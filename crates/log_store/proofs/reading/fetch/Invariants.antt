use Rattle.std.proofs.Common.{◌≡◌, ◌≤◌, ◌+◌, ◌-◌, length}
use Rattle.std.specs.Prelude.{IfSome}
use Rattle.std.specs.FinMap as finmap
use Rattle.log_store.specs.Loads.{Looked}
use Rattle.log_store.proofs.Fetching.{IsFront}
use Rattle.log_store.proofs.reading.fetch.Given as goal

abbrev pub invariant-loop-store : goal.invariant-loop-store
invariant-loop-store g l = record {
  looked : Looked (g.W.Store.objects l.fn.store) (g.W.Store.objects l.store) (g.W.Store.alone l.fn.store) (g.W.Store.alone l.store);
  front : IfSome (g.W.Store.objects l.store) (λ os. IsFront l.bytes.items (finmap.get os l.name));
  later : g.W.Store.faults l.fn.store ≤ g.W.Store.faults l.store;
  stored : g.W.Store.stored l.store ≡ g.W.Store.stored l.fn.store;
}

abbrev pub decreases-loop-store : goal.decreases-loop-store
decreases-loop-store g l = l.limit + 1 - length l.bytes.items
