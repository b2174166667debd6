use Rattle.std.proofs.Common.{◌≡◌, ◌≤◌, ◌<◌, length, max, vec_len}
use Rattle.std.specs.Prelude.{IfSome}
use Rattle.log_store.specs.Loads.{Looked}
use Rattle.log_store.proofs.Keeping.{IsReading}
use Rattle.log_store.proofs.reading.read_on.Given as goal

abbrev pub invariant-loop-version : goal.invariant-loop-version
invariant-loop-version g l = record {
  room : 0 < vec_len l.piece;
  count : length l.kept ≡ l.version;
  upto : l.version ≤ max (length l.fn.kept) l.end;
  looked : Looked (g.W.Store.objects l.fn.store) (g.W.Store.objects l.store) (g.W.Store.alone l.fn.store) (g.W.Store.alone l.store);
  later : g.W.Store.faults l.fn.store ≤ g.W.Store.faults l.store;
  stored : g.W.Store.stored l.store ≡ g.W.Store.stored l.fn.store;
  reading : IfSome (g.W.Store.objects l.fn.store) (λ os. IsReading l.location os l.version l.kept);
}
