use Rattle.std.proofs.Common.{◌≡◌, ◌<◌, ◌≤◌, ◌-◌, List, ℕ, length}
use Rattle.std.specs.Io.KnownBytes.{append_known}
use Rattle.log_store.specs.Loads.{Looked}
use Rattle.share_serve.specs.Sends.{HasReadOf}
use Rattle.share_serve.proofs.file.copy_range.Given as goal

abbrev pub invariant-loop-at : goal.invariant-loop-at
invariant-loop-at g l = record {
  from : l.first ≤ l.at;
  within : l.at ≤ l.end;
  room : 0 < length l.piece;
  looked : Looked (g.W.Store.objects l.fn.store) (g.W.Store.objects l.store) (g.W.Store.alone l.fn.store) (g.W.Store.alone l.store);
  stored : g.W.Store.stored l.store ≡ g.W.Store.stored l.fn.store;
  later : (g.W.Store.faults l.fn.store ≤ g.W.Store.faults l.store) × (g.K.Sink.faults l.fn.sink ≤ g.K.Sink.faults l.sink);
  copied : (part : List ℕ) × HasReadOf l.name l.fn.range l.at (g.W.Store.objects l.store) part × (g.K.Sink.holds l.sink ≡ append_known (g.K.Sink.holds l.fn.sink) part);
}

abbrev pub decreases-loop-at : goal.decreases-loop-at
decreases-loop-at g l = l.end - l.at
