use Rattle.std.proofs.Common.{◌≡◌, ◌<◌, ℕ, length, Some, slice_index_or, drop}
use Rattle.share_commands.specs.Serve.{AllWait}
use Rattle.share_commands.proofs.serve.make_all_ready.Given as goal

abbrev pub invariant-loop-desk : goal.invariant-loop-desk
invariant-loop-desk g l = record {
  count : length l.desks ≡ length l.initial.desks;
  rest : l.passes.rest.items ≡ drop l.desk-index l.fn.passes.items;
  len : l.passes.rest.len ≡ length l.passes.rest.items;
  waits : AllWait g.N.Listener.coming g.N.Listener.closed g.N.Listener.faults g.N.Listener.listens g.C.Clock.coming g.W.Store.objects g.W.Store.alone g.W.Store.faults g.W.Store.stored (length l.initial.desks) l.initial.desks l.desks;
  listens : (i : ℕ) (d : _) → i < l.desk-index → g.N.Listener.listens (slice_index_or l.desks i d).door ≡ Some l.fn.port;
  ready : (i : ℕ) (d : _) (p : _) → i < l.desk-index → (slice_index_or l.desks i d).pass ≡ Some (slice_index_or l.fn.passes.items i p);
}
