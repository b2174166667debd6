use Rattle.std.proofs.Common.{◌≡◌, ℕ, ◌<◌, slice_index_or}
use Rattle.std.specs.Option.{IsSomeAnd}
use Rattle.share_pool.specs.OneHistory.{OwnIn}
use Rattle.share_pool.proofs.history.check_all.Given as goal

abbrev pub invariant-loop-i : goal.invariant-loop-i
invariant-loop-i g l = record {
  same : l.desks ≡ l.initial.desks;
  note : l.note ≡ l.initial.note;
  checked : (j : ℕ) (d : _) → j < l.i → IsSomeAnd (slice_index_or l.initial.desks j d).pass (OwnIn l.initial.note.seen);
}
