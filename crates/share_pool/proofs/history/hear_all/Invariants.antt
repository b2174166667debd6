use Rattle.std.proofs.Common.{◌≡◌, ℕ, ◌<◌, slice_index_or}
use Rattle.share_pool.specs.OneHistory.{HasSeenUpTo}
use Rattle.share_pool.proofs.history.hear_all.Given as goal

abbrev pub invariant-loop-i : goal.invariant-loop-i
invariant-loop-i g l = record {
  same : l.desks ≡ l.initial.desks;
  cell : l.note.cell ≡ l.initial.note.cell;
  heard : (j : ℕ) (d : _) → j < l.i → HasSeenUpTo l.note.seen (slice_index_or l.initial.desks j d).pass;
}
