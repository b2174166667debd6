use Rattle.std.proofs.Common.{◌≡◌, ◌+◌, drop, not}
use Rattle.std.specs.List.{position_from}
use Rattle.change_feed.proofs.feed.first_off.Given as goal

abbrev pub invariant-loop-mark : goal.invariant-loop-mark
invariant-loop-mark l = record {
  at : l.version ≡ l.from + l.mark-index;
  first : position_from (λ m. not m.feed) l.version (drop l.mark-index l.marks) ≡ position_from (λ m. not m.feed) l.from l.marks;
}
