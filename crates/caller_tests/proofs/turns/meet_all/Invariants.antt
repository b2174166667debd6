use Rattle.std.proofs.Common.{◌≡◌, false}
use Rattle.caller_tests.proofs.turns.meet_all.Given as goal

abbrev pub invariant-loop-i : goal.invariant-loop-i
invariant-loop-i l = record {
  cell : l.first.cell ≡ l.cell;
  idle : l.first.holds ≡ false;
  others : l.others ≡ l.initial.others;
}
