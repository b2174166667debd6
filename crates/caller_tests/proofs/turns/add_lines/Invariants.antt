use Rattle.std.proofs.Common.{◌≡◌, false}
use Rattle.caller_tests.proofs.turns.add_lines.Given as goal

abbrev pub invariant-loop-number : goal.invariant-loop-number
invariant-loop-number g l = (l.pass.cell ≡ l.cell) × (l.pass.holds ≡ false)
