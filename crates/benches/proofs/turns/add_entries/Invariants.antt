use Rattle.std.proofs.Common.{◌≡◌, false}
use Rattle.benches.proofs.turns.add_entries.Given as goal

abbrev pub invariant-loop : goal.invariant-loop
invariant-loop g l = (l.pass.cell ≡ l.cell) × (l.pass.holds ≡ false)
