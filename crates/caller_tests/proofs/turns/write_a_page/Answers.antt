use Rattle.turn_cell.proofs.Fresh.{fresh_idle}
use Rattle.caller_tests.proofs.turns.write_a_page.Goals as goal

pub add_all-requires-clause-idle : goal.add_all-requires-clause-idle
add_all-requires-clause-idle g c k d = rw c.as_mut_slice-passes.ensures.value (fresh_idle _ _ _ 0 c.in_ok-cell.ensures.passes.1)
