use Rattle.std.proofs.Common.{◌≡◌, take}
use Rattle.log_actions.proofs.actions.copy_actions.Given as goal

abbrev pub invariant-loop-action : goal.invariant-loop-action
invariant-loop-action l = l.copies.items ≡ take l.action-index l.actions
