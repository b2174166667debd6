use Rattle.std.proofs.Common.{take}
use Rattle.commit_check.specs.Known.{Knows}
use Rattle.commit_check.proofs.offered.Offered.of.Given as goal

abbrev pub invariant-loop-action : goal.invariant-loop-action
invariant-loop-action l = Knows l.offered (take l.action-index l.actions)
