use Rattle.std.proofs.Common.{◌≡◌, take}
use Rattle.commit_check.specs.Offers.{commit_with}
use Rattle.commit_check.proofs.made.with_info.Given as goal

abbrev pub invariant-loop-action : goal.invariant-loop-action
invariant-loop-action l = l.all.items ≡ commit_with l.fn.now (take l.action-index l.actions)
