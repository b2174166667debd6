use Rattle.commit_check.proofs.Sets.{knows_more}
use Rattle.commit_check.proofs.offered.Offered.of.Goals as goal

pub loop-action-preserved : goal.loop-action-preserved
loop-action-preserved c =
    knows_more c.loop-action.offered c.record.new.self c.args.actions.now c.loop-action.action-index c.action-item.result c.loop-action-test.true c.action-item.is c.loop-action.invariant c.in_ok-record.ensures
