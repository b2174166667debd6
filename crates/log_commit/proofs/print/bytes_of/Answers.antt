use Rattle.std.proofs.Common.{sym, arith, subst}
use Rattle.log_actions.specs.Commits.{IsCommit}
use Rattle.log_actions.proofs.CommitTexts.{text_more}
use Rattle.log_commit.proofs.PrintedBack.{all_back, back_more}
use Rattle.log_commit.proofs.print.bytes_of.Goals as goal

pub loop-action-preserved : goal.loop-action-preserved
loop-action-preserved c =
    let l = c.loop-action.invariant in
    let actions = c.actions-action-items.result.now in
    record {
      text = text_more actions c.loop-action.action-index c.action-item.result _ _ (omega arith) c.action-item.is l.text c.in_ok-push_line.ensures.text;
      back = back_more actions c.loop-action.action-index c.action-item.result (omega arith) c.action-item.is l.back c.in_ok-push_line.ensures.back;
    }

pub returns-clause-back : goal.returns-clause-back
returns-clause-back c =
    rw (← c.actions-action-items.ensures.value) (all_back c.actions-action-items.result.now c.loop-action.action-index c.loop-action.bytes.items (subst IsCommit (sym c.actions-action-items.ensures.value) c.actions-action-items.ensures.rules) (omega arith) c.loop-action.invariant.text c.loop-action.invariant.back)
