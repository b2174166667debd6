use Rattle.std.proofs.lemmas.Result.{err_from_is_err_and}
use Rattle.share_book.proofs.States.{advance_stops, advanced_more}
use Rattle.share_book.proofs.replay.state_after.Goals as goal

pub returns-in_err-state-2-clause-state : goal.returns-in_err-state-2-clause-state
returns-in_err-state-2-clause-state g c = λ log at s.
    let p = err_from_is_err_and c.from_residual-in_err-state-2.result c.from_residual-in_err-state-2.ensures.1 in
    rw (p.1, p.2) (advance_stops c.args.base.now c.args.commits.now c.loop-commit.commit-index c.commit-item.result c.loop-commit.state c.args.steps.now c.loop-commit.steps c.deref.result.now c.next.result c.in_err-state-2.field-0.0
    c.loop-commit-test.true c.commit-item.is c.deref.ensures c.loop-commit.invariant c.next.ensures.state c.in_err-state-2.was log at s)

pub loop-commit-preserved : goal.loop-commit-preserved
loop-commit-preserved g c =
    advanced_more c.args.base.now c.args.commits.now c.loop-commit.commit-index c.commit-item.result c.loop-commit.state c.in_ok-state-2.state c.args.steps.now c.loop-commit.steps c.next.new.steps c.deref.result.now
    c.loop-commit-test.true c.commit-item.is c.deref.ensures c.loop-commit.invariant c.in_ok-state-2.ensures.state c.in_ok-state-2.ensures.next c.in_ok-state-2.ensures.counted
