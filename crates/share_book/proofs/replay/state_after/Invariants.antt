use Rattle.share_book.proofs.States.{Advanced}
use Rattle.share_book.proofs.replay.state_after.Given as goal

abbrev pub invariant-loop-commit : goal.invariant-loop-commit
invariant-loop-commit g l = Advanced l.base l.commits l.commit-index l.state l.fn.steps l.steps
