use Rattle.commit_check.proofs.Winning.{retries}
use Rattle.commit_check.proofs.laws.retries_are_refused.Goals as goal

pub returns : goal.returns
returns c = retries
