use Rattle.commit_check.proofs.Lawfulness.{read_holds}
use Rattle.commit_check.proofs.laws.read_still_holds.Goals as goal

pub returns : goal.returns
returns c = read_holds
