use Rattle.commit_check.proofs.Lawfulness.{admitted_lawful}
use Rattle.commit_check.proofs.laws.admitted_is_lawful.Goals as goal

pub returns : goal.returns
returns c = admitted_lawful
