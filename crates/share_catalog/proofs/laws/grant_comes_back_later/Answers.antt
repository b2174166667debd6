use Rattle.share_catalog.proofs.LawProofs.{grants_again}
use Rattle.share_catalog.proofs.laws.grant_comes_back_later.Goals as goal

pub returns : goal.returns
returns c = grants_again
