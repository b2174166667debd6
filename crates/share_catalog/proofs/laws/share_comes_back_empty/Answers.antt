use Rattle.share_catalog.proofs.LawProofs.{comes_back_empty}
use Rattle.share_catalog.proofs.laws.share_comes_back_empty.Goals as goal

pub returns : goal.returns
returns c = comes_back_empty
