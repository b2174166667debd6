use Rattle.share_catalog.proofs.LawProofs.{editions_rise}
use Rattle.share_catalog.proofs.laws.editions_rise.Goals as goal

pub returns : goal.returns
returns c = editions_rise
