use Rattle.share_catalog.proofs.LawProofs.{leaves_others, leaves_shares}
use Rattle.share_catalog.proofs.laws.others_see_the_same.Goals as goal

pub returns-clause-recipients : goal.returns-clause-recipients
returns-clause-recipients c = leaves_others

pub returns-clause-shares : goal.returns-clause-shares
returns-clause-shares c = leaves_shares
