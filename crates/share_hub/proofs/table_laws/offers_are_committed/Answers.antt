use Rattle.share_hub.proofs.Committing.{offers}
use Rattle.share_hub.proofs.table_laws.offers_are_committed.Goals as goal

pub returns : goal.returns
returns c = offers
