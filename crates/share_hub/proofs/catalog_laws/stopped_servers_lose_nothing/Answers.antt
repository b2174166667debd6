use Rattle.share_hub.proofs.CatalogOpening.{nothing_lost}
use Rattle.share_hub.proofs.catalog_laws.stopped_servers_lose_nothing.Goals as goal

pub returns : goal.returns
returns c = nothing_lost
