use Rattle.share_hub.proofs.CatalogStanding.{refreshes_standing}
use Rattle.share_hub.proofs.catalog_laws.catalog_refreshes_stand.Goals as goal

pub returns : goal.returns
returns c = refreshes_standing
