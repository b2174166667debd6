use Rattle.share_hub.proofs.CatalogOpening.{all_found}
use Rattle.share_hub.proofs.catalog_laws.opens_find_all.Goals as goal

pub returns : goal.returns
returns c = all_found
