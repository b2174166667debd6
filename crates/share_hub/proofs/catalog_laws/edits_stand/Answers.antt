use Rattle.share_hub.proofs.CatalogStanding.{edits_standing}
use Rattle.share_hub.proofs.catalog_laws.edits_stand.Goals as goal

pub returns : goal.returns
returns c = edits_standing
