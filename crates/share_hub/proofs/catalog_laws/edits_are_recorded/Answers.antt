use Rattle.share_hub.proofs.CatalogRecording.{recorded}
use Rattle.share_hub.proofs.catalog_laws.edits_are_recorded.Goals as goal

pub returns : goal.returns
returns c = recorded
