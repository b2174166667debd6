use Rattle.share_hub.proofs.TableStores.{given_once}
use Rattle.share_hub.proofs.table_laws.versions_are_given_once.Goals as goal

pub returns : goal.returns
returns c = given_once
