use Rattle.share_hub.proofs.LoadsKept.{loads}
use Rattle.share_hub.proofs.table_laws.loads_are_the_stores.Goals as goal

pub returns : goal.returns
returns c = loads
