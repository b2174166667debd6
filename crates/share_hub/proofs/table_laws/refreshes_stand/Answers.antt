use Rattle.share_hub.proofs.TableStanding.{refreshes}
use Rattle.share_hub.proofs.table_laws.refreshes_stand.Goals as goal

pub returns : goal.returns
returns c = refreshes
