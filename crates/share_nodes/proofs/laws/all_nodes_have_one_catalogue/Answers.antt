use Rattle.share_nodes.proofs.StoreWorlds.{one_log}
use Rattle.share_nodes.proofs.laws.all_nodes_have_one_catalogue.Goals as goal

pub returns : goal.returns
returns c = one_log
