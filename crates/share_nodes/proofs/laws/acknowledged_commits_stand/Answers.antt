use Rattle.share_nodes.proofs.Apart.{acknowledged_stand}
use Rattle.share_nodes.proofs.laws.acknowledged_commits_stand.Goals as goal

pub returns : goal.returns
returns c = acknowledged_stand
