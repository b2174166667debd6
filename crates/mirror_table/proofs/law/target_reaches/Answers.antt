use Rattle.mirror_table.proofs.Reaching.{reaches}
use Rattle.mirror_table.proofs.law.target_reaches.Goals as goal

pub returns : goal.returns
returns c = reaches
