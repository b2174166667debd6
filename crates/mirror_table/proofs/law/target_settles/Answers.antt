use Rattle.mirror_table.proofs.Reaching.{settles}
use Rattle.mirror_table.proofs.law.target_settles.Goals as goal

pub returns : goal.returns
returns c = settles
