use Rattle.share_core.proofs.Joining.{pages_join}
use Rattle.share_core.proofs.law.pages_join.Goals as goal

pub returns : goal.returns
returns c = pages_join
