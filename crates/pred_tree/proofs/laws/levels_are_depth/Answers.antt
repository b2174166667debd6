use Rattle.pred_tree.proofs.DepthLemmas.{levels_are_depth}
use Rattle.pred_tree.proofs.laws.levels_are_depth.Goals as goal

pub returns : goal.returns
returns c = levels_are_depth
