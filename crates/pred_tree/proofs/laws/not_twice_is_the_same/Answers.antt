use Rattle.pred_tree.proofs.LawProofs.{not_twice_is_same}
use Rattle.pred_tree.proofs.laws.not_twice_is_the_same.Goals as goal

pub returns : goal.returns
returns c = not_twice_is_same
