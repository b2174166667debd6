use Rattle.pred_tree.proofs.LawProofs.{none_lists_all}
use Rattle.pred_tree.proofs.laws.none_lists_all.Goals as goal

pub returns : goal.returns
returns c = none_lists_all
