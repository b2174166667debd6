use Rattle.pred_tree.proofs.LawProofs.{joined_list_no_more}
use Rattle.pred_tree.proofs.laws.joined_list_no_more.Goals as goal

pub returns : goal.returns
returns c = joined_list_no_more
