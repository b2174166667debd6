use Rattle.pred_tree.proofs.LawProofs.{rests_on_named}
use Rattle.pred_tree.proofs.laws.rests_on_named_columns.Goals as goal

pub returns : goal.returns
returns c = rests_on_named
