use Rattle.pred_tree.proofs.ShownFiles.{shown_rows}
use Rattle.pred_tree.proofs.laws.shown_rows_satisfy.Goals as goal

pub returns : goal.returns
returns c = shown_rows
