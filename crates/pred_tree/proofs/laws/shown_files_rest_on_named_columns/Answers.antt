use Rattle.pred_tree.proofs.ShownFiles.{shown_rests_on_named}
use Rattle.pred_tree.proofs.laws.shown_files_rest_on_named_columns.Goals as goal

pub returns : goal.returns
returns c = shown_rests_on_named
