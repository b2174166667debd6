use Rattle.pred_tree.proofs.ShownFiles.{shown_are_listed}
use Rattle.pred_tree.proofs.laws.shown_files_are_listed.Goals as goal

pub returns : goal.returns
returns c = shown_are_listed
