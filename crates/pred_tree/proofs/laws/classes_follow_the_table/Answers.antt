use Rattle.pred_tree.proofs.TableLemmas.{follows_table}
use Rattle.pred_tree.proofs.laws.classes_follow_the_table.Goals as goal

pub returns : goal.returns
returns c = follows_table
