use Rattle.pred_tree.proofs.Sound.{pruning}
use Rattle.pred_tree.proofs.laws.pruning_is_sound.Goals as goal

pub returns : goal.returns
returns c = pruning
