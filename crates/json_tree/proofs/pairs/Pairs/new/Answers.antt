use Rattle.json_tree.proofs.Order.{IsPairs-nil}
use Rattle.json_tree.proofs.pairs.Pairs.new.Goals as goal

pub invariant_of-result : goal.invariant_of-result
invariant_of-result c = rw c.new.ensures.items IsPairs-nil
