use Rattle.std.specs.List.{AllAdjacentBelow}
use Rattle.json_tree.proofs.Order.{Below}
use Rattle.json_tree.proofs.pairs.are_pairs.Given as goal

-- each name is below the next, so far
abbrev pub invariant-loop-i : goal.invariant-loop-i
invariant-loop-i l = AllAdjacentBelow Below l.items l.i
