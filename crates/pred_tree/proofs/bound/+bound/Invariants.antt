use Rattle.std.proofs.Common.{◌≡◌, ◌++◌, drop, map}
use Rattle.json_tree.specs.declared.pairs.Pairs.{Pairs}
use Rattle.pred_tree.specs.Bound.{answer}
use Rattle.pred_tree.specs.Tree.{trees}
use Rattle.pred_tree.specs.Truth.{truths}
use Rattle.pred_tree.proofs.bound.+bound.Given as goal

-- what the bound predicates say, and what those that are left say, is what all say
abbrev pub invariant-bound_each-loop-child : goal.invariant-bound_each-loop-child
invariant-bound_each-loop-child l =
    (values : Pairs)
    → map (answer values) l.nodes.items ++ truths l.columns values (trees (drop l.child-index l.child-items))
    ≡ truths l.columns values (trees l.child-items)
