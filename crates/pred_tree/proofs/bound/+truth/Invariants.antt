use Rattle.std.proofs.Common.{◌≡◌, drop, map}
use Rattle.pred_tree.specs.Bound.{answer}
use Rattle.pred_tree.specs.Truth.{all_true, any_true, both, either}
use Rattle.pred_tree.proofs.bound.+truth.Given as goal

-- what is known, and the truths of the predicates that are left, make the truth of all
abbrev pub invariant-all_true-loop-child : goal.invariant-all_true-loop-child
invariant-all_true-loop-child l =
    both l.all (all_true (map (answer l.values) (drop l.child-index l.child-items)))
    ≡ all_true (map (answer l.values) l.child-items)

abbrev pub invariant-any_true-loop-child : goal.invariant-any_true-loop-child
invariant-any_true-loop-child l =
    either l.any (any_true (map (answer l.values) (drop l.child-index l.child-items)))
    ≡ any_true (map (answer l.values) l.child-items)
