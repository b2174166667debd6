use Rattle.std.proofs.Common.{◌≡◌, ◌+◌, ◌*◌, drop, map}
use Rattle.serde_json.specs.View.{items_view}
use Rattle.pred_tree.specs.Grammar.{each, node_within}
use Rattle.pred_tree.specs.Tree.{tree}
use Rattle.pred_tree.proofs.Fronts.{onto}
use Rattle.pred_tree.proofs.reading.+node.Given as goal

abbrev pub decreases-node_within : goal.decreases-node_within
decreases-node_within l = 4 * l.levels

abbrev pub decreases-node_by : goal.decreases-node_by
decreases-node_by l = 4 * l.levels + 3

abbrev pub decreases-only_node : goal.decreases-only_node
decreases-only_node l = 4 * l.levels + 1

abbrev pub decreases-nodes_within : goal.decreases-nodes_within
decreases-nodes_within l = 4 * l.levels + 2

abbrev pub decreases-each_within : goal.decreases-each_within
decreases-each_within l = 4 * l.levels + 1

-- what is read, and what the children that are left are, make what all are
abbrev pub invariant-each_within-loop-child : goal.invariant-each_within-loop-child
invariant-each_within-loop-child l =
    onto (map tree l.nodes.items) (each (node_within l.levels) (items_view (drop l.child-index l.children)))
    ≡ each (node_within l.levels) (items_view l.children)
