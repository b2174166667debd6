use Rattle.std.proofs.Common.{◌≡◌, ◌-◌, IfOk, map, Some, option_map, subst, sym, ◌∙◌, refl}
use Rattle.serde_json.specs.View.{items_view, view}
use Rattle.pred_tree.specs.Grammar.{children_in, node_of, node_within, operator_in}
use Rattle.pred_tree.specs.Tree.{tree}
use Rattle.pred_tree.proofs.Levels.{a_level_down, some_nodes_each}
use Rattle.pred_tree.proofs.reading.+node.Goals as goal

pub node_within-returns-in-Some-children_in : goal.node_within-returns-in-Some-children_in
node_within-returns-in-Some-children_in t c =
    let d = view c.args.node.now in
    let children = items_view c.in-Some-children_in.children.now in
    let operator : operator_in d ≡ Some c.in-Some.operator = sym c.in-Some.ensures in
    let list : children_in d ≡ Some children = sym c.in-Some-children_in.ensures in
    let below : node_within c.args.levels d ≡ node_of (c.args.levels - 1) c.in-Some.operator children = a_level_down c.args.levels d c.if-levels-eq0.false ∙ rw (operator, list) refl in
    subst (λ read. IfOk c.node_by.result (λ o. option_map tree o ≡ read)) (sym below) c.node_by.ensures

pub nodes_within-returns : goal.nodes_within-returns
nodes_within-returns t c =
    subst (λ read. IfOk c.each_within.result (λ o. option_map (λ v. map tree v.items) o ≡ read)) (sym (some_nodes_each (node_within c.args.levels) c.args.children.now (sym c.if-is_empty.ensures))) c.each_within.ensures
