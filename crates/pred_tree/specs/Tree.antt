-- Predicates as trees (Delta Sharing PROTOCOL.md, "JSON predicates for Filtering").
use Rattle.std.specs.Prelude.{ℕ, List, [], ◌∷◌, map}
use Rattle.pred_tree.specs.declared.tree.Comparison.{Comparison}
use Rattle.pred_tree.specs.declared.tree.Leaf.{Leaf}
use Rattle.pred_tree.specs.declared.tree.Pred.{Pred}
use Rattle.pred_tree.specs.declared.tree.Pred.TheOpen.{Pred-F}
use Rattle.pred_tree.specs.declared.tree.Pred.TheFolds.{fold-Pred}

mutual
  pub data Tree : Type 0 where
    all_of : Trees → Tree
    any_of : Trees → Tree
    negated : Tree → Tree
    null_at : List ℕ → Tree
    compared : Comparison → Leaf → Leaf → Tree

  pub data Trees : Type 0 where
    no_trees : Trees
    first_tree : Tree → Trees → Trees

abbrev pub trees_of : List Tree → Trees
trees_of [] = no_trees
trees_of (t ∷ ts) = first_tree t (trees_of ts)

-- one level, with each predicate inside already seen as its tree
abbrev pub tree_step : Pred-F Tree → Tree
tree_step (Pred-F.All v) = all_of (trees_of v.items)
tree_step (Pred-F.Any v) = any_of (trees_of v.items)
tree_step (Pred-F.Not b) = negated b.value
tree_step (Pred-F.IsNull name) = null_at name
tree_step (Pred-F.Compare c left right) = compared c left right

-- the tree that the code's enum stands for
abbrev pub tree : Pred → Tree
tree = fold-Pred Tree tree_step

abbrev pub trees : List Pred → Trees
trees ps = trees_of (map tree ps)
