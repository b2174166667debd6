-- The laws of the truth of predicates.
use Rattle.std.proofs.Common.{◌≡◌, ℕ, List, Bool, true, false, ◌||◌, refl, ap, bytes_eq}
use Rattle.std.proofs.lemmas.Slice.Eq.{bytes_eq-Decides}
use Rattle.json_tree.specs.declared.pairs.Pairs.{Pairs}
use Rattle.part_values.specs.declared.columns.Columns.{Columns}
use Rattle.part_values.specs.Columns.{kind_of_column}
use Rattle.part_values.specs.Typed.{typed}
use Rattle.pred_tree.specs.Kinds.{compared_type}
use Rattle.pred_tree.specs.Laws.{JoinedListNoMore, NoneListsAll, NotTwiceIsSame, RestsOnNamed, leaf_names, names, one_names}
use Rattle.pred_tree.specs.Tree.{Tree, all_of, any_of, negated, null_at, compared, Trees, no_trees, first_tree}
use Rattle.pred_tree.specs.Truth.{all_true, any_true, both, is_not_false, null_truth, opposite, text_of_column, truth, truths, value_of_leaf}
use Rattle.pred_tree.specs.declared.tree.Leaf.{Leaf}
use Rattle.pred_tree.specs.declared.tree.Leaf.TheVariants.{Column, Literal}
use Rattle.pred_tree.specs.declared.truth.Truth.{Truth}
use Rattle.pred_tree.specs.declared.truth.Truth.TheVariants.{True, False, Unknown}

or_first : (a b : Bool) → a ≡ true → (a || b) ≡ true
or_first a b e = rw e refl

or_second : (a b : Bool) → b ≡ true → (a || b) ≡ true
or_second true b e = refl
or_second false b e = e

itself : (name : List ℕ) → bytes_eq name name ≡ true
itself name = (bytes_eq-Decides name name).1 refl

same_leaf : (columns : Columns) (values others : Pairs) (leaf : Leaf)
    → ((column : List ℕ) → leaf_names column leaf ≡ true → text_of_column column values ≡ text_of_column column others)
    → value_of_leaf columns values leaf ≡ value_of_leaf columns others leaf
same_leaf columns values others (Column name kind) h =
    ap (λ text. typed text (compared_type kind (kind_of_column name columns))) (h name (itself name))
same_leaf columns values others (Literal value kind) h = refl

mutual
  pub same : (columns : Columns) (values others : Pairs) (t : Tree)
      → ((column : List ℕ) → names column t ≡ true → text_of_column column values ≡ text_of_column column others)
      → truth columns values t ≡ truth columns others t
  same columns values others (all_of ts) h = ap all_true (same_all columns values others ts h)
  same columns values others (any_of ts) h = ap any_true (same_all columns values others ts h)
  same columns values others (negated t) h = ap opposite (same columns values others t h)
  same columns values others (null_at name) h = ap (null_truth (kind_of_column name columns)) (h name (itself name))
  same columns values others (compared c left right) h =
      rw (
        same_leaf columns values others left (λ column e. h column (or_first _ _ e)),
        same_leaf columns values others right (λ column e. h column (or_second (leaf_names column left) _ e)),
      ) refl

  pub same_all : (columns : Columns) (values others : Pairs) (ts : Trees)
      → ((column : List ℕ) → one_names column ts ≡ true → text_of_column column values ≡ text_of_column column others)
      → truths columns values ts ≡ truths columns others ts
  same_all columns values others no_trees h = refl
  same_all columns values others (first_tree t ts) h =
      rw (
        same columns values others t (λ column e. h column (or_first _ _ e)),
        same_all columns values others ts (λ column e. h column (or_second (names column t) _ e)),
      ) refl

opposite_twice : (t : Truth) → opposite (opposite t) ≡ t
opposite_twice True = refl
opposite_twice False = refl
opposite_twice Unknown = refl

joined : (s t : Truth) → is_not_false (both s (both t True)) ≡ true → (is_not_false s ≡ true) × (is_not_false t ≡ true)
joined False t e = cc
joined True False e = cc
joined True True e = (refl, refl)
joined True Unknown e = (refl, refl)
joined Unknown False e = cc
joined Unknown True e = (refl, refl)
joined Unknown Unknown e = (refl, refl)

pub rests_on_named : RestsOnNamed
rests_on_named = same

pub not_twice_is_same : NotTwiceIsSame
not_twice_is_same columns values t = opposite_twice (truth columns values t)

pub none_lists_all : NoneListsAll
none_lists_all columns values = refl

pub joined_list_no_more : JoinedListNoMore
joined_list_no_more columns values s t e = joined (truth columns values s) (truth columns values t) e
