-- What a file's values say of a predicate is so of each of its rows.
use Rattle.std.proofs.Common.{◌≡◌, ℕ, List, [], ◌∷◌, Bool, true, false, cond, ◌||◌, ◌⊎◌, inl, inr, Option, Some, None, refl, ap}
use Rattle.std.proofs.lemmas.Slice.Eq.{bytes_eq-Decides}
use Rattle.json_tree.specs.declared.pairs.Pairs.{Pairs}
use Rattle.part_values.specs.Columns.{kind_of_column}
use Rattle.part_values.specs.declared.columns.Columns.{Columns}
use Rattle.part_values.specs.declared.value.PartType.{PartType}
use Rattle.part_values.specs.declared.value.PartType.TheVariants as kind
use Rattle.part_values.specs.Typed.{Typed, null, boolean, whole, text, day, unread, typed}
use Rattle.pred_tree.specs.Kinds.{class, compared_type, is_same}
use Rattle.pred_tree.specs.Laws.{PruningIsSound}
use Rattle.pred_tree.specs.Rows.{AreRead, IsRowOf, Knows, Row, asks_null, one_asks_null, row_truth, row_truths, value_in}
use Rattle.pred_tree.specs.Tree.{Tree, all_of, any_of, negated, null_at, compared, Trees, no_trees, first_tree}
use Rattle.pred_tree.specs.Truth.{all_true, any_true, both, either, if_ordered, is_null, null_truth, of_test, opposite, order, text_of_column, truth, truths, value_of_leaf}
use Rattle.pred_tree.specs.declared.tree.Comparison.{Comparison}
use Rattle.pred_tree.specs.declared.tree.Leaf.{Leaf}
use Rattle.pred_tree.specs.declared.tree.Leaf.TheVariants.{Column, Literal}
use Rattle.pred_tree.specs.declared.truth.Truth.{Truth}
use Rattle.pred_tree.specs.declared.truth.Truth.TheVariants.{True, False, Unknown}

-- ---- the connectives

and_false : (t : Truth) → both t False ≡ False
and_false True = refl
and_false False = refl
and_false Unknown = refl

or_true : (t : Truth) → either t True ≡ True
or_true True = refl
or_true False = refl
or_true Unknown = refl

knows_both : (a b x y : Truth) → Knows a x → Knows b y → Knows (both a b) (both x y)
knows_both False b x y k l = rw k refl
knows_both True b x y k l = rw k l
knows_both Unknown False x y k l = rw l (and_false x)
knows_both Unknown True x y k l = tt
knows_both Unknown Unknown x y k l = tt

knows_either : (a b x y : Truth) → Knows a x → Knows b y → Knows (either a b) (either x y)
knows_either True b x y k l = rw k refl
knows_either False b x y k l = rw k l
knows_either Unknown True x y k l = rw l (or_true x)
knows_either Unknown False x y k l = tt
knows_either Unknown Unknown x y k l = tt

knows_opposite : (a x : Truth) → Knows a x → Knows (opposite a) (opposite x)
knows_opposite True x k = rw k refl
knows_opposite False x k = rw k refl
knows_opposite Unknown x k = tt

knows_itself : (t : Truth) → Knows t t
knows_itself True = refl
knows_itself False = refl
knows_itself Unknown = tt

-- ---- comparisons

-- a value that is in no order with any
record IsBlind (v : Typed) : Type 0 where
  left : (o : Typed) → order v o ≡ None
  right : (o : Typed) → order o v ≡ None

behind_null : (o : Typed) → order o null ≡ None
behind_null null = refl
behind_null (boolean b) = refl
behind_null (whole n) = refl
behind_null (text t) = refl
behind_null (day d) = refl
behind_null unread = refl

behind_unread : (o : Typed) → order o unread ≡ None
behind_unread null = refl
behind_unread (boolean b) = refl
behind_unread (whole n) = refl
behind_unread (text t) = refl
behind_unread (day d) = refl
behind_unread unread = refl

blind_null : IsBlind null
blind_null = record { left = λ o. refl; right = behind_null }

blind_unread : IsBlind unread
blind_unread = record { left = λ o. refl; right = behind_unread }

-- a row's value is the file's, or the file's is in no order with any
abbrev Sees : Typed → Typed → Type 0
Sees of_file of_row = (of_row ≡ of_file) ⊎ IsBlind of_file

sees_typed : (v r : Typed) → ((v ≡ unread → ⊥) → r ≡ v) → Sees v r
sees_typed null r is = inr blind_null
sees_typed (boolean b) r is = inl (is (λ e. cc e))
sees_typed (whole n) r is = inl (is (λ e. cc e))
sees_typed (text t) r is = inl (is (λ e. cc e))
sees_typed (day d) r is = inl (is (λ e. cc e))
sees_typed unread r is = inr blind_unread

other_blind : (t : Option (List ℕ)) → IsBlind (typed t kind.Other)
other_blind None = blind_null
other_blind (Some []) = blind_null
other_blind (Some (c ∷ cs)) = blind_unread

sees_leaf : (columns : Columns) (values : Pairs) (row : Row) (leaf : Leaf) → IsRowOf columns values row → Sees (value_of_leaf columns values leaf) (value_in row leaf)
sees_leaf columns values row (Literal value kind) is = inl refl
sees_leaf columns values row (Column name leaf) is = by_column (kind_of_column name columns) refl
  where
    by_class : (column : PartType) → kind_of_column name columns ≡ Some column → (b : Bool) → Sees (typed (text_of_column name values) (cond b column kind.Other)) (row name)
    by_class column e true = sees_typed (typed (text_of_column name values) column) (row name) (is name column e)
    by_class column e false = inr (other_blind (text_of_column name values))

    by_column : (o : Option PartType) → kind_of_column name columns ≡ o → Sees (typed (text_of_column name values) (compared_type leaf o)) (row name)
    by_column None e = inr (other_blind (text_of_column name values))
    by_column (Some column) e = by_class column e (is_same (class leaf) (class column))

knows_compared : (c : Comparison) (f g r s : Typed) → Sees f r → Sees g s → Knows (if_ordered c (order f g)) (if_ordered c (order r s))
knows_compared c f g r s (inl e) (inl d) = rw (e, d) (knows_itself (if_ordered c (order f g)))
knows_compared c f g r s (inr blind) other = rw (blind.left g) tt
knows_compared c f g r s (inl e) (inr blind) = rw (blind.right f) tt

-- ---- questions for null

knows_test : (b c : Bool) → c ≡ b → Knows (of_test b) (of_test c)
knows_test true c e = rw e refl
knows_test false c e = rw e refl

knows_null : (v r : Typed) → r ≡ v → Knows (of_test (is_null v)) (of_test (is_null r))
knows_null v r e = knows_test (is_null v) (is_null r) (ap is_null e)

or_first : (a b : Bool) → a ≡ true → (a || b) ≡ true
or_first a b e = rw e refl

or_second : (a b : Bool) → b ≡ true → (a || b) ≡ true
or_second true b e = refl
or_second false b e = e

knows_null_at : (columns : Columns) (values : Pairs) (row : Row) (name : List ℕ) → IsRowOf columns values row → AreRead columns values (null_at name)
    → (o : Option PartType) → kind_of_column name columns ≡ o → Knows (null_truth o (text_of_column name values)) (of_test (is_null (row name)))
knows_null_at columns values row name is read None e = tt
knows_null_at columns values row name is read (Some kind) e =
    knows_null (typed (text_of_column name values) kind) (row name) (is name kind e (read name kind ((bytes_eq-Decides name name).1 refl) e))

-- ---- predicates

mutual
  sound : (columns : Columns) (values : Pairs) (row : Row) (t : Tree) → IsRowOf columns values row → AreRead columns values t → Knows (truth columns values t) (row_truth row t)
  sound columns values row (all_of ts) is read = sound_all columns values row ts is read
  sound columns values row (any_of ts) is read = sound_any columns values row ts is read
  sound columns values row (negated t) is read = knows_opposite (truth columns values t) (row_truth row t) (sound columns values row t is read)
  sound columns values row (null_at name) is read = knows_null_at columns values row name is read (kind_of_column name columns) refl
  sound columns values row (compared c left right) is read =
      knows_compared c (value_of_leaf columns values left) (value_of_leaf columns values right) (value_in row left) (value_in row right)
      (sees_leaf columns values row left is) (sees_leaf columns values row right is)

  sound_all : (columns : Columns) (values : Pairs) (row : Row) (ts : Trees) → IsRowOf columns values row → AreRead columns values (all_of ts)
      → Knows (all_true (truths columns values ts)) (all_true (row_truths row ts))
  sound_all columns values row no_trees is read = refl
  sound_all columns values row (first_tree t ts) is read =
      knows_both (truth columns values t) (all_true (truths columns values ts)) (row_truth row t) (all_true (row_truths row ts))
      (sound columns values row t is (λ name kind e. read name kind (or_first (asks_null name t) (one_asks_null name ts) e)))
      (sound_all columns values row ts is (λ name kind e. read name kind (or_second (asks_null name t) (one_asks_null name ts) e)))

  sound_any : (columns : Columns) (values : Pairs) (row : Row) (ts : Trees) → IsRowOf columns values row → AreRead columns values (any_of ts)
      → Knows (any_true (truths columns values ts)) (any_true (row_truths row ts))
  sound_any columns values row no_trees is read = refl
  sound_any columns values row (first_tree t ts) is read =
      knows_either (truth columns values t) (any_true (truths columns values ts)) (row_truth row t) (any_true (row_truths row ts))
      (sound columns values row t is (λ name kind e. read name kind (or_first (asks_null name t) (one_asks_null name ts) e)))
      (sound_any columns values row ts is (λ name kind e. read name kind (or_second (asks_null name t) (one_asks_null name ts) e)))

pub pruning : PruningIsSound
pruning columns values row t is read = sound columns values row t is read
