-- Rows of a file, and whether one satisfies a predicate: what a query means, of which pruning by partition values is a first part (Delta Sharing PROTOCOL.md, "JSON predicates for Filtering"; Delta Lake PROTOCOL.md, "Partition Value Serialization").
use Rattle.std.specs.Prelude.{◌≡◌, ℕ, List, [], ◌∷◌, Bool, true, false, ◌||◌, Some, bytes_eq}
use Rattle.json_tree.specs.declared.pairs.Pairs.{Pairs}
use Rattle.part_values.specs.Columns.{kind_of_column}
use Rattle.part_values.specs.declared.columns.Columns.{Columns}
use Rattle.part_values.specs.declared.value.PartType.{PartType}
use Rattle.part_values.specs.Typed.{Typed, unread, typed}
use Rattle.pred_tree.specs.Tree.{Tree, all_of, any_of, negated, null_at, compared, Trees, no_trees, first_tree}
use Rattle.pred_tree.specs.Truth.{all_true, any_true, if_ordered, is_null, of_test, opposite, order, text_of_column}
use Rattle.pred_tree.specs.declared.tree.Leaf.{Leaf}
use Rattle.pred_tree.specs.declared.tree.Leaf.TheVariants.{Column, Literal}
use Rattle.pred_tree.specs.declared.truth.Truth.{Truth}
use Rattle.pred_tree.specs.declared.truth.Truth.TheVariants.{True, False, Unknown}

-- the value of each column
abbrev pub Row : Type 0
Row = List ℕ → Typed

-- the row has in each partition column the value that the file's text stands for, and any where the text isn't read
abbrev pub IsRowOf : Columns → Pairs → Row → Type 0
IsRowOf columns values row = (name : List ℕ) (kind : PartType) → kind_of_column name columns ≡ Some kind
    → (typed (text_of_column name values) kind ≡ unread → ⊥) → row name ≡ typed (text_of_column name values) kind

abbrev pub value_in : Row → Leaf → Typed
value_in row (Column name kind) = row name
value_in row (Literal value kind) = typed (Some value) kind

-- what a predicate says of a row
abbrev mutual
  pub row_truth : Row → Tree → Truth
  row_truth row (all_of ts) = all_true (row_truths row ts)
  row_truth row (any_of ts) = any_true (row_truths row ts)
  row_truth row (negated t) = opposite (row_truth row t)
  row_truth row (null_at name) = of_test (is_null (row name))
  row_truth row (compared c left right) = if_ordered c (order (value_in row left) (value_in row right))

  pub row_truths : Row → Trees → List Truth
  row_truths row no_trees = []
  row_truths row (first_tree t ts) = row_truth row t ∷ row_truths row ts

-- whether a predicate asks if the column is null
abbrev mutual
  pub asks_null : List ℕ → Tree → Bool
  asks_null column (all_of ts) = one_asks_null column ts
  asks_null column (any_of ts) = one_asks_null column ts
  asks_null column (negated t) = asks_null column t
  asks_null column (null_at name) = bytes_eq name column
  asks_null column (compared c left right) = false

  pub one_asks_null : List ℕ → Trees → Bool
  one_asks_null column no_trees = false
  one_asks_null column (first_tree t ts) = asks_null column t || one_asks_null column ts

-- where a predicate asks if a partition column is null, the file's text of it is read
abbrev pub AreRead : Columns → Pairs → Tree → Type 0
AreRead columns values t = (name : List ℕ) (kind : PartType) → asks_null name t ≡ true → kind_of_column name columns ≡ Some kind → typed (text_of_column name values) kind ≡ unread → ⊥

-- a truth is that of each row, unless it is unknown
abbrev pub Knows : Truth → Truth → Type 0
Knows True of_row = of_row ≡ True
Knows False of_row = of_row ≡ False
Knows Unknown of_row = Unit {0}
