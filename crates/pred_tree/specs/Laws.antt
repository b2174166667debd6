-- Laws of the truth of predicates.
use Rattle.std.specs.Prelude.{◌≡◌, ◌↔◌, ◌≤◌, ℕ, suc, max, List, Bool, true, false, ◌||◌, Some, None, option_map, bytes_eq}
use Rattle.case_table.specs.ValueTypes.{value_row, value_type_of_word}
use Rattle.json_tree.specs.declared.pairs.Pairs.{Pairs}
use Rattle.part_values.specs.declared.columns.Columns.{Columns}
use Rattle.log_actions.specs.declared.actions.AddFile.{AddFile}
use Rattle.log_actions.specs.declared.actions.MetaData.{MetaData}
use Rattle.part_values.specs.Columns.{columns_in}
use Rattle.serde_json.specs.Data.{Data}
use Rattle.pred_tree.specs.Grammar.{node_within, predicate_in}
use Rattle.pred_tree.specs.Kinds.{class, value_type}
use Rattle.pred_tree.specs.Tree.{Tree, all_of, any_of, negated, null_at, compared, Trees, no_trees, first_tree}
use Rattle.pred_tree.specs.Rows.{AreRead, IsRowOf, Knows, Row, row_truth}
use Rattle.pred_tree.specs.Shown.{shows}
use Rattle.pred_tree.specs.Truth.{is_listed, text_of_column, truth}
use Rattle.pred_tree.specs.declared.tree.Leaf.{Leaf}
use Rattle.pred_tree.specs.declared.tree.Leaf.TheVariants.{Column, Literal}
use Rattle.pred_tree.specs.declared.truth.Truth.TheVariants.{True}

abbrev pub leaf_names : List ℕ → Leaf → Bool
leaf_names column (Column name kind) = bytes_eq name column
leaf_names column (Literal value kind) = false

-- whether the predicate names the column
abbrev mutual
  pub names : List ℕ → Tree → Bool
  names column (all_of ts) = one_names column ts
  names column (any_of ts) = one_names column ts
  names column (negated t) = names column t
  names column (null_at name) = bytes_eq name column
  names column (compared c left right) = leaf_names column left || leaf_names column right

  pub one_names : List ℕ → Trees → Bool
  one_names column no_trees = false
  one_names column (first_tree t ts) = names column t || one_names column ts

-- files that hold the same at each column that a predicate names have one truth
abbrev pub RestsOnNamed : Type 0
RestsOnNamed = (columns : Columns) (values others : Pairs) (t : Tree)
    → ((column : List ℕ) → names column t ≡ true → text_of_column column values ≡ text_of_column column others)
    → truth columns values t ≡ truth columns others t

-- `not` of `not` says the same
abbrev pub NotTwiceIsSame : Type 0
NotTwiceIsSame = (columns : Columns) (values : Pairs) (t : Tree) → truth columns values (negated (negated t)) ≡ truth columns values t

-- without a predicate every file is listed
abbrev pub NoneListsAll : Type 0
NoneListsAll = (columns : Columns) (values : Pairs) → is_listed None columns values ≡ true

-- what two predicates joined by `and` list, each of the two lists
abbrev pub JoinedListNoMore : Type 0
JoinedListNoMore = (columns : Columns) (values : Pairs) (s t : Tree)
    → is_listed (Some (all_of (first_tree s (first_tree t no_trees)))) columns values ≡ true
    → (is_listed (Some s) columns values ≡ true) × (is_listed (Some t) columns values ≡ true)

-- the class of each word is that of the table of value types, where it has the word
abbrev pub FollowsTable : Type 0
FollowsTable = (word : List ℕ) → class (value_type word) ≡ option_map (λ kind. (value_row kind).class) (value_type_of_word word)

-- how many levels a predicate has, its leaves counted
abbrev mutual
  pub depth : Tree → ℕ
  depth (all_of ts) = suc (greatest_depth ts)
  depth (any_of ts) = suc (greatest_depth ts)
  depth (negated t) = suc (depth t)
  depth (null_at name) = 2
  depth (compared c left right) = 2

  pub greatest_depth : Trees → ℕ
  greatest_depth no_trees = 0
  greatest_depth (first_tree t ts) = max (depth t) (greatest_depth ts)

-- the value is a node of that tree, however deep
abbrev pub IsNodeOf : Data → Tree → Type 0
IsNodeOf d t = (levels : ℕ) × (node_within levels d ≡ Some t)

-- a node is read in so many levels exactly where its tree has no more
abbrev pub LevelsAreDepth : Type 0
LevelsAreDepth = (levels : ℕ) (d : Data) (t : Tree) → (node_within levels d ≡ Some t) ↔ (IsNodeOf d t × (depth t ≤ levels))

-- what the values of a file's partition columns say is so of each of its rows: a file that a predicate leaves out has no row that satisfies it, and of a file that satisfies it by them alone each row does. Where a file's text isn't read a row may have any value there; so a predicate that asks whether such a column is null is left out here.
abbrev pub PruningIsSound : Type 0
PruningIsSound = (columns : Columns) (values : Pairs) (row : Row) (t : Tree) → IsRowOf columns values row → AreRead columns values t → Knows (truth columns values t) (row_truth row t)

-- ---- tables that are shared in part

-- a file that is shown by a text is listed by it
abbrev pub ShownAreListed : Type 0
ShownAreListed = (text : List ℕ) (meta : MetaData) (file : AddFile)
    → shows (Some text) meta file ≡ true → is_listed (predicate_in text) (columns_in meta.schema meta.columns) file.values ≡ true

-- files that hold the same at each column that the predicate names are shown alike
abbrev pub ShownRestsOnNamed : Type 0
ShownRestsOnNamed = (text : List ℕ) (t : Tree) (meta : MetaData) (file other : AddFile) → predicate_in text ≡ Some t
    → ((column : List ℕ) → names column t ≡ true → text_of_column column file.values ≡ text_of_column column other.values)
    → shows (Some text) meta file ≡ shows (Some text) meta other

-- each row of a file that is shown satisfies the predicate, with the same assumption on rows
abbrev pub ShownRowsSatisfy : Type 0
ShownRowsSatisfy = (text : List ℕ) (t : Tree) (meta : MetaData) (file : AddFile) (row : Row) → predicate_in text ≡ Some t → shows (Some text) meta file ≡ true
    → IsRowOf (columns_in meta.schema meta.columns) file.values row → AreRead (columns_in meta.schema meta.columns) file.values t → row_truth row t ≡ True
