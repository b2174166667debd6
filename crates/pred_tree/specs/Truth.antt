-- What a predicate says of a file (Delta Sharing PROTOCOL.md, "JSON predicates for Filtering"), in
-- Kleene's three truth values.
use Rattle.std.specs.Prelude.{ℕ, ℤ, List, [], ◌∷◌, Bool, true, false, Option, Some, None, option_map, option_and_then, bytes_eq}
use Rattle.std.specs.Ordering.{nat_cmp, bool_cmp, int_cmp}
use Rattle.std.specs.Cmp.Lexicographic.{slice_cmp}
use Rattle.std.specs.List.{find}
use Rattle.std.specs.declared.cmp.Ordering.{Ordering}
use Rattle.std.specs.declared.cmp.Ordering.TheVariants as ordering
use Rattle.json_tree.specs.declared.pairs.Pairs.{Pairs}
use Rattle.part_values.specs.Columns.{kind_of_column}
use Rattle.part_values.specs.declared.columns.Columns.{Columns}
use Rattle.part_values.specs.Typed.{Typed, null, boolean, whole, text, day, unread, typed}
use Rattle.part_values.specs.declared.value.PartType.{PartType}
use Rattle.pred_tree.specs.Kinds.{compared_type}
use Rattle.pred_tree.specs.Tree.{Tree, all_of, any_of, negated, null_at, compared, Trees, no_trees, first_tree}
use Rattle.pred_tree.specs.declared.tree.Comparison.{Comparison}
use Rattle.pred_tree.specs.declared.tree.Comparison.TheVariants as comparison
use Rattle.pred_tree.specs.declared.tree.Leaf.{Leaf}
use Rattle.pred_tree.specs.declared.tree.Leaf.TheVariants.{Column, Literal}
use Rattle.pred_tree.specs.declared.truth.Truth.{Truth}
use Rattle.pred_tree.specs.declared.truth.Truth.TheVariants.{True, False, Unknown}

-- `and`, `or` and `not`
abbrev pub both : Truth → Truth → Truth
both False t = False
both True t = t
both Unknown False = False
both Unknown True = Unknown
both Unknown Unknown = Unknown

abbrev pub either : Truth → Truth → Truth
either True t = True
either False t = t
either Unknown True = True
either Unknown False = Unknown
either Unknown Unknown = Unknown

abbrev pub opposite : Truth → Truth
opposite True = False
opposite False = True
opposite Unknown = Unknown

abbrev pub all_true : List Truth → Truth
all_true [] = True
all_true (t ∷ ts) = both t (all_true ts)

abbrev pub any_true : List Truth → Truth
any_true [] = False
any_true (t ∷ ts) = either t (any_true ts)

abbrev pub of_test : Bool → Truth
of_test true = True
of_test false = False

abbrev pub boolean_in : Typed → Option Bool
boolean_in (boolean b) = Some b
boolean_in _ = None

abbrev pub whole_in : Typed → Option ℤ
whole_in (whole n) = Some n
whole_in _ = None

abbrev pub text_in : Typed → Option (List ℕ)
text_in (text t) = Some t
text_in _ = None

abbrev pub day_in : Typed → Option ℤ
day_in (day d) = Some d
day_in _ = None

abbrev pub text_order : List ℕ → Option (List ℕ) → Option Ordering
text_order t other = option_map (slice_cmp nat_cmp t) other

-- the order of two values of one class, texts by their bytes
abbrev pub order : Typed → Typed → Option Ordering
order null other = None
order (boolean b) other = option_map (bool_cmp b) (boolean_in other)
order (whole n) other = option_map (int_cmp n) (whole_in other)
order (text t) other = text_order t (text_in other)
order (day d) other = option_map (int_cmp d) (day_in other)
order unread other = None

abbrev pub holds : Comparison → Ordering → Bool
holds comparison.Equal ordering.Less = false
holds comparison.Equal ordering.Equal = true
holds comparison.Equal ordering.Greater = false
holds comparison.Less ordering.Less = true
holds comparison.Less ordering.Equal = false
holds comparison.Less ordering.Greater = false
holds comparison.LessOrEqual ordering.Less = true
holds comparison.LessOrEqual ordering.Equal = true
holds comparison.LessOrEqual ordering.Greater = false
holds comparison.Greater ordering.Less = false
holds comparison.Greater ordering.Equal = false
holds comparison.Greater ordering.Greater = true
holds comparison.GreaterOrEqual ordering.Less = false
holds comparison.GreaterOrEqual ordering.Equal = true
holds comparison.GreaterOrEqual ordering.Greater = true

abbrev pub if_ordered : Comparison → Option Ordering → Truth
if_ordered c None = Unknown
if_ordered c (Some o) = of_test (holds c o)

abbrev pub is_null : Typed → Bool
is_null null = true
is_null _ = false

-- a file's text at a column, nothing where it is null or missing
abbrev pub text_of_column : List ℕ → Pairs → Option (List ℕ)
text_of_column name values = option_and_then (λ p. p.1) (find (λ p. bytes_eq p.0 name) values)

-- the value of a leaf
abbrev pub value_of_leaf : Columns → Pairs → Leaf → Typed
value_of_leaf columns values (Column name kind) =
    typed (text_of_column name values) (compared_type kind (kind_of_column name columns))
value_of_leaf columns values (Literal value kind) = typed (Some value) kind

-- whether a column's value is null, unknown where it is no partition column
abbrev pub null_truth : Option PartType → Option (List ℕ) → Truth
null_truth None value = Unknown
null_truth (Some kind) value = of_test (is_null (typed value kind))

abbrev mutual
  pub truth : Columns → Pairs → Tree → Truth
  truth columns values (all_of ts) = all_true (truths columns values ts)
  truth columns values (any_of ts) = any_true (truths columns values ts)
  truth columns values (negated t) = opposite (truth columns values t)
  truth columns values (null_at name) = null_truth (kind_of_column name columns) (text_of_column name values)
  truth columns values (compared c left right) =
      if_ordered c (order (value_of_leaf columns values left) (value_of_leaf columns values right))

  pub truths : Columns → Pairs → Trees → List Truth
  truths columns values no_trees = []
  truths columns values (first_tree t ts) = truth columns values t ∷ truths columns values ts

abbrev pub is_not_false : Truth → Bool
is_not_false True = true
is_not_false False = false
is_not_false Unknown = true

-- whether a file of these values is listed; without a predicate each file is
abbrev pub is_listed : Option Tree → Columns → Pairs → Bool
is_listed None columns values = true
is_listed (Some t) columns values = is_not_false (truth columns values t)
