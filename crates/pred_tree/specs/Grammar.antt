-- The texts that are predicates (Delta Sharing PROTOCOL.md, "JSON predicates for Filtering").
use Rattle.std.specs.Prelude.{ℕ, zero, suc, List, [], ◌∷◌, length, nat_le, Option, Some, None, option_map, option_and_then, bytes_eq, codes, if◌then◌else◌}
use Rattle.serde_json.specs.Data.{Data, Items, no_items, item}
use Rattle.serde_json.specs.Find.{as_array, get}
use Rattle.serde_json.specs.Read.{read}
use Rattle.json_tree.specs.Options.{◌>>=◌}
use Rattle.part_values.specs.Columns.{is_text, text_in}
use Rattle.part_values.specs.declared.value.PartType.{PartType}
use Rattle.pred_tree.specs.Kinds.{value_type}
use Rattle.pred_tree.specs.Tree.{Tree, all_of, any_of, negated, null_at, compared, trees_of}
use Rattle.pred_tree.specs.declared.tree.Comparison.{Comparison}
use Rattle.pred_tree.specs.declared.tree.Comparison.TheVariants as comparison
use Rattle.pred_tree.specs.declared.tree.Leaf.{Leaf}
use Rattle.pred_tree.specs.declared.tree.Leaf.TheVariants.{Column, Literal}
use Rattle.pred_tree.specs.declared.reading.Operator.{Operator}
use Rattle.pred_tree.specs.declared.reading.Operator.TheVariants as operator

-- the text of that field and the type, in an object with that `op`
abbrev pub part_in : List ℕ → List ℕ → Data → Option (List ℕ × PartType)
part_in op field d = if is_text (text_in (codes "op") d) op then (do
  text ← text_in field d
  word ← text_in (codes "valueType") d
  Some (text, value_type word)) else None

abbrev pub column_in : Data → Option (List ℕ × PartType)
column_in d = part_in (codes "column") (codes "name") d

abbrev pub literal_in : Data → Option (List ℕ × PartType)
literal_in d = part_in (codes "literal") (codes "value") d

abbrev pub or_literal : Option (List ℕ × PartType) → Option (List ℕ × PartType) → Option Leaf
or_literal (Some c) literal = Some (Column c.0 c.1)
or_literal None literal = option_map (λ l. Literal l.0 l.1) literal

-- a leaf: a column or a literal
abbrev pub leaf_in : Data → Option Leaf
leaf_in d = or_literal (column_in d) (literal_in d)

abbrev pub operator_named : List ℕ → Option Operator
operator_named word =
    if bytes_eq word (codes "and") then Some operator.And
    else (if bytes_eq word (codes "or") then Some operator.Or
    else (if bytes_eq word (codes "not") then Some operator.Not
    else (if bytes_eq word (codes "isNull") then Some operator.IsNull
    else (if bytes_eq word (codes "equal") then Some (operator.Compare comparison.Equal)
    else (if bytes_eq word (codes "lessThan") then Some (operator.Compare comparison.Less)
    else (if bytes_eq word (codes "lessThanOrEqual") then Some (operator.Compare comparison.LessOrEqual)
    else (if bytes_eq word (codes "greaterThan") then Some (operator.Compare comparison.Greater)
    else (if bytes_eq word (codes "greaterThanOrEqual") then Some (operator.Compare comparison.GreaterOrEqual)
    else None))))))))

abbrev pub operator_in : Data → Option Operator
operator_in d = option_and_then operator_named (text_in (codes "op") d)

abbrev pub children_in : Data → Option Items
children_in d = option_and_then as_array (get (codes "children") d)

-- each of the children is a node
abbrev pub each : (Data → Option Tree) → Items → Option (List Tree)
each node no_items = Some []
each node (item d ds) = option_and_then (λ t. option_map (λ ts. t ∷ ts) (each node ds)) (node d)

-- at least one child, and each is a node
abbrev pub some_nodes : (Data → Option Tree) → Items → Option (List Tree)
some_nodes node no_items = None
some_nodes node (item d ds) = each node (item d ds)

-- the one child
abbrev pub only_item : Items → Option Data
only_item no_items = None
only_item (item d no_items) = Some d
only_item (item d (item e ds)) = None

-- the two children
abbrev pub two_items : Items → Option (Data × Data)
two_items (item d (item e no_items)) = Some (d, e)
two_items _ = None

-- a comparison of two leaves
abbrev pub comparison_of : (Data → Option Leaf) → Comparison → Data × Data → Option Tree
comparison_of leaf c sides = do
  left ← leaf sides.0
  right ← leaf sides.1
  Some (compared c left right)

-- a node of that operator, where it is known what a child is as a node and as a leaf
abbrev pub node_by : (Data → Option Tree) → (Data → Option Leaf) → (Data → Option (List ℕ × PartType)) → Operator → Items → Option Tree
node_by node leaf column operator.And ds = option_map (λ ts. all_of (trees_of ts)) (some_nodes node ds)
node_by node leaf column operator.Or ds = option_map (λ ts. any_of (trees_of ts)) (some_nodes node ds)
node_by node leaf column operator.Not ds = option_map negated (option_and_then node (only_item ds))
node_by node leaf column operator.IsNull ds = option_map (λ c. null_at c.0) (option_and_then column (only_item ds))
node_by node leaf column (operator.Compare c) ds = option_and_then (comparison_of leaf c) (two_items ds)

-- what is read where a level is left for it
abbrev pub within : {X : Type 0} → ℕ → (Data → Option X) → Data → Option X
within zero read_one d = None
within (suc levels) read_one d = read_one d

-- the node that the value is, in at most that many levels, its leaves counted
abbrev pub node_within : ℕ → Data → Option Tree
node_within zero d = None
node_within (suc levels) d = do
  operator ← operator_in d
  children ← children_in d
  node_by (node_within levels) (within levels leaf_in) (within levels column_in) operator children

-- the node of that operator and these children, in at most that many levels below it
abbrev pub node_of : ℕ → Operator → Items → Option Tree
node_of levels operator children = node_by (node_within levels) (within levels leaf_in) (within levels column_in) operator children

-- the predicate that the text is: at most 2,048 bytes of JSON and at most 32 levels, which are bounds of our own
abbrev pub predicate_in : List ℕ → Option Tree
predicate_in text = if nat_le (length text) 2048 then option_and_then (node_within 32) (read text) else None
