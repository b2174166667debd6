-- The types of partition columns (Delta Lake PROTOCOL.md, "Schema Serialization Format").
use Rattle.std.specs.Prelude.{ℕ, Bool, false, List, map, bytes_eq, codes, Option, Some, None, Result, Ok, Err, option_and_then, option_map, if◌then◌else◌}
use Rattle.std.specs.List.{find}
use Rattle.serde_json.specs.Data.{Data, null, Items, no_items, item}
use Rattle.serde_json.specs.Find.{as_array, as_str, get}
use Rattle.json_tree.specs.Tree.{tree_in}
use Rattle.json_tree.specs.declared.tree.TreeFault.{TreeFault}
use Rattle.part_values.specs.declared.columns.Column.{Column}
use Rattle.part_values.specs.declared.value.PartType.{PartType}
use Rattle.part_values.specs.declared.value.PartType.TheVariants as kind

-- a column as a pair
abbrev pub column_of : Column → List ℕ × PartType
column_of c = (c.name, c.kind)

-- the type of that name
abbrev pub kind_named : List ℕ → PartType
kind_named name =
    if bytes_eq name (codes "boolean") then kind.Bool
    else (if bytes_eq name (codes "byte") then kind.Byte
    else (if bytes_eq name (codes "short") then kind.Short
    else (if bytes_eq name (codes "integer") then kind.Int
    else (if bytes_eq name (codes "long") then kind.Long
    else (if bytes_eq name (codes "string") then kind.Str
    else (if bytes_eq name (codes "date") then kind.Date
    else kind.Other))))))

abbrev pub or_other : Option PartType → PartType
or_other None = kind.Other
or_other (Some k) = k

-- the member of that name, where it is a text
abbrev pub text_in : List ℕ → Data → Option (List ℕ)
text_in name d = option_and_then as_str (get name d)

-- the type of a field
abbrev pub kind_of : Data → PartType
kind_of field = or_other (option_map kind_named (text_in (codes "type") field))

abbrev pub is_text : Option (List ℕ) → List ℕ → Bool
is_text None s = false
is_text (Some t) s = bytes_eq t s

-- the type that a field gives the column, where it is the field of that name
abbrev pub kind_by : List ℕ → Data → Option PartType
kind_by column field = if is_text (text_in (codes "name") field) column then Some (kind_of field) else None

-- the first of two, if there is one
abbrev pub or_kind : Option PartType → Option PartType → Option PartType
or_kind None later = later
or_kind (Some k) later = Some k

-- the type that the first field of that name gives the column
abbrev pub first_kind : List ℕ → Items → Option PartType
first_kind column no_items = None
first_kind column (item d ds) = or_kind (kind_by column d) (first_kind column ds)

abbrev pub or_null : Result Data TreeFault → Data
or_null (Err e) = null
or_null (Ok d) = d

-- the value of a schema, null where the text is no JSON
abbrev pub schema_in : List ℕ → Data
schema_in schema = or_null (tree_in schema)

abbrev pub or_no_items : Option Items → Items
or_no_items None = no_items
or_no_items (Some ds) = ds

-- the list `fields` of a schema, without items where there is none
abbrev pub fields_in : Data → Items
fields_in schema = or_no_items (option_and_then as_array (get (codes "fields") schema))

-- each column with its type
abbrev pub columns_in : List ℕ → List (List ℕ) → List (List ℕ × PartType)
columns_in schema columns = map (λ column. (column, or_other (first_kind column (fields_in (schema_in schema))))) columns

-- the type of the first column of that name
abbrev pub kind_of_column : List ℕ → List (List ℕ × PartType) → Option PartType
kind_of_column name columns = option_map (λ c. c.1) (find (λ c. bytes_eq c.0 name) columns)
