-- Types of the values in a predicate, and their classes (Delta Sharing PROTOCOL.md, "JSON
-- predicates for Filtering").
use Rattle.std.specs.Prelude.{List, ℕ, Bool, true, false, Option, None, Some, if◌then◌else◌}
use Rattle.case_table.specs.ValueTypes.{value_type_of_word}
use Rattle.case_table.specs.declared.values.Class.{Class}
use Rattle.case_table.specs.declared.values.Class.TheVariants.{Boolean, Whole, Text, Day}
use Rattle.case_table.specs.declared.values.ValueType.{ValueType}
use Rattle.case_table.specs.declared.values.ValueType.TheVariants as value
use Rattle.part_values.specs.declared.value.PartType.{PartType}
use Rattle.part_values.specs.declared.value.PartType.TheVariants as kind

-- the type at which a partition value is read for a value of that type; another text names none
abbrev pub part_type : Option ValueType → PartType
part_type (Some value.Bool) = kind.Bool
part_type (Some value.Int) = kind.Int
part_type (Some value.Long) = kind.Long
part_type (Some value.String) = kind.Str
part_type (Some value.Date) = kind.Date
part_type None = kind.Other

-- the type that a `valueType` names
abbrev pub value_type : List ℕ → PartType
value_type word = part_type (value_type_of_word word)

-- the class of a type: truth values, whole numbers, texts, days, or none
abbrev pub class : PartType → Option Class
class kind.Bool = Some Boolean
class kind.Byte = Some Whole
class kind.Short = Some Whole
class kind.Int = Some Whole
class kind.Long = Some Whole
class kind.Str = Some Text
class kind.Date = Some Day
class kind.Other = None

abbrev pub is_same : Option Class → Option Class → Bool
is_same (Some Boolean) (Some Boolean) = true
is_same (Some Whole) (Some Whole) = true
is_same (Some Text) (Some Text) = true
is_same (Some Day) (Some Day) = true
is_same a b = false

-- the type by which a leaf of that `valueType` compares a column: the column's own, where it is a
-- partition column of the same class
abbrev pub compared_type : PartType → Option PartType → PartType
compared_type leaf None = kind.Other
compared_type leaf (Some column) = if is_same (class leaf) (class column) then column else kind.Other
