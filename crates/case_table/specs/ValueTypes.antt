-- The types of the values in a predicate, and their classes (Delta Sharing PROTOCOL.md, "JSON predicates for filtering").
use Rattle.std.specs.Prelude.{ℕ, List, [], ◌∷◌, Option, bytes_eq, codes}
use Rattle.std.specs.List.{find}
use Rattle.case_table.specs.declared.values.Class.{Class}
use Rattle.case_table.specs.declared.values.Class.TheVariants.{Boolean, Whole, Text, Day}
use Rattle.case_table.specs.declared.values.ValueType.{ValueType}
use Rattle.case_table.specs.declared.values.ValueType.TheVariants.{Bool, Int, Long, String, Date}

-- the text of `valueType`, and the class
pub record ValueRow : Type 0 where
  pub word : List ℕ
  pub class : Class

abbrev row : List ℕ → Class → ValueRow
row word class = record { word = word; class = class }

abbrev pub value_row : ValueType → ValueRow
value_row Bool = row (codes "bool") Boolean
value_row Int = row (codes "int") Whole
value_row Long = row (codes "long") Whole
value_row String = row (codes "string") Text
value_row Date = row (codes "date") Day

abbrev pub all_value_types : List ValueType
all_value_types = Bool ∷ Int ∷ Long ∷ String ∷ Date ∷ []

-- the type of a text
abbrev pub value_type_of_word : List ℕ → Option ValueType
value_type_of_word word = find (λ kind. bytes_eq word (value_row kind).word) all_value_types
