-- The JSON values (RFC 8259) of texts, numbers, lists and names with texts.
use Rattle.std.specs.Prelude.{ℕ, ℤ, List, [], ◌∷◌, Option, Some, None}
use Rattle.serde_json.specs.Data.{Data, null, number, unsigned, string, array, object, Items, no_items, item, Members, no_members, member}
use Rattle.serde_json.specs.Find.{of_integer}

-- a whole number from 0 on
abbrev pub count_value : ℕ → Data
count_value n = number (unsigned n)

-- a whole number
abbrev pub whole_value : ℤ → Data
whole_value z = number (of_integer z)

abbrev pub text_or_null : Option (List ℕ) → Data
text_or_null None = null
text_or_null (Some s) = string s

abbrev pub text_items : List (List ℕ) → Items
text_items [] = no_items
text_items (s ∷ more) = item (string s) (text_items more)

-- an array of texts
abbrev pub texts_value : List (List ℕ) → Data
texts_value texts = array (text_items texts)

-- names with texts or nulls, in their order
abbrev pub pair_members : List (List ℕ × Option (List ℕ)) → Members
pair_members [] = no_members
pair_members ((name, value) ∷ more) = member name (text_or_null value) (pair_members more)

-- an object of texts and nulls
abbrev pub pairs_value : List (List ℕ × Option (List ℕ)) → Data
pairs_value pairs = object (pair_members pairs)

-- a list, where it has an item
abbrev pub unless_empty : {X : Type 0} → List X → Option (List X)
unless_empty [] = None
unless_empty (x ∷ more) = Some (x ∷ more)
