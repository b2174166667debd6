-- The fields of a JSON object, by their kinds.
use Rattle.std.specs.Prelude.{ℕ, ℤ, List, [], ◌∷◌, Option, Some, None, Result, Ok, Err, option_map, option_and_then, is_some, cond}
use Rattle.serde_json.specs.Data.{Data, null, string, Items, no_items, item, Members, no_members, member}
use Rattle.serde_json.specs.Find.{get, as_number, as_str, as_array, as_object, as_i64}
use Rattle.json_tree.specs.declared.fields.FieldFault.{FieldFault}
use Rattle.json_tree.specs.declared.fields.FieldFault.TheVariants.{WrongKind}

-- a value, unless it is null
abbrev pub non_null : Data → Option Data
non_null null = None
non_null d = Some d

-- the member of that name, unless it is null
abbrev pub present : List ℕ → Data → Option Data
present name d = option_and_then non_null (get name d)

-- how many there are of a member that isn't null
abbrev pub count_of : List ℕ → Data → ℕ
count_of name d = cond (is_some (present name d)) 1 0

-- what was read of a value, or that it is of another kind
abbrev pub or_wrong : {X : Type 0} → Option X → Result X FieldFault
or_wrong None = Err WrongKind
or_wrong (Some x) = Ok x

abbrev pub read_as : {X : Type 0} → (Data → Option X) → Option Data → Result (Option X) FieldFault
read_as kind None = Ok None
read_as kind (Some d) = or_wrong (option_map Some (kind d))

-- the field of that kind and name: nothing where it is absent or null
abbrev pub field : {X : Type 0} → (Data → Option X) → List ℕ → Data → Result (Option X) FieldFault
field kind name d = read_as kind (present name d)

-- a whole number of 64 bits
abbrev pub whole : Data → Option ℤ
whole d = option_and_then as_i64 (as_number d)

abbrev pub texts_of : Items → Option (List (List ℕ))
texts_of no_items = Some []
texts_of (item d ds) = option_and_then (λ s. option_map (λ rest. s ∷ rest) (texts_of ds)) (as_str d)

-- an array of texts
abbrev pub texts : Data → Option (List (List ℕ))
texts d = option_and_then texts_of (as_array d)

-- a text or null
abbrev pub text_or_null : Data → Option (Option (List ℕ))
text_or_null null = Some None
text_or_null (string s) = Some (Some s)
text_or_null _ = None

-- a name with a text or null
abbrev pub pair_in : List ℕ → Data → Option (List ℕ × Option (List ℕ))
pair_in name d = option_map (λ v. (name, v)) (text_or_null d)

abbrev pub pairs_of : Members → Option (List (List ℕ × Option (List ℕ)))
pairs_of no_members = Some []
pairs_of (member k d ms) = option_and_then (λ p. option_map (λ rest. p ∷ rest) (pairs_of ms)) (pair_in k d)

-- an object of texts and nulls
abbrev pub pairs : Data → Option (List (List ℕ × Option (List ℕ)))
pairs d = option_and_then pairs_of (as_object d)
