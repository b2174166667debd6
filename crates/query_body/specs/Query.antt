-- The body of a query (Delta Sharing PROTOCOL.md, "Read Data from a Table").
use Rattle.std.specs.Prelude.{ℕ, ◌-◌, ◌^◌, ℤ, pos, negsuc, List, [], ◌∷◌, Bool, true, false, Option, Some, None, Result, Ok, Err, is_some, is_none, nat_le, ◌&&◌, if◌then◌else◌, codes}
use Rattle.std.specs.Result.{result_ok}
use Rattle.serde_json.specs.Data.{Data}
use Rattle.serde_json.specs.Find.{as_str, as_object}
use Rattle.json_tree.specs.Fields.{field, present, whole}
use Rattle.json_tree.specs.Gives.{Answers}
use Rattle.json_tree.specs.Options.{unless_empty}
use Rattle.json_tree.specs.Results.{◌>>=◌}
use Rattle.json_tree.specs.Tree.{tree_in}
use Rattle.json_tree.specs.declared.fields.FieldFault.{FieldFault}
use Rattle.json_tree.specs.declared.fields.FieldFault.TheVariants as kind
use Rattle.json_tree.specs.declared.tree.TreeFault.{TreeFault}
use Rattle.json_tree.specs.declared.tree.TreeFault.TheVariants as tree
use Rattle.jiff.specs.Words.{parse_timestamp}
use Rattle.query_body.specs.declared.query.Fields.{Fields}
use Rattle.query_body.specs.declared.query.QueryBody.{QueryBody}
use Rattle.query_body.specs.declared.query.QueryFault.{QueryFault}
use Rattle.query_body.specs.declared.query.QueryFault.TheVariants as fault
use Rattle.query_body.specs.declared.query.QueryField.{QueryField}
use Rattle.query_body.specs.declared.query.QueryField.TheVariants as name

-- a field of another kind makes the body a bad one
abbrev pub or_bad_body : {X : Type 0} → Result (Option X) FieldFault → Result (Option X) QueryFault
or_bad_body (Ok x) = Ok x
or_bad_body (Err e) = Err fault.BadBody

-- the fields that are read, each of its kind
unfoldable pub fields_in : Data → Result Fields QueryFault
fields_in d = do
  max ← or_bad_body (field whole (codes "maxFiles") d)
  version ← or_bad_body (field whole (codes "version") d)
  timestamp ← or_bad_body (field as_str (codes "timestamp") d)
  hint ← or_bad_body (field as_str (codes "jsonPredicateHints") d)
  token ← or_bad_body (field as_str (codes "pageToken") d)
  Ok (record { max = max; version = version; timestamp = timestamp; hint = hint; token = token })

-- a number of these bounds, where there is one
abbrev pub between : QueryField → ℕ → ℕ → Option ℤ → Result (Option ℕ) QueryFault
between name low high None = Ok None
between name low high (Some (pos n)) = if nat_le low n && nat_le n high then Ok (Some n) else Err (fault.BadParameter name)
between name low high (Some (negsuc n)) = Err (fault.BadParameter name)

-- the instant that a text writes, in nanoseconds since 1970, by the grammar of `jiff`
abbrev pub moment_of : List ℕ → Option ℤ
moment_of text = result_ok (parse_timestamp text)

abbrev pub or_bad_time : Option ℤ → Result (Option ℤ) QueryFault
or_bad_time None = Err (fault.BadParameter name.Timestamp)
or_bad_time (Some moment) = Ok (Some moment)

-- a moment, where there is a timestamp; there is none beside a version
abbrev pub moment_beside : Option ℕ → Option (List ℕ) → Result (Option ℤ) QueryFault
moment_beside version None = Ok None
moment_beside None (Some text) = or_bad_time (moment_of text)
moment_beside (Some v) (Some text) = Err (fault.BadParameter name.Timestamp)

abbrev pub absent : QueryField → List ℕ → Data → Result (Unit {0}) QueryFault
absent field word d = if is_none (present word d) then Ok tt else Err (fault.BadParameter field)

-- the query of an object: the kinds of its fields first, then each field's own grammar; an empty page token counts as none
unfoldable pub query_of_fields : Data → Fields → Result QueryBody QueryFault
query_of_fields d f = do
  max ← between name.MaxFiles 1 (2 ^ 31 - 1) f.max
  version ← between name.Version 0 (2 ^ 63 - 1) f.version
  moment ← moment_beside version f.timestamp
  start ← absent name.StartingVersion (codes "startingVersion") d
  end ← absent name.EndingVersion (codes "endingVersion") d
  refresh ← absent name.RefreshToken (codes "refreshToken") d
  Ok (record { version = version; moment = moment; hint = f.hint; max = max; token = unless_empty f.token })

abbrev pub query_of_value : Data → Result QueryBody QueryFault
query_of_value d = if is_some (as_object d) then (fields_in d >>= query_of_fields d) else Err fault.BadBody

abbrev pub query_of_tree : Result Data TreeFault → Result QueryBody QueryFault
query_of_tree (Ok d) = query_of_value d
query_of_tree (Err e) = Err fault.BadBody

-- the query that asks nothing
abbrev pub no_query : QueryBody
no_query = record { version = None; moment = None; hint = None; max = None; token = None }

-- the query of a body, which may be empty, or why it is refused
abbrev pub query_in : List ℕ → Result QueryBody QueryFault
query_in [] = Ok no_query
query_in (b ∷ bs) = query_of_tree (tree_in (b ∷ bs))

abbrev pub lacks_memory : QueryFault → Bool
lacks_memory fault.BadBody = false
lacks_memory (fault.BadParameter field) = false
lacks_memory fault.NoMemory = true

-- The answer is what was read, or why it is refused. Want of memory says nothing.
abbrev pub Gives : {X : Type 0} → Result X QueryFault → Result X QueryFault → Type 0
Gives result read = Answers lacks_memory result read

-- what a reader's fault of a field or of a whole text makes of a body
abbrev pub field_fault : FieldFault → QueryFault
field_fault kind.WrongKind = fault.BadBody
field_fault kind.NoMemory = fault.NoMemory

abbrev pub tree_fault : TreeFault → QueryFault
tree_fault tree.NotUtf8 = fault.BadBody
tree_fault tree.NotJson = fault.BadBody
tree_fault tree.NoMemory = fault.NoMemory
