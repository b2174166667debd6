-- The JSON value that bytes spell (RFC 8259): UTF-8 first, then JSON's grammar.
use Rattle.std.specs.Prelude.{◌≡◌, ℕ, List, Option, Some, None, Result, Ok, Err, if◌then◌else◌, ⊤}
use Rattle.std.specs.Str.{is_utf8}
use Rattle.serde_json.specs.Data.{Data}
use Rattle.serde_json.specs.Read.{read}
use Rattle.serde_json.specs.View.{view}
use Rattle.serde_json.specs.declared.value.Value.{Value}
use Rattle.json_tree.specs.declared.tree.TreeFault.{TreeFault}
use Rattle.json_tree.specs.declared.tree.TreeFault.TheVariants as fault

abbrev pub of_read : Option Data → Result Data TreeFault
of_read None = Err fault.NotJson
of_read (Some d) = Ok d

abbrev pub tree_in : List ℕ → Result Data TreeFault
tree_in bytes = if is_utf8 bytes then of_read (read bytes) else Err fault.NotUtf8

-- The answer is the value or fault of the bytes. Want of memory says nothing.
abbrev pub GivesTree : Result Value TreeFault → Result Data TreeFault → Type 0
GivesTree (Ok v) tree = tree ≡ Ok (view v)
GivesTree (Err fault.NotUtf8) tree = tree ≡ Err fault.NotUtf8
GivesTree (Err fault.NotJson) tree = tree ≡ Err fault.NotJson
GivesTree (Err fault.NoMemory) tree = ⊤
