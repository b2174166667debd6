-- What the steps to the query of an input answer.
use Rattle.std.specs.Prelude.{◌≡◌, ℕ, List, Option, Some, None, IfSome, Result, Ok, Err, ⊤}
use Rattle.edge_core.specs.Faults.{Rose}
use Rattle.query_body.specs.Query.{query_in}
use Rattle.query_body.specs.declared.query.QueryBody.{QueryBody}
use Rattle.query_command.specs.Query.{IsReadToEnd, asked_in, if_whole}
use Rattle.query_command.specs.declared.ends.End.{End}
use Rattle.query_command.specs.declared.ends.End.TheVariants as ends

-- what the query of a body answers
abbrev pub IsBody : List ℕ → Result QueryBody End → Type 0
IsBody bytes (Ok query) = if_whole (query_in bytes) ≡ Some query
IsBody bytes (Err ends.Input) = if_whole (query_in bytes) ≡ None
IsBody bytes (Err ends.NoMemory) = ⊤
IsBody bytes (Err other) = ⊥

-- what the query of the input answers
abbrev pub IsAsked : Option (List ℕ) → Option (List ℕ) → ℕ → ℕ → Result QueryBody End → Type 0
IsAsked old new before now (Ok query) = IfSome old (λ left. asked_in left ≡ Some query) × IsReadToEnd old new
IsAsked old new before now (Err ends.Input) = IfSome old (λ left. asked_in left ≡ None)
IsAsked old new before now (Err ends.ReadFault) = Rose before now
IsAsked old new before now (Err ends.NoMemory) = ⊤
IsAsked old new before now (Err other) = ⊥
