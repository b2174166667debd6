-- What a query asks, by the input of the program (Delta Sharing PROTOCOL.md, "Read Data from a Table").
use Rattle.std.specs.Prelude.{◌≡◌, ℕ, ◌^◌, ◌<◌, ◌≤◌, ℤ, ◌&&◌, List, [], Bool, Option, Some, None, IfSome, Result, Ok, Err, ⊤, is_none, length, nat_le, option_map, Vec, if◌then◌else◌}
use Rattle.std.specs.declared.alloc.Global.{Global}
use Rattle.edge_core.specs.Faults.{Rose}
use Rattle.log_replay.specs.declared.times.Bound.{Bound}
use Rattle.log_replay.specs.declared.times.Bound.TheVariants as bound
use Rattle.query_body.specs.Query.{query_in}
use Rattle.query_body.specs.declared.query.QueryBody.{QueryBody}
use Rattle.query_body.specs.declared.query.QueryFault.{QueryFault}
use Rattle.query_command.specs.declared.input.InputFault.{InputFault}
use Rattle.query_command.specs.declared.input.InputFault.TheVariants as input

-- the longest input, in bytes: 16 MiB
abbrev pub input_limit : ℕ
input_limit = 2 ^ 24

-- a query of the whole answer: pages are asked of a server alone
abbrev pub is_whole : QueryBody → Bool
is_whole query = is_none query.max && is_none query.token

abbrev pub if_whole : Result QueryBody QueryFault → Option QueryBody
if_whole (Ok query) = if is_whole query then Some query else None
if_whole (Err fault) = None

-- the query that an input asks, none where it is no body of such a query
abbrev pub asked_in : List ℕ → Option QueryBody
asked_in input = if nat_le (length input) input_limit then if_whole (query_in input) else None

abbrev pub bound_by : Option ℕ → Option ℤ → Bound
bound_by (Some version) moment = bound.Version version
bound_by None (Some moment) = bound.AtOrBefore moment
bound_by None None = bound.Latest

-- the version that a query asks for
abbrev pub bound_of : QueryBody → Bound
bound_of query = bound_by query.version query.moment

-- Nothing is left of what was, where the input tells.
abbrev pub IsReadToEnd : Option (List ℕ) → Option (List ℕ) → Type 0
IsReadToEnd old new = new ≡ option_map (λ left. []) old

-- what reading the input answers
abbrev pub IsInput : Option (List ℕ) → Option (List ℕ) → ℕ → ℕ → Result (Vec ℕ Global) InputFault → Type 0
IsInput old new before now (Ok bytes) = IfSome old (λ left. left ≡ bytes.items) × IsReadToEnd old new × (length bytes.items ≤ input_limit)
IsInput old new before now (Err input.TooLong) = IfSome old (λ left. input_limit < length left)
IsInput old new before now (Err input.Failed) = Rose before now
IsInput old new before now (Err input.NoMemory) = ⊤
