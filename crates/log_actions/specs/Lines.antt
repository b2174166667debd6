-- The action that a line stands for: a JSON object with one member that isn't null, the action's name and value (Delta Lake PROTOCOL.md, "Delta Log Entries" and "Actions").
use Rattle.std.specs.Prelude.{ℕ, List, [], ◌∷◌, Option, Some, None, Result, Ok, Err, is_some, option_and_then, bytes_eq, codes, if◌then◌else◌}
use Rattle.serde_json.specs.Data.{Data, Members, no_members, member}
use Rattle.serde_json.specs.Find.{as_object}
use Rattle.json_tree.specs.Tree.{tree_in}
use Rattle.json_tree.specs.declared.tree.TreeFault.{TreeFault}
use Rattle.json_tree.specs.declared.tree.TreeFault.TheVariants as tree
use Rattle.json_tree.specs.Fields.{non_null}
use Rattle.json_tree.specs.Results.{◌>>=◌}
use Rattle.log_actions.specs.Reading.{protocol_of, meta_data_of, add_of, remove_of, cdc_of, txn_of, commit_info_of}
use Rattle.log_actions.specs.declared.line_fault.LineFault.{LineFault}
use Rattle.log_actions.specs.declared.line_fault.LineFault.TheVariants as fault
use Rattle.log_actions.specs.declared.actions.Action.{Action}
use Rattle.log_actions.specs.declared.actions.Action.TheVariants as action

-- the members that aren't null
abbrev pub members_left : Members → List (List ℕ × Data)
members_left no_members = []
members_left (member k d ms) = if is_some (non_null d) then (k, d) ∷ members_left ms else members_left ms

abbrev pub only_one : List (List ℕ × Data) → Option (List ℕ × Data)
only_one [] = None
only_one (m ∷ []) = Some m
only_one (m ∷ n ∷ ms) = None

-- the one member that isn't null
abbrev pub only_member : Data → Option (List ℕ × Data)
only_member d = option_and_then (λ ms. only_one (members_left ms)) (as_object d)

-- the action of a member's name and value; other names are passed over
unfoldable pub action_in : List ℕ → Data → Result (Option Action) LineFault
action_in name d =
    if bytes_eq name (codes "protocol") then (protocol_of d >>= λ p. Ok (Some (action.Protocol p)))
    else if bytes_eq name (codes "metaData") then (meta_data_of d >>= λ m. Ok (Some (action.MetaData m)))
    else if bytes_eq name (codes "add") then (add_of d >>= λ f. Ok (Some (action.Add f)))
    else if bytes_eq name (codes "remove") then (remove_of d >>= λ f. Ok (Some (action.Remove f)))
    else if bytes_eq name (codes "cdc") then (cdc_of d >>= λ f. Ok (Some (action.Cdc f)))
    else if bytes_eq name (codes "txn") then (txn_of d >>= λ t. Ok (Some (action.Txn t)))
    else if bytes_eq name (codes "commitInfo") then Ok (Some (action.CommitInfo (commit_info_of d)))
    else Ok None

abbrev pub action_of_member : Option (List ℕ × Data) → Result (Option Action) LineFault
action_of_member None = Err fault.NotOneKey
action_of_member (Some m) = action_in m.0 m.1

-- what an object stands for
abbrev pub action_of_data : Data → Result (Option Action) LineFault
action_of_data d = action_of_member (only_member d)

abbrev pub after_tree : Result Data TreeFault → Result (Option Action) LineFault
after_tree (Ok d) = action_of_data d
after_tree (Err tree.NotUtf8) = Err fault.NotUtf8
after_tree (Err e) = Err fault.NotJson

-- what a line stands for
abbrev pub action_at : List ℕ → Result (Option Action) LineFault
action_at line = after_tree (tree_in line)
