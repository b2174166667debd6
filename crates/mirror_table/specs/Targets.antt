-- The commit that brings a mirror from a state to a goal (Delta Lake PROTOCOL.md, "Action Reconciliation").
use Rattle.std.specs.Prelude.{ℕ, ℤ, pos, ◌&&◌, List, [], ◌∷◌, ◌++◌, Bool, true, false, not, Option, Some, None, is_some, bytes_eq, filter, map, if◌then◌else◌}
use Rattle.std.specs.List.{find, list_any}
use Rattle.std.specs.Option.{option_eq}
use Rattle.log_actions.specs.declared.actions.Action.{Action}
use Rattle.log_actions.specs.declared.actions.Action.TheVariants as action
use Rattle.log_actions.specs.declared.actions.AddFile.{AddFile}
use Rattle.log_actions.specs.declared.actions.MetaData.{MetaData}
use Rattle.log_actions.specs.declared.actions.Protocol.{Protocol}
use Rattle.log_actions.specs.declared.actions.Txn.{Txn}
use Rattle.log_replay.specs.State.{State}
use Rattle.mirror_table.specs.Same.{same_file, same_meta, same_protocol}
use Rattle.mirror_table.specs.Goals.{Goal, is_mark}

-- the live files, none where there is no state
abbrev pub files_of : Option State → List AddFile
files_of None = []
files_of (Some s) = s.files

-- the file of a path
abbrev pub file_at : List ℕ → List AddFile → Option AddFile
file_at path files = find (λ f. bytes_eq f.path path) files

abbrev pub has_path : List AddFile → List ℕ → Bool
has_path files path = is_some (file_at path files)

-- whether the file of its path is the same
abbrev pub has_same : List AddFile → AddFile → Bool
has_same files f = option_eq same_file (file_at f.path files) (Some f)

-- a remove of a file at a moment ("Add File and Remove File")
abbrev pub remove_at : ℕ → AddFile → Action
remove_at now f = action.Remove (record { path = f.path; deleted = Some (pos now); data_change = true; values = None; size = None; vector = false })

abbrev pub has_protocol : Option State → Protocol → Bool
has_protocol None p = false
has_protocol (Some s) p = same_protocol s.protocol p

abbrev pub has_meta : Option State → MetaData → Bool
has_meta None m = false
has_meta (Some s) m = same_meta s.meta m

-- the protocol, unless the state has the same ("Protocol Evolution")
abbrev pub protocol_change : Option State → Protocol → List Action
protocol_change state p = if has_protocol state p then [] else action.Protocol p ∷ []

-- the metaData, unless the state has the same ("Change Metadata")
abbrev pub meta_change : Option State → MetaData → List Action
meta_change state m = if has_meta state m then [] else action.MetaData m ∷ []

-- a remove of each live file whose path none of those that are wanted has, in path order
abbrev pub removes : ℕ → List AddFile → List AddFile → List Action
removes now live wanted = map (remove_at now) (filter (λ f. not (has_path wanted f.path)) live)

-- an add of each file that is wanted and isn't live as it is, in path order
abbrev pub adds : List AddFile → List AddFile → List Action
adds live wanted = map (λ f. action.Add f) (filter (λ f. not (has_same live f)) wanted)

-- all in which a state differs from a goal, but for the txn
abbrev pub differences : Option State → ℕ → Goal → List Action
differences state now g = protocol_change state g.protocol ++ (meta_change state g.meta ++ (removes now (files_of state) g.files ++ adds (files_of state) g.files))

-- the txn of the goal
abbrev pub mark_of : Goal → Txn
mark_of g = record { app = g.app; version = pos g.version; updated = None }

abbrev pub has_mark : Option State → Goal → Bool
has_mark None g = false
has_mark (Some s) g = list_any (is_mark g) s.txns

abbrev pub is_none_of : List Action → Bool
is_none_of [] = true
is_none_of (a ∷ actions) = false

-- a commitInfo of the moment ("Commit Provenance Information"), the txn, and what differs
abbrev pub commit_to : Option State → ℕ → Goal → List Action
commit_to state now g = action.CommitInfo (record { timestamp = Some now }) ∷ (action.Txn (mark_of g) ∷ differences state now g)

-- the commit to a goal, none where the state has the txn and nothing differs
abbrev pub target : Option State → ℕ → Goal → Option (List Action)
target state now g = if has_mark state g && is_none_of (differences state now g) then None else Some (commit_to state now g)
