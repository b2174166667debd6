-- What a writer offers: actions to be added to a table's log, and what of the table it has read (Delta Lake PROTOCOL.md, "Delta Log Entries").
use Rattle.std.specs.Prelude.{ℕ, ◌+◌, List, [], ◌∷◌, Bool, true, false, Option, Some, None, filter, filter_map, map, option_and_then, take, length, nat_lt, bytes_eq, if◌then◌else◌}
use Rattle.std.specs.List.{list_any}
use Rattle.std.specs.Result.{result_ok}
use Rattle.log_actions.specs.declared.actions.Action.{Action}
use Rattle.log_actions.specs.declared.actions.Action.TheVariants as action
use Rattle.log_actions.specs.declared.actions.AddFile.{AddFile}
use Rattle.log_actions.specs.declared.actions.MetaData.{MetaData}
use Rattle.log_replay.specs.State.{State, state_of}
use Rattle.pred_tree.specs.Grammar.{predicate_in}
use Rattle.pred_tree.specs.Listing.{lists}
use Rattle.commit_check.specs.declared.offer.Reads.{Reads}
use Rattle.commit_check.specs.declared.offer.Reads.TheVariants as reads

-- the commit of an offer: a commitInfo of the moment, and then its actions ("Commit Provenance Information")
abbrev pub commit_with : ℕ → List Action → List Action
commit_with now actions = action.CommitInfo (record { timestamp = Some now }) ∷ actions

-- whether a file counts as read, at a version with this metaData: none, all, or those that the predicate doesn't make False; a text that is no predicate reads all
abbrev pub is_read : Reads → MetaData → AddFile → Bool
is_read reads.Nothing meta file = false
is_read reads.All meta file = true
is_read (reads.Where text) meta file = lists (predicate_in text) meta file

-- the state of a version, none where the log doesn't have it
abbrev pub state_at : List (List Action) → ℕ → Option State
state_at log version = if nat_lt version (length log) then result_ok (state_of (take (version + 1) log)) else None

-- the state of the version that was read
abbrev pub read_state : List (List Action) → Option ℕ → Option State
read_state log read = option_and_then (state_at log) read

-- the files of a state that count as read
abbrev pub files_read : Reads → Option State → List AddFile
files_read reads None = []
files_read reads (Some state) = filter (is_read reads state.meta) state.files

abbrev pub paths_read : Reads → Option State → List (List ℕ)
paths_read reads state = map (λ f. f.path) (files_read reads state)

-- ---- what an action has

abbrev pub added_file : Action → Option AddFile
added_file (action.Add f) = Some f
added_file _ = None

abbrev pub added_path : Action → Option (List ℕ)
added_path (action.Add f) = Some f.path
added_path _ = None

abbrev pub removed_path : Action → Option (List ℕ)
removed_path (action.Remove f) = Some f.path
removed_path _ = None

-- the application whose txn it is ("Transaction Identifiers")
abbrev pub app_of : Action → Option (List ℕ)
app_of (action.Txn t) = Some t.app
app_of _ = None

-- the paths that actions add, those that they remove, and the applications whose txns they have
abbrev pub paths_added : List Action → List (List ℕ)
paths_added actions = filter_map added_path actions

abbrev pub paths_removed : List Action → List (List ℕ)
paths_removed actions = filter_map removed_path actions

abbrev pub apps_of : List Action → List (List ℕ)
apps_of actions = filter_map app_of actions

-- whether there is a text, and it stands among some
abbrev pub is_one_of : List (List ℕ) → Option (List ℕ) → Bool
is_one_of texts None = false
is_one_of texts (Some text) = list_any (bytes_eq text) texts
