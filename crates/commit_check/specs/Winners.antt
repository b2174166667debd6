-- The winning commits: those that a log got after the version that was read, and what an action of one may not be (Delta Lake PROTOCOL.md, "Delta Log Entries": a version is written once).
use Rattle.std.specs.Prelude.{ℕ, ◌+◌, ◌||◌, List, Bool, false, Option, Some, None, drop}
use Rattle.std.specs.List.{list_any, position_from}
use Rattle.log_actions.specs.declared.actions.Action.{Action}
use Rattle.log_actions.specs.declared.actions.AddFile.{AddFile}
use Rattle.log_replay.specs.State.{State}
use Rattle.commit_check.specs.Offers.{added_file, added_path, app_of, apps_of, is_one_of, is_read, paths_added, paths_read, paths_removed, removed_path}
use Rattle.commit_check.specs.declared.offer.Reads.{Reads}

-- the first version after the one that was read
abbrev pub next_version : Option ℕ → ℕ
next_version None = 0
next_version (Some version) = version + 1

abbrev pub winners : List (List Action) → Option ℕ → List (List Action)
winners log read = drop (next_version read) log

-- the least winning version that has an action which passes
abbrev pub first_winner : (Action → Bool) → List (List Action) → Option ℕ → Option ℕ
first_winner test log read = position_from (list_any test) (next_version read) (winners log read)

-- a txn of an application of which the offer has one
abbrev pub has_app_of : List Action → Action → Bool
has_app_of offered a = is_one_of (apps_of offered) (app_of a)

-- a remove of a path that the offer removes
abbrev pub removes_same : List Action → Action → Bool
removes_same offered a = is_one_of (paths_removed offered) (removed_path a)

-- an add of a path that the offer adds or removes, or a remove of one that it adds
abbrev pub adds_same : List Action → Action → Bool
adds_same offered a = is_one_of (paths_added offered) (added_path a) || (is_one_of (paths_removed offered) (added_path a) || is_one_of (paths_added offered) (removed_path a))

-- an add or a remove of a file that was read
abbrev pub changes_read : Reads → Option State → Action → Bool
changes_read reads state a = is_one_of (paths_read reads state) (added_path a) || is_one_of (paths_read reads state) (removed_path a)

-- whether there is a file that counts as read, under the columns of the state
abbrev pub would_be_read : Reads → Option State → Option AddFile → Bool
would_be_read reads None file = false
would_be_read reads (Some state) None = false
would_be_read reads (Some state) (Some file) = is_read reads state.meta file

-- an add of a file that would have been read
abbrev pub adds_read : Reads → Option State → Action → Bool
adds_read reads state a = would_be_read reads state (added_file a)
