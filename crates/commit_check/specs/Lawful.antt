-- Which commits a log takes of its own server (Delta Lake PROTOCOL.md, "Commit Provenance Information", "Append-only Tables", "Deletion Vectors").
use Rattle.std.specs.Prelude.{ℕ, List, [], ◌∷◌, Bool, true, false, not, ◌&&◌, Option, Some, None, bytes_eq, codes}
use Rattle.std.specs.List.{list_any, list_all}
use Rattle.log_actions.specs.declared.actions.Action.{Action}
use Rattle.log_actions.specs.declared.actions.Action.TheVariants as action
use Rattle.log_actions.specs.declared.actions.AddFile.{AddFile}
use Rattle.log_actions.specs.declared.actions.MetaData.{MetaData}
use Rattle.log_replay.specs.Reconciliation.{actions_in, last_meta, live_files}
use Rattle.log_replay.specs.Settings.{turns_on}

abbrev pub is_info : Action → Bool
is_info (action.CommitInfo i) = true
is_info _ = false

-- the first action is a commitInfo, and no other is
abbrev pub begins_with_info : List Action → Bool
begins_with_info [] = false
begins_with_info (a ∷ actions) = is_info a && not (list_any is_info actions)

abbrev pub sets_append_only : List ℕ × Option (List ℕ) → Bool
sets_append_only (name, None) = false
sets_append_only (name, Some value) = bytes_eq name (codes "delta.appendOnly") && turns_on value

-- whether files may be added alone
abbrev pub is_append_only : Option MetaData → Bool
is_append_only None = false
is_append_only (Some m) = list_any sets_append_only m.configuration

abbrev pub is_live : List AddFile → List ℕ → Bool
is_live files path = list_any (λ f. bytes_eq f.path path) files

-- no deletion vector; what is removed is live, and no data where files may be added alone
abbrev pub is_lawful_action : List AddFile → Bool → Action → Bool
is_lawful_action files append_only (action.Add f) = not f.vector
is_lawful_action files append_only (action.Remove f) = not f.vector && (is_live files f.path && not (append_only && f.data_change))
is_lawful_action files append_only _ = true

-- the commit may be added to the log
abbrev pub is_lawful : List (List Action) → List Action → Bool
is_lawful log commit =
    begins_with_info commit && list_all (is_lawful_action (live_files (actions_in log)) (is_append_only (last_meta (actions_in log)))) commit
