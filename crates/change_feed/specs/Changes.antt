-- What a commit changes in a table's data (Delta Lake PROTOCOL.md, "Change Data Files", "Add CDC File", "Add File and Remove File").
use Rattle.std.specs.Prelude.{ℕ, ℤ, List, [], Bool, true, false, Option, Some, None, filter_map, unwrap_or, if◌then◌else◌}
use Rattle.std.specs.List.{list_any}
use Rattle.log_actions.specs.declared.actions.Action.{Action}
use Rattle.log_actions.specs.declared.actions.Action.TheVariants as action
use Rattle.log_actions.specs.declared.actions.AddFile.{AddFile}
use Rattle.log_actions.specs.declared.actions.CdcFile.{CdcFile}
use Rattle.log_actions.specs.declared.actions.RemoveFile.{RemoveFile}
use Rattle.change_feed.specs.declared.change.ChangeKind.{ChangeKind}
use Rattle.change_feed.specs.declared.change.ChangeKind.TheVariants as kind

-- an action by which a change comes
pub data FileAction : Type 0 where
  added : AddFile → FileAction
  rows : CdcFile → FileAction
  removed : RemoveFile → FileAction

-- a file of the feed, with the action and the version that it came with, and that version's time
pub record ChangedFile : Type 0 where
  pub action : FileAction
  pub kind : ChangeKind
  pub path : List ℕ
  pub values : List (List ℕ × Option (List ℕ))
  pub size : ℕ
  pub stats : Option (List ℕ)
  pub version : ℕ
  pub time : ℤ

abbrev pub row_file : ℕ → ℤ → CdcFile → ChangedFile
row_file version time f = record { action = rows f; kind = kind.Cdf; path = f.path; values = f.values; size = f.size; stats = None; version = version; time = time }

abbrev pub added_file : ℕ → ℤ → AddFile → ChangedFile
added_file version time f = record { action = added f; kind = kind.Add; path = f.path; values = f.values; size = f.size; stats = f.stats; version = version; time = time }

-- what a remove doesn't say of its file counts as no values, and as 0 bytes
abbrev pub removed_file : ℕ → ℤ → RemoveFile → ChangedFile
removed_file version time f = record { action = removed f; kind = kind.Remove; path = f.path; values = unwrap_or f.values []; size = unwrap_or f.size 0; stats = None; version = version; time = time }

-- a file of changed rows ("Add CDC File")
abbrev pub row_change : ℕ → ℤ → Action → Option ChangedFile
row_change version time (action.Cdc f) = Some (row_file version time f)
row_change version time _ = None

-- a file that is added or removed with its data, where that isn't merely arranged anew ("Add File and Remove File", `dataChange`)
abbrev pub file_change : ℕ → ℤ → Action → Option ChangedFile
file_change version time (action.Add f) = if f.data_change then Some (added_file version time f) else None
file_change version time (action.Remove f) = if f.data_change then Some (removed_file version time f) else None
file_change version time _ = None

abbrev pub is_cdc : Action → Bool
is_cdc (action.Cdc f) = true
is_cdc _ = false

-- the changes of a commit, in its order: its files of changed rows alone where it has any, else its files that are added or removed with their data
abbrev pub commit_changes : ℕ → ℤ → List Action → List ChangedFile
commit_changes version time actions = if list_any is_cdc actions then filter_map (row_change version time) actions else filter_map (file_change version time) actions
