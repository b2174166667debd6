-- Logs that objects stand for, and what a put leaves, of a store that others may add to.
use Rattle.std.specs.Prelude.{◌≡◌, ◌≤◌, ◌^◌, ℕ, List, length, Option, Some, Ok, IfSome, option_map, slice_get}
use Rattle.std.specs.FinMap as finmap
use mathlib.Core.List.{IsPrefix}
use Rattle.edge_core.specs.Objects.{Grows, Lacks, Objects}
use Rattle.log_actions.specs.declared.actions.Action.{Action}
use Rattle.log_actions.specs.CommitTexts.{printed_bytes}
use Rattle.log_commit.specs.Texts.{commit_in}
use Rattle.log_replay.specs.Standing.{IsSupported}
use Rattle.log_store.specs.Log.{log_in, text_at}

-- the object of a version's name is read as this commit (Delta Lake PROTOCOL.md, "Delta Log Entries")
abbrev pub HasCommit : List ℕ → Option Objects → ℕ → List Action → Type 0
HasCommit location objects v c = IfSome objects (λ os. option_map commit_in (text_at location os v) ≡ Some (Ok c))

-- each version of a log is what the object of its name is read as
abbrev pub IsBacked : List ℕ → Option Objects → List (List Action) → Type 0
IsBacked location objects log = (v : ℕ) (c : List Action) → slice_get log v ≡ Some c → HasCommit location objects v c

-- Between two moments of the store, right before a put and right after it, the name was absent and then has the bytes.
pub record WasPut (old new : Option Objects) (name bytes : List ℕ) : Type 0 where
  pub before : Option Objects
  pub after : Option Objects
  pub from : Grows old before
  pub absent : Lacks name before
  pub there : IfSome after (λ os. finmap.get os name ≡ Some bytes)
  pub to : Grows after new

-- the log that is loaded begins with each log that is read, has at most 64 MiB, and that the objects stand for
abbrev pub BackedLogsAreLoaded : Type 0
BackedLogsAreLoaded = (location : List ℕ) (os : Objects) (log : List (List Action)) → length log ≤ 2 ^ 63 → IsSupported log → printed_bytes log ≤ 2 ^ 26 → IsBacked location (Some os) log → IsPrefix log (log_in location os).commits
