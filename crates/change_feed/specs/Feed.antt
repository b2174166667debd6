-- The change feed of a range of versions of a log, version 0 first (Delta Sharing PROTOCOL.md, "Read Change Data Feed from a Table"; Delta Lake PROTOCOL.md, "Change Data Files").
use Rattle.std.specs.Prelude.{ℕ, ℤ, pos, ◌+◌, ◌-◌, not, List, [], Bool, Option, Some, None, Result, Ok, Err, unwrap_or, find, flat_map, take, slice_get}
use Rattle.std.specs.List.{range_with_len}
use Rattle.log_actions.specs.declared.actions.Action.{Action}
use Rattle.log_replay.specs.Reconciliation.{meta_at}
use Rattle.log_replay.specs.Times.{has_feed, last_time}
use Rattle.change_feed.specs.Changes.{ChangedFile, commit_changes}

abbrev pub commit_at : List (List Action) → ℕ → List Action
commit_at log version = unwrap_or (slice_get log version) []

-- the time of a version, in milliseconds
abbrev pub time_at : List (List Action) → ℕ → ℤ
time_at log version = unwrap_or (last_time (take (version + 1) log)) (pos 0)

-- the metaData that holds at the version turns the feed on
abbrev pub is_on : List (List Action) → ℕ → Bool
is_on log version = has_feed (meta_at log version)

-- the changes that came with a version
abbrev pub changes_at : List (List Action) → ℕ → List ChangedFile
changes_at log version = commit_changes version (time_at log version) (commit_at log version)

-- the versions from one to another, both included
abbrev pub versions : ℕ → ℕ → List ℕ
versions first last = range_with_len first (last + 1 - first)

-- the changes of the versions from one to another, one version after the other
abbrev pub changes_between : List (List Action) → ℕ → ℕ → List ChangedFile
changes_between log first last = flat_map (changes_at log) (versions first last)

-- the least version of the range at which the feed isn't on
abbrev pub first_off : List (List Action) → ℕ → ℕ → Option ℕ
first_off log first last = find (λ version. not (is_on log version)) (versions first last)

abbrev pub unless_off : Option ℕ → List ChangedFile → Result (List ChangedFile) ℕ
unless_off None changes = Ok changes
unless_off (Some version) changes = Err version

-- the feed of the versions from one to another: their changes where it is on at each of them, else the least version at which it isn't
abbrev pub feed_of : List (List Action) → ℕ → ℕ → Result (List ChangedFile) ℕ
feed_of log first last = unless_off (first_off log first last) (changes_between log first last)
