-- Why a mirror doesn't follow a table.
use Rattle.std.specs.Prelude.{◌≡◌, ℕ, ◌+◌, ◌^◌, ◌==◌, ◌&&◌, ◌||◌, not, List, [], ◌∷◌, ◌++◌, Bool, true, false, Option, Some, None, Result, Ok, Err, ⊤, is_none, is_some, option_map, length, drop, nat_lt, codes, bytes_eq, map, filter_map, if◌then◌else◌}
use Rattle.std.specs.List.{before_first, list_any}
use Rattle.log_actions.specs.Commits.{are_distinct, is_commit}
use Rattle.log_actions.specs.CommitTexts.{commit_text}
use Rattle.log_actions.specs.Paths.{name_under}
use Rattle.log_actions.specs.declared.actions.Action.{Action}
use Rattle.log_actions.specs.declared.actions.MetaData.{MetaData}
use Rattle.log_replay.specs.Settings.{turns_on}
use Rattle.log_replay.specs.State.{State}
use Rattle.log_replay.specs.Support.{refusal_of}
use Rattle.log_replay.specs.declared.refusal.ReplayRefusal.{ReplayRefusal}
use Rattle.mirror_table.specs.Goals.{goal_of}
use Rattle.mirror_table.specs.declared.shared.Shared.{Shared}
use Rattle.mirror_table.specs.Targets.{target}
use Rattle.mirror_table.specs.declared.ends.NoTarget.{NoTarget}
use Rattle.mirror_table.specs.declared.ends.NoTarget.TheVariants as none
use Rattle.mirror_table.specs.declared.ends.Unsuited.{Unsuited}
use Rattle.mirror_table.specs.declared.ends.Unsuited.TheVariants as unsuited

-- the first segment of a name below a location, 47 being `/`
abbrev pub first_below : List ℕ → List ℕ → List ℕ
first_below location name = before_first (λ b. b == 47) (drop (length location + 1) name)

-- whether the object of that name is in the log's folder ("Delta Log Entries")
abbrev pub is_in_log : List ℕ → List ℕ → Bool
is_in_log location name = bytes_eq (first_below location name) (codes "_delta_log")

-- the setting by which each commitInfo has to have a moment of its own ("In-Commit Timestamps")
abbrev pub sets_times : List ℕ × Option (List ℕ) → Bool
sets_times (name, None) = false
sets_times (name, Some value) = bytes_eq name (codes "delta.enableInCommitTimestamps") && turns_on value

-- the names of the objects of paths
abbrev pub names_of : List ℕ → List (List ℕ) → List (List ℕ)
names_of location paths = filter_map (name_under location) paths

-- why files of these names can't stand below a location
abbrev pub unsuited_names : List ℕ → List (List ℕ) → Option Unsuited
unsuited_names location names =
    if not (are_distinct names) then Some unsuited.NameTwice
    else if list_any (is_in_log location) names then Some unsuited.InLog
    else None

-- the first cause: a path that stands twice, a path without a name, or what is told of the names
abbrev pub first_of : Bool → Bool → Option Unsuited → Option Unsuited
first_of distinct nameless later = if not distinct then Some unsuited.PathTwice else if nameless then Some unsuited.BadPath else later

-- why files of these paths can't
abbrev pub unsuited_paths : List ℕ → List (List ℕ) → Option Unsuited
unsuited_paths location paths = first_of (are_distinct paths) (list_any (λ path. is_none (name_under location path)) paths) (unsuited_names location (names_of location paths))

-- why a table of this metaData isn't followed
abbrev pub unsuited_meta : MetaData → Option Unsuited
unsuited_meta m = if list_any sets_times m.configuration then Some unsuited.TimesInCommits else None

abbrev pub or_else : Option Unsuited → Option Unsuited → Option Unsuited
or_else (Some e) rest = Some e
or_else None rest = rest

-- why what is shared isn't followed at all
abbrev pub unsuited_goal : List ℕ → List (List ℕ) → MetaData → Option Unsuited
unsuited_goal location paths m = or_else (unsuited_paths location paths) (unsuited_meta m)

-- a text of more than 16 MiB, or one with which the log's texts pass 64 MiB
abbrev pub is_too_large : ℕ → ℕ → Bool
is_too_large bytes more = nat_lt (2 ^ 24) more || nat_lt (2 ^ 26) (bytes + more)

abbrev pub unless_refused : Option ReplayRefusal → ℕ → List Action → Result (List Action) NoTarget
unless_refused (Some refusal) bytes commit = Err (none.Unsuited (unsuited.Unsupported refusal))
unless_refused None bytes commit = if is_too_large bytes (length (commit_text commit)) then Err none.TooLarge else Ok commit

-- the commit that comes after a log whose texts have so many bytes, or why it can't
abbrev pub placed_after : List (List Action) → ℕ → List Action → Result (List Action) NoTarget
placed_after log bytes commit = if is_commit commit then unless_refused (refusal_of (log ++ commit ∷ [])) bytes commit else Err (none.Unsuited unsuited.BadPath)

abbrev pub some_commit : Result (List Action) NoTarget → Result (Option (List Action)) NoTarget
some_commit (Ok commit) = Ok (Some commit)
some_commit (Err e) = Err e

abbrev pub placed_or_none : List (List Action) → ℕ → Option (List Action) → Result (Option (List Action)) NoTarget
placed_or_none log bytes None = Ok None
placed_or_none log bytes (Some commit) = some_commit (placed_after log bytes commit)

abbrev pub after_suits : Option Unsuited → List (List Action) → ℕ → Option (List Action) → Result (Option (List Action)) NoTarget
after_suits (Some e) log bytes commit = Err (none.Unsuited e)
after_suits None log bytes commit = placed_or_none log bytes commit

-- the paths of the files
abbrev pub paths_of : Shared → List (List ℕ)
paths_of s = map (λ f. f.now.path) s.files.now

-- The answer is this one. Want of memory says nothing.
abbrev pub Answers : {X : Type 0} → Result X NoTarget → Result X NoTarget → Type 0
Answers (Ok x) wanted = wanted ≡ Ok x
Answers (Err none.NoMemory) wanted = ⊤
Answers (Err (none.Unsuited e)) wanted = wanted ≡ Err (none.Unsuited e)
Answers (Err none.TooLarge) wanted = wanted ≡ Err none.TooLarge

-- what is told of what is shared alone: nothing where there is nothing to tell. Want of memory says nothing.
abbrev pub Suits : Option Unsuited → Result (Unit {0}) NoTarget → Type 0
Suits wanted (Ok x) = wanted ≡ None
Suits wanted (Err (none.Unsuited e)) = wanted ≡ Some e
Suits wanted (Err none.TooLarge) = ⊥
Suits wanted (Err none.NoMemory) = ⊤

-- the commit by which a mirror follows after a log, none where there is none to make, or why it can't
abbrev pub followed : List (List Action) → Option State → List ℕ → ℕ → ℕ → Shared → Result (Option (List Action)) NoTarget
followed log state location bytes now s = after_suits (unsuited_goal location (paths_of s) s.meta.now) log bytes (target state now (goal_of s))
