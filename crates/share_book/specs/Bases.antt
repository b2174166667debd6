-- States of a table's log that are at hand, and what is left to replay from one of them (Delta Lake PROTOCOL.md, "Action Reconciliation").
use Rattle.std.specs.Prelude.{◌≡◌, ⊤, ℕ, ◌+◌, ◌<◌, ◌≤◌, ◌^◌, List, [], Option, Some, None, MatchOption, Ok, Contains, drop, length, take}
use Rattle.log_actions.specs.declared.actions.Action.{Action}
use Rattle.log_replay.specs.Reconciliation.{actions_in}
use Rattle.log_replay.specs.Standing.{IsSupported}
use Rattle.log_replay.specs.State.{State, state_of}
use Rattle.share_book.specs.Looks.{commits_of, who_of}
use Rattle.share_book.specs.Views.{Log, held_view, log_at}
use Rattle.share_book.specs.declared.entry.Entry.{Entry}
use Rattle.share_book.specs.declared.look.Ask.{Ask}
use Rattle.share_book.specs.declared.look.Found.{Found}
use Rattle.share_book.specs.declared.look.Found.TheVariants as found
use Rattle.share_book.specs.declared.look.PartFound.{PartFound}
use Rattle.share_book.specs.declared.look.PartFound.TheVariants as part_found
use Rattle.share_book.specs.declared.replay.Replay.{Replay}

-- the state of a log at one of its versions
pub record IsStateIn (commits : List (List Action)) (s : State) : Type 0 where
  pub there : s.version < length commits
  pub state : state_of (take (s.version + 1) commits) ≡ Ok s

-- a base: such a state, or none
abbrev pub IsBase : List (List Action) → Option State → Type 0
IsBase commits None = ⊤
IsBase commits (Some s) = IsStateIn commits s

-- the first version after a base, 0 where there is none
abbrev pub first_left : Option State → ℕ
first_left None = 0
first_left (Some s) = s.version + 1

-- the commits after a base, all where there is none
abbrev pub after_base : Option State → List (List Action) → List (List Action)
after_base base commits = drop (first_left base) commits

-- What makes the state after some commits: a base among them, and the commits after it.
abbrev pub Makes : List (List Action) → Replay → Type 0
Makes commits r = IsBase commits r.base × (r.commits ≡ after_base r.base commits)

-- what makes the state of a version of a log, none where it doesn't have it
abbrev pub MakesVersion : ℕ → List (List Action) → Option Replay → Type 0
MakesVersion version commits None = length commits ≤ version
MakesVersion version commits (Some r) = (version < length commits) × Makes (take (version + 1) commits) r

-- what makes the state after all commits of a log, none where it has none
abbrev pub MakesHead : List (List Action) → Option Replay → Type 0
MakesHead commits None = commits ≡ []
MakesHead commits (Some r) = (0 < length commits) × Makes commits r

-- what makes the files that were found, nothing where none are asked or no version is found
abbrev pub MakesFound : Option (List (List Action)) → Option Replay → Type 0
MakesFound None None = ⊤
MakesFound None (Some r) = ⊥
MakesFound (Some commits) None = ⊥
MakesFound (Some commits) (Some r) = IsSupported commits × (0 < length commits) × Makes commits r

-- it is of one commit or more, and no version passes 2^63
abbrev pub CanReplay : Replay → Type 0
CanReplay r = MatchOption r.base (0 < length r.commits) (λ s. s.version + length r.commits < 2 ^ 63)

-- how many actions are replayed: those of the commits after the base
abbrev pub replayed : Option Replay → ℕ
replayed None = 0
replayed (Some r) = length (actions_in r.commits)

-- What is asked is replayed from a base at a point of the history.
abbrev pub ReplaysAt : List Entry → Ask → (before after : ℕ) → Type 0
ReplaysAt history ask before after = (r : Option Replay) × MakesFound (commits_of (held_view history (who_of ask.who)) ask.want) r × (after ≡ before + replayed r)

-- files that are found of a log are its state at a version
abbrev pub PartStands : Log → PartFound → Type 0
PartStands log (part_found.Files version state) = IsStateIn log.commits state
PartStands log _ = ⊤

abbrev pub FilesStand : List Entry → Found → Type 0
FilesStand history (found.Names names) = ⊤
FilesStand history found.NoTable = ⊤
FilesStand history (found.Table spot part) = PartStands (log_at history spot.location) part

-- each of these states, which have a number each, is one of the log
abbrev pub AllStatesIn : List (List Action) → List (ℕ × State) → Type 0
AllStatesIn commits kept = (e : ℕ × State) → Contains kept e → IsStateIn commits e.1

-- it is at or below the version of the one that is found
abbrev pub IsAtMost : ℕ → Option State → Type 0
IsAtMost version None = ⊥
IsAtMost version (Some s) = version ≤ s.version
