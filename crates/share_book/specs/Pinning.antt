-- What a look reads of a log.
use Rattle.std.specs.Prelude.{◌≡◌, ℕ, List, Option, Some, None, IfSome, nat_lt, if◌then◌else◌}
use Rattle.log_actions.specs.declared.actions.Action.{Action}
use Rattle.log_replay.specs.Standing.{IsSupported}
use Rattle.log_replay.specs.State.{State}
use Rattle.log_replay.specs.Times.{marks_in}
use Rattle.log_replay.specs.declared.times.Mark.{Mark}
use Rattle.share_book.specs.Bases.{AllStatesIn}

pub record IsSeenLog (commits : List (List Action)) (marks : List Mark) (snapshots : Option (List (ℕ × State))) : Type 0 where
  pub supported : IsSupported commits
  pub marked : marks ≡ marks_in commits
  pub states : IfSome snapshots (AllStatesIn commits)

abbrev pub later_state : Option State → State → Option State
later_state None s = Some s
later_state (Some best) s = if nat_lt best.version s.version then Some s else Some best

-- the later of two states, of which the second counts where it isn't past the version
abbrev pub later : ℕ → Option State → State → Option State
later version best s = if nat_lt version s.version then best else later_state best s
