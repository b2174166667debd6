-- What the commit of a mirror reaches.
use Rattle.std.specs.Prelude.{◌≡◌, ℕ, List, ◌++◌, Option, Some, None, Ok, option_to_list}
use Rattle.log_actions.specs.declared.actions.Action.{Action}
use Rattle.log_replay.specs.Snapshots.{PathsRise}
use Rattle.log_replay.specs.Standing.{IsSupported}
use Rattle.log_replay.specs.State.{IsHead, State, state_of}
use Rattle.mirror_table.specs.Goals.{Goal, Mirrors}
use Rattle.mirror_table.specs.Targets.{target}

-- the state of a log mirrors a goal
abbrev pub HasMirror : List (List Action) → Goal → Type 0
HasMirror log g = (s : State) × (state_of log ≡ Ok s) × Mirrors s g

-- a log, followed by the commit to a goal where there is one to make, has a state that mirrors the goal, if it is supported
abbrev pub TargetReaches : Type 0
TargetReaches = (log : List (List Action)) (state : Option State) (now : ℕ) (g : Goal) → IsHead log state → PathsRise g.files
    → IsSupported (log ++ option_to_list (target state now g)) → HasMirror (log ++ option_to_list (target state now g)) g

-- of a state that mirrors the goal there is no commit to make, whenever it is
abbrev pub TargetSettles : Type 0
TargetSettles = (s : State) (now : ℕ) (g : Goal) → PathsRise g.files → Mirrors s g → target (Some s) now g ≡ None
