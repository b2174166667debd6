-- A state that was made, or that none was.
use Rattle.std.specs.Prelude.{◌≡◌, Option, Some, None, Result, Ok, Err}
use Rattle.log_replay.specs.State.{State}
use Rattle.log_replay.specs.declared.refusal.ReplayRefusal.{ReplayRefusal}

-- it is the wanted state, and is none where there is none
abbrev pub IsMade : Option State → Result State ReplayRefusal → Type 0
IsMade (Some s) wanted = wanted ≡ Ok s
IsMade None wanted = (why : ReplayRefusal) × (wanted ≡ Err why)
