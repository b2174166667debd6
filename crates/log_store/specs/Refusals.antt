-- What refusals stand for.
use Rattle.std.specs.Prelude.{Bool, true, false, Result, Ok, Err}
use Rattle.log_commit.specs.declared.faults.NoCommit.{NoCommit}
use Rattle.log_commit.specs.declared.faults.NoCommit.TheVariants as no_commit
use Rattle.log_replay.specs.declared.refusal.NoState.{NoState}
use Rattle.log_replay.specs.declared.refusal.NoState.TheVariants as no_state
use Rattle.log_store.specs.declared.loaded.BlockCause.TheVariants as cause
use Rattle.log_store.specs.declared.refusal.LoadRefusal.{LoadRefusal}
use Rattle.log_store.specs.declared.refusal.LoadRefusal.TheVariants as load
use Rattle.log_store.specs.declared.refusal.Stop.{Stop}
use Rattle.log_store.specs.declared.refusal.Stop.TheVariants as stop

-- where a load stops for want of a commit
abbrev pub stop_by_commit : NoCommit → Stop
stop_by_commit (no_commit.Fault fault) = stop.Blocked (cause.Commit fault)
stop_by_commit no_commit.NoMemory = stop.Failed load.NoMemory

-- where a load stops for want of a state
abbrev pub stop_by_state : NoState → Stop
stop_by_state (no_state.Refusal refusal) = stop.Blocked (cause.Replay refusal)
stop_by_state no_state.NoMemory = stop.Failed load.NoMemory

-- whether a load ended with a fault of the store
abbrev pub failed_load : {X : Type 0} → Result X LoadRefusal → Bool
failed_load (Ok x) = false
failed_load (Err load.StoreFault) = true
failed_load (Err load.NoMemory) = false

-- whether a step ended with a fault of the store
abbrev pub failed_step : {X : Type 0} → Result X Stop → Bool
failed_step (Err (stop.Failed load.StoreFault)) = true
failed_step _ = false
