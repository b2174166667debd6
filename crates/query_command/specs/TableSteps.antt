-- What the steps to the lines of a table answer.
use Rattle.std.specs.Prelude.{◌≡◌, ℕ, List, Result, Ok, Err, Vec, Bool, true, false, ⊤}
use Rattle.std.specs.declared.alloc.Global.{Global}
use Rattle.log_replay.specs.declared.times.Unresolved.{Unresolved}
use Rattle.log_replay.specs.declared.refusal.NoState.{NoState}
use Rattle.log_replay.specs.declared.refusal.NoState.TheVariants as no_state
use Rattle.log_store.specs.declared.refusal.LoadRefusal.{LoadRefusal}
use Rattle.log_store.specs.declared.refusal.LoadRefusal.TheVariants as load
use Rattle.query_command.specs.Table.{unresolved_by, unsupported_version}
use Rattle.query_command.specs.declared.ends.TableRefusal.{TableRefusal}
use Rattle.query_command.specs.declared.ends.TableRefusal.TheVariants as table
use Rattle.query_command.specs.declared.table.LinesFault.{LinesFault}
use Rattle.query_command.specs.declared.table.LinesFault.TheVariants as fault

-- The text is these lines, or there is none. Want of memory says nothing.
abbrev pub IsLog : Result (List ℕ) TableRefusal → Result (Vec ℕ Global) LinesFault → Type 0
IsLog said (Ok text) = said ≡ Ok text.items
IsLog said (Err (fault.Refused why)) = said ≡ Err why
IsLog said (Err fault.StoreFault) = ⊤
IsLog said (Err fault.NoMemory) = ⊤

abbrev pub load_fault : LoadRefusal → LinesFault
load_fault load.StoreFault = fault.StoreFault
load_fault load.NoMemory = fault.NoMemory

abbrev pub replay_fault : NoState → LinesFault
replay_fault (no_state.Refusal refusal) = fault.Refused (table.Unsupported (unsupported_version refusal))
replay_fault no_state.NoMemory = fault.NoMemory

-- whether a call of the store failed
abbrev pub failed_lines : Result (Vec ℕ Global) LinesFault → Bool
failed_lines (Err fault.StoreFault) = true
failed_lines _ = false

-- The version is the one that is meant, or it is said why there is none. Want of memory says nothing.
abbrev pub IsVersion : Result ℕ Unresolved → Result ℕ LinesFault → Type 0
IsVersion meant (Ok version) = meant ≡ Ok version
IsVersion meant (Err (fault.Refused why)) = (refused : Unresolved) × (meant ≡ Err refused) × (why ≡ unresolved_by refused)
IsVersion meant (Err fault.StoreFault) = ⊥
IsVersion meant (Err fault.NoMemory) = ⊤
