-- What the reading of a line answers.
use Rattle.std.specs.Prelude.{◌≡◌, Result, Ok, Err, ⊤}
use Rattle.log_actions.specs.declared.line_fault.LineFault.{LineFault}
use Rattle.log_actions.specs.declared.line_fault.NoAction.{NoAction}
use Rattle.log_actions.specs.declared.line_fault.NoAction.TheVariants as none

-- The answer is what reading gives. Want of memory says nothing.
abbrev pub Gives : {X : Type 0} → Result X NoAction → Result X LineFault → Type 0
Gives (Ok x) read = read ≡ Ok x
Gives (Err (none.Fault e)) read = read ≡ Err e
Gives (Err none.NoMemory) read = ⊤
