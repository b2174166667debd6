-- What is answered of an action's field, of what was read of it by its kind.
use Rattle.std.specs.Prelude.{Option, Some, None, Result, Ok, Err}
use Rattle.case_table.specs.declared.action_fields.Field as table
use Rattle.json_tree.specs.declared.fields.FieldFault.{FieldFault}
use Rattle.json_tree.specs.declared.fields.FieldFault.TheVariants as field
use Rattle.log_actions.specs.declared.line_fault.LineFault.TheVariants as fault
use Rattle.log_actions.specs.declared.line_fault.NoAction.{NoAction}
use Rattle.log_actions.specs.declared.line_fault.NoAction.TheVariants as none

-- the fault of that field
abbrev pub fault_of : table.Field → FieldFault → NoAction
fault_of which field.WrongKind = none.Fault (fault.Field which)
fault_of which field.NoMemory = none.NoMemory

-- a field that has to be there
abbrev pub required_answer : {X : Type 0} → table.Field → Result (Option X) FieldFault → Result X NoAction
required_answer which (Err e) = Err (fault_of which e)
required_answer which (Ok None) = Err (none.Fault (fault.Field which))
required_answer which (Ok (Some x)) = Ok x

-- a field that may be absent
abbrev pub optional_answer : {X : Type 0} → table.Field → Result (Option X) FieldFault → Result (Option X) NoAction
optional_answer which (Err e) = Err (fault_of which e)
optional_answer which (Ok o) = Ok o

-- a field with a default
abbrev pub default_answer : {X : Type 0} → table.Field → X → Result (Option X) FieldFault → Result X NoAction
default_answer which default (Err e) = Err (fault_of which e)
default_answer which default (Ok None) = Ok default
default_answer which default (Ok (Some x)) = Ok x
