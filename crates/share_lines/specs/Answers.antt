-- What is answered of a field, of what was read of it by its kind.
use Rattle.std.specs.Prelude.{Option, Some, None, Result, Ok, Err}
use Rattle.json_tree.specs.declared.fields.FieldFault.{FieldFault}
use Rattle.json_tree.specs.declared.fields.FieldFault.TheVariants as field
use Rattle.share_lines.specs.declared.faults.LineFault.{LineFault}
use Rattle.share_lines.specs.declared.faults.LineFault.TheVariants as fault

abbrev pub fault_of : FieldFault → LineFault
fault_of field.WrongKind = fault.Bad
fault_of field.NoMemory = fault.NoMemory

-- a field that has to be there
abbrev pub required_answer : {X : Type 0} → Result (Option X) FieldFault → Result X LineFault
required_answer (Err e) = Err (fault_of e)
required_answer (Ok None) = Err fault.Bad
required_answer (Ok (Some x)) = Ok x

-- a field that may be absent
abbrev pub optional_answer : {X : Type 0} → Result (Option X) FieldFault → Result (Option X) LineFault
optional_answer (Err e) = Err (fault_of e)
optional_answer (Ok o) = Ok o

-- a field with a default
abbrev pub default_answer : {X : Type 0} → X → Result (Option X) FieldFault → Result X LineFault
default_answer default (Err e) = Err (fault_of e)
default_answer default (Ok None) = Ok default
default_answer default (Ok (Some x)) = Ok x
