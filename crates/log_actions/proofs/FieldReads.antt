-- What is read of an action's field, from what is read of it by its kind.
use Rattle.std.proofs.Common.{Option, Some, None, Result, Ok, Err, ap}
use Rattle.case_table.specs.declared.action_fields.Field.{Field}
use Rattle.json_tree.specs.declared.fields.FieldFault.{FieldFault}
use Rattle.json_tree.specs.declared.fields.FieldFault.TheVariants as kind
use Rattle.json_tree.specs.Gives.{Gives as Found}
use Rattle.log_actions.specs.Answers.{required_answer, optional_answer, default_answer}
use Rattle.log_actions.specs.Faults.{Gives}
use Rattle.log_actions.specs.Reading.{required, optional, default_to}

pub Gives_required : {X : Type 0} (which : Field) (r s : Result (Option X) FieldFault) → Found r s → Gives (required_answer which r) (required which s)
Gives_required which (Ok None) s e = ap (required which) e
Gives_required which (Ok (Some x)) s e = ap (required which) e
Gives_required which (Err kind.WrongKind) s e = ap (required which) e
Gives_required which (Err kind.NoMemory) s e = tt

pub Gives_optional : {X : Type 0} (which : Field) (r s : Result (Option X) FieldFault) → Found r s → Gives (optional_answer which r) (optional which s)
Gives_optional which (Ok o) s e = ap (optional which) e
Gives_optional which (Err kind.WrongKind) s e = ap (optional which) e
Gives_optional which (Err kind.NoMemory) s e = tt

pub Gives_default_to : {X : Type 0} (which : Field) (default : X) (r s : Result (Option X) FieldFault) → Found r s → Gives (default_answer which default r) (default_to which default s)
Gives_default_to which default (Ok None) s e = ap (default_to which default) e
Gives_default_to which default (Ok (Some x)) s e = ap (default_to which default) e
Gives_default_to which default (Err kind.WrongKind) s e = ap (default_to which default) e
Gives_default_to which default (Err kind.NoMemory) s e = tt
