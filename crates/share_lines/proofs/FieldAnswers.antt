-- What is answered of a field is what is read of it.
use Rattle.std.proofs.Common.{Option, Some, None, Result, Ok, Err, ap}
use Rattle.json_tree.specs.declared.fields.FieldFault.{FieldFault}
use Rattle.json_tree.specs.declared.fields.FieldFault.TheVariants as kind
use Rattle.json_tree.specs.Gives.{Gives as Found}
use Rattle.share_lines.specs.Answers.{required_answer, optional_answer, default_answer}
use Rattle.share_lines.specs.Reading.{Gives, required, optional, default_to}

pub Gives_required : {X : Type 0} (r s : Result (Option X) FieldFault) → Found r s → Gives (required_answer r) (required s)
Gives_required (Ok None) s e = ap required e
Gives_required (Ok (Some x)) s e = ap required e
Gives_required (Err kind.WrongKind) s e = ap required e
Gives_required (Err kind.NoMemory) s e = tt

pub Gives_optional : {X : Type 0} (r s : Result (Option X) FieldFault) → Found r s → Gives (optional_answer r) (optional s)
Gives_optional (Ok o) s e = ap optional e
Gives_optional (Err kind.WrongKind) s e = ap optional e
Gives_optional (Err kind.NoMemory) s e = tt

pub Gives_default_to : {X : Type 0} (default : X) (r s : Result (Option X) FieldFault) → Found r s → Gives (default_answer default r) (default_to default s)
Gives_default_to default (Ok None) s e = ap (default_to default) e
Gives_default_to default (Ok (Some x)) s e = ap (default_to default) e
Gives_default_to default (Err kind.WrongKind) s e = ap (default_to default) e
Gives_default_to default (Err kind.NoMemory) s e = tt
