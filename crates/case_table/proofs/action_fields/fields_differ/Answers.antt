use Rattle.case_table.proofs.Differ.{fields_are_apart}
use Rattle.case_table.proofs.action_fields.fields_differ.Goals as goal

pub returns : goal.returns
returns c = fields_are_apart
