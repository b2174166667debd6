use Rattle.case_table.proofs.Differ.{values_are_apart}
use Rattle.case_table.proofs.values.value_types_differ.Goals as goal

pub returns : goal.returns
returns c = values_are_apart
