use Rattle.case_table.proofs.Differ.{refusals_are_apart}
use Rattle.case_table.proofs.refuse.refusals_differ.Goals as goal

pub returns : goal.returns
returns c = refusals_are_apart
