use Rattle.case_table.proofs.Differ.{routes_are_apart}
use Rattle.case_table.proofs.routing.routes_differ.Goals as goal

pub returns : goal.returns
returns c = routes_are_apart
