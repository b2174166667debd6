use Rattle.std.proofs.Common.{subst}
use Rattle.query_command.specs.Writing.{Prints}
use Rattle.query_command.proofs.Queries.{printed_runs}
use Rattle.query_command.proofs.command.query.Goals as goal

pub returns-in-Ok : goal.returns-in-Ok
returns-in-Ok g c =
    let prints = subst (λ text. Prints text c.find_lines.new.edge c.print.new.edge c.print.result) c.deref.ensures.value c.print.ensures.prints in
    printed_runs c.args.location.now c.args.edge.now c.find_lines.new.edge c.print.new.edge c.in-Ok.lines.items c.print.result c.in-Ok.ensures prints
