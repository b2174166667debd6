use Rattle.std.proofs.Common.{Some, sym, subst}
use Rattle.share_commands.specs.Steps.{Runs}
use Rattle.share_commands.specs.StdioSteps.{ServesOne}
use Rattle.share_commands.specs.declared.words.Command.TheVariants.{Stdio}
use Rattle.share_commands.proofs.Serving.{one_of, opens_one, served_runs}
use Rattle.share_commands.proofs.stdio.stdio.Goals as goal

pub returns-in-Ok : goal.returns-in-Ok
returns-in-Ok g c =
    let opened = c.in-Ok.ensures.opened in
    let passes = c.in-Ok.opened.passes.items in
    let one = one_of passes opened.1.count in
    let serves = subst (λ s. ServesOne s one.0 c.serve.result c.open_over.new.edge c.serve.new.edge) opened.0.1 (c.serve.ensures one.0 one.1) in
    subst (λ e. Runs (Some Stdio) c.args.edge.now c.serve.new.edge e) (sym c.end_after.ensures)
    (served_runs opened.0.0 one.0 c.serve.result c.args.edge.now c.open_over.new.edge c.serve.new.edge c.in-Ok.ensures.looks opened.0.2 (opens_one c.in-Ok.opened.hub passes one.0 _ _ one.1 opened.1) serves)
