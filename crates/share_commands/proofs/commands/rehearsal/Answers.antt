use Rattle.std.proofs.Common.{Some}
use Rattle.share_commands.proofs.Runs.{rehearsal_runs, runs_still}
use Rattle.share_commands.specs.declared.words.Command.TheVariants.{Rehearse}
use Rattle.share_commands.proofs.commands.rehearsal.Goals as goal

pub returns-in-Ok : goal.returns-in-Ok
returns-in-Ok g c = rehearsal_runs c.args.number _ _ _ _ (rw (c.as_bytes.ensures.value, c.as_str.ensures) c.in-Ok.ensures) c.print.ensures.prints

pub returns-in-Err : goal.returns-in-Err
returns-in-Err g c = runs_still (Some (Rehearse c.args.number)) c.args.edge.now
