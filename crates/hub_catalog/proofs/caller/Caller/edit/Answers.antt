use Rattle.hub_catalog.proofs.Rounding.{edits_run}
use Rattle.hub_catalog.proofs.caller.Caller.edit.Goals as goal

pub returns-in-Some-clause-entries : goal.returns-in-Some-clause-entries
returns-in-Some-clause-entries g c =
    edits_run c.rounds.result c.args.edit.now _ _ c.in-Some.ensures.begun.0 c.args.pass.now c.begin.new.pass c.rounds.new.pass c.in-Some.first c.begin.ensures.same.number c.in-Some.ensures.begun.1 c.rounds.ensures.same.seen c.rounds.ensures.run
