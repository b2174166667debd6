use Rattle.hub_catalog.proofs.Refreshing.{refresh_run}
use Rattle.hub_catalog.proofs.caller.Caller.refresh_begun.Goals as goal

pub returns-in-Some-clause-run : goal.returns-in-Some-clause-run
returns-in-Some-clause-run g c =
    refresh_run c.refresh_on.result _ _ c.in-Some.ensures.begun.0 c.args.pass.now c.begin.new.pass c.refresh_on.new.pass c.in-Some.first c.begin.ensures.same.number c.in-Some.ensures.begun.1 c.refresh_on.ensures.same.seen c.refresh_on.ensures.run
