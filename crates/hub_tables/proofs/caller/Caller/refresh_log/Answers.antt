use Rattle.hub_tables.proofs.RefreshSteps.{begun_refresh}
use Rattle.hub_tables.proofs.caller.Caller.refresh_log.Goals as goal

pub returns-in-Some-clause-ran : goal.returns-in-Some-clause-ran
returns-in-Some-clause-ran g c =
    let b = c.in-Some.ensures.begun in
    begun_refresh c.refresh_open.result c.args.stored.now.location.now c.args.stored.now.log (g.W.Store.objects c.args.store.now) (g.W.Store.objects c.refresh_open.new.store) b.0 c.args.pass.now c.begin_log.new.pass c.refresh_open.new.pass b.1 b.2 c.begin_log.ensures.same c.refresh_open.ensures.same c.refresh_open.ensures.runs
