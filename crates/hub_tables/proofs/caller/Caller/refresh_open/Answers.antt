use Rattle.std.proofs.Common.{Ok, sym, subst}
use Rattle.hub_tables.specs.declared.refresh.Refreshed.{Refreshed}
use Rattle.hub_tables.specs.RefreshRounds.{RefreshRuns}
use Rattle.hub_tables.proofs.RefreshSteps.{blocked_refresh}
use Rattle.hub_tables.proofs.caller.Caller.refresh_open.Goals as goal

pub returns-in-Some-clause-runs : goal.returns-in-Some-clause-runs
returns-in-Some-clause-runs g c =
    subst (λ (r : Refreshed). RefreshRuns (Ok r) c.args.stored.now.location.now c.args.stored.now.log (g.W.Store.objects c.args.store.now) (g.W.Store.objects c.args.store.now) c.args.pass.now c.abort_log.new.pass) (sym c.known.ensures)
    (blocked_refresh c.args.stored.now.location.now c.args.stored.now.log c.args.state (g.W.Store.objects c.args.store.now) c.args.pass.now c.abort_log.new.pass c.in-Some.field-0 c.requires.opened c.in-Some.is c.abort_log.ensures.ended)
