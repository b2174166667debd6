use Rattle.std.proofs.Common.{inr, refl}
use Rattle.hub_tables.proofs.CommitSteps.{commit_began}
use Rattle.hub_tables.proofs.caller.Caller.commit_log.Goals as goal

pub returns-in-Some-clause-began : goal.returns-in-Some-clause-began
returns-in-Some-clause-began g c =
    let b = c.in-Some.ensures.begun in
    commit_began c.commit_open.result c.args.attempt.now.moment c.args.attempt.now.offer.now (g.W.Store.objects c.args.store.now) (g.W.Store.objects c.commit_open.new.store) b.0 c.args.pass.now c.begin_log.new.pass c.commit_open.new.pass c.args.attempt.now.log b.1 b.2 c.begin_log.ensures.same c.commit_open.ensures.same c.commit_open.ensures.runs

pub returns-in-None-clause-began : goal.returns-in-None-clause-began
returns-in-None-clause-began g c = inr (refl, c.in-None.ensures.begun)
