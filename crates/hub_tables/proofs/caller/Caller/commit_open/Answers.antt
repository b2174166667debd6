use Rattle.hub_tables.proofs.CommitSteps.{runs_blocked, runs_goes, runs_wanting}
use Rattle.hub_tables.proofs.caller.Caller.commit_open.Goals as goal

pub returns-in-Some-clause-runs : goal.returns-in-Some-clause-runs
returns-in-Some-clause-runs g c =
    runs_blocked c.in-Some.version c.args.attempt.now.moment c.args.attempt.now.offer.now (g.W.Store.objects c.args.store.now) (g.W.Store.objects c.args.store.now) c.args.pass.now c.abort_log.new.pass c.args.attempt.now.log c.args.state c.requires.opened c.in-Some.is c.abort_log.ensures.ended

pub returns-in-Ok-clause-runs : goal.returns-in-Ok-clause-runs
returns-in-Ok-clause-runs g c =
    runs_goes c.commit_rounds.result c.args.attempt.now.moment c.args.attempt.now.offer.now (g.W.Store.objects c.args.store.now) (g.W.Store.objects c.commit_rounds.new.store) c.args.pass.now c.log_head.new.pass c.commit_rounds.new.pass c.args.attempt.now.log c.log_head.ensures.same.number c.log_head.ensures.goes c.commit_rounds.ensures.runs

pub returns-in-Err-clause-runs : goal.returns-in-Err-clause-runs
returns-in-Err-clause-runs g c =
    runs_wanting c.args.attempt.now.moment c.args.attempt.now.offer.now (g.W.Store.objects c.args.store.now) (g.W.Store.objects c.args.store.now) c.args.pass.now c.log_head.new.pass c.abort_log-in-Err.new.pass c.args.attempt.now.log c.args.state c.requires.opened c.log_head.ensures.same.number c.log_head.ensures.goes c.abort_log-in-Err.ensures.ended
