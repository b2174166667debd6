use Rattle.hub_tables.proofs.TablePasses.{is_log_later, starts_after}
use Rattle.hub_tables.proofs.caller.Caller.begin_log.Goals as goal

pub try_begin_log-requires-clause-there : goal.try_begin_log-requires-clause-there
try_begin_log-requires-clause-there g c = is_log_later c.args.log c.args.pass.now.seen c.loop.pass.seen c.loop.invariant.0.seen c.requires.there

pub returns-in-Open-clause-begun : goal.returns-in-Open-clause-begun
returns-in-Open-clause-begun g c =
    let b = c.in-Open.ensures.begun in
    (b.0, b.1, starts_after b.0 c.args.pass.now c.loop.pass c.try_begin_log.new.pass c.args.log b.1 c.loop.invariant.0 c.loop.invariant.1 b.2, b.3, b.4)
