use Rattle.hub_tables.proofs.TablePasses.{is_log_held}
use Rattle.hub_tables.proofs.caller.Caller.end_commit.Goals as goal

pub abort_log-requires-clause-there : goal.abort_log-requires-clause-there
abort_log-requires-clause-there g c = let h = c.requires.begun.1 in is_log_held c.args.pass.now c.args.log h.log h.holds

pub abort_log-requires-clause-begun : goal.abort_log-requires-clause-begun
abort_log-requires-clause-begun g c = let h = c.requires.begun.1 in h.holds.holder
