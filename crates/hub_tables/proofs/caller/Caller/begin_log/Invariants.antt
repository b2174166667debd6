use Rattle.std.proofs.Common.{[]}
use Rattle.hub_calls.specs.Calls.{Adds, IsIdle}
use Rattle.hub_tables.proofs.caller.Caller.begin_log.Given as goal

abbrev pub invariant-loop : goal.invariant-loop
invariant-loop g l = IsIdle l.initial.pass l.pass × Adds l.initial.pass l.pass []
