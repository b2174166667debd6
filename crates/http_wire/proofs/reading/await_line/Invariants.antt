use Rattle.std.proofs.Common.{◌-◌, ◌≤◌, length}
use Rattle.http_message.specs.Lines.{IsOpenLine}
use Rattle.http_wire.specs.Fills.{Awaits}
use Rattle.http_wire.proofs.reading.await_line.Given as goal

abbrev pub invariant-turns : goal.invariant-turns
invariant-turns g l = record {
  draws : Awaits g.S.Source.left IsOpenLine l.initial.inbox l.inbox l.initial.source l.source;
  later : g.S.Source.faults l.initial.source ≤ g.S.Source.faults l.source;
}

abbrev pub decreases-turns : goal.decreases-turns
decreases-turns g l = 256 - length l.inbox.0
