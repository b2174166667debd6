use Rattle.std.proofs.Common.{◌-◌, ◌≤◌, length}
use Rattle.http_wire.specs.Fills.{Awaits}
use Rattle.http_wire.specs.Parts.{IsFewer}
use Rattle.http_wire.proofs.reading.await_bytes.Given as goal

abbrev pub invariant-turns : goal.invariant-turns
invariant-turns g l = record {
  draws : Awaits g.S.Source.left (IsFewer l.size l.initial.inbox.0) l.initial.inbox l.inbox l.initial.source l.source;
  later : g.S.Source.faults l.initial.source ≤ g.S.Source.faults l.source;
}

abbrev pub decreases-turns : goal.decreases-turns
decreases-turns g l = l.size - length l.inbox.0
