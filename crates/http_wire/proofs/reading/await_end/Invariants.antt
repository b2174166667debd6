use Rattle.std.proofs.Common.{◌-◌, ◌≤◌, length, take}
use Rattle.http_message.specs.Ends.{HasNoEndTo}
use Rattle.http_wire.specs.Fills.{Awaits}
use Rattle.http_wire.specs.Parts.{IsEndOpen}
use Rattle.http_wire.proofs.reading.await_end.Given as goal

abbrev pub invariant-turns : goal.invariant-turns
invariant-turns g l = record {
  draws : Awaits g.S.Source.left (IsEndOpen l.most l.start l.initial.inbox.0) l.initial.inbox l.inbox l.initial.source l.source;
  later : g.S.Source.faults l.initial.source ≤ g.S.Source.faults l.source;
  order : l.start ≤ l.searched;
  within : l.searched ≤ length (take l.most l.inbox.0);
  none : HasNoEndTo (take l.most l.inbox.0) l.start l.searched;
}

abbrev pub decreases-turns : goal.decreases-turns
decreases-turns g l = l.most - length l.inbox.0
