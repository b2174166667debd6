use Rattle.std.proofs.Common.{◌≤◌}
use Rattle.http_message.specs.ResponseMessages.{ReadsFinalHead}
use Rattle.http_wire.specs.Heads.{IsHeadShort, IsPassing}
use Rattle.http_wire.specs.Streams.{Drew}
use Rattle.http_wire.proofs.head.read_final_head.Given as goal

abbrev pub invariant-heads : goal.invariant-heads
invariant-heads g l = record {
  later : g.S.Source.faults l.initial.source ≤ g.S.Source.faults l.source;
  read : Drew g.S.Source.left (IsHeadShort (ReadsFinalHead 16384)) l.initial.inbox l.inbox l.initial.source l.source (IsPassing ReadsFinalHead 16384 l.room);
}

abbrev pub decreases-heads : goal.decreases-heads
decreases-heads g l = l.room
