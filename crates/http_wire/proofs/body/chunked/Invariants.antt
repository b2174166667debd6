use Rattle.std.proofs.Common.{◌-◌, ◌≤◌, length}
use Rattle.http_message.specs.Bodies.{unended, ReadsChunked}
use Rattle.http_wire.specs.Bodies.{IsChunking}
use Rattle.http_wire.specs.Streams.{Drew}
use Rattle.http_wire.proofs.body.chunked.Given as goal

abbrev pub invariant-chunks : goal.invariant-chunks
invariant-chunks g l = record {
  later : g.S.Source.faults l.initial.source ≤ g.S.Source.faults l.source;
  read : Drew g.S.Source.left (λ b. ReadsChunked l.most b unended) l.initial.inbox l.inbox l.initial.source l.source (IsChunking l.most l.body.items);
}

abbrev pub decreases-chunks : goal.decreases-chunks
decreases-chunks g l = l.most - length l.body.items
