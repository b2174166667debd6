use Rattle.std.proofs.Common.{◌≡◌, ◌+◌, ◌<◌, ◌≤◌, ◌++◌, length}
use Rattle.http_wire.specs.Streams.{Drew}
use Rattle.http_wire.proofs.chunk.take_bytes.Given as goal

abbrev pub invariant-pieces : goal.invariant-pieces
invariant-pieces g l = record {
  later : g.S.Source.faults l.initial.source ≤ g.S.Source.faults l.source;
  took : Drew g.S.Source.left (λ b. length b < l.size) l.initial.inbox l.inbox l.initial.source l.source (λ used. (l.body.items ≡ l.initial.body.items ++ used) × (length used + l.left ≡ l.size));
}

abbrev pub decreases-pieces : goal.decreases-pieces
decreases-pieces g l = l.left
