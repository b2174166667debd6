use Rattle.std.proofs.Common.{◌≡◌, ◌+◌, ◌-◌, ◌≤◌, length}
use Rattle.http_wire.specs.Streams.{Drew}
use Rattle.http_wire.proofs.body.to_end.Given as goal

abbrev pub invariant-pieces : goal.invariant-pieces
invariant-pieces g l = record {
  later : g.S.Source.faults l.initial.source ≤ g.S.Source.faults l.source;
  took : Drew g.S.Source.left (λ b. length b ≤ l.most) l.initial.inbox l.inbox l.initial.source l.source (λ used. l.body.items ≡ used);
}

abbrev pub decreases-pieces : goal.decreases-pieces
decreases-pieces g l = l.most + 1 - length l.body.items
