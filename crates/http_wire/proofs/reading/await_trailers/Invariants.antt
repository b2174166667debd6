use Rattle.std.proofs.Common.{◌+◌, ◌-◌, ◌≤◌, ◌∷◌, length, take}
use Rattle.http_message.specs.Ends.{HasNoEndTo}
use Rattle.http_wire.specs.Fills.{Awaits}
use Rattle.http_wire.specs.Parts.{IsTrailersOpen}
use Rattle.http_wire.proofs.reading.await_trailers.Given as goal

abbrev pub invariant-turns : goal.invariant-turns
invariant-turns g l = record {
  draws : Awaits g.S.Source.left IsTrailersOpen l.initial.inbox l.inbox l.initial.source l.source;
  later : g.S.Source.faults l.initial.source ≤ g.S.Source.faults l.source;
  within : l.searched ≤ length (take 16384 l.inbox.0);
  none : HasNoEndTo (10 ∷ take 16384 l.inbox.0) 1 (l.searched + 1);
}

abbrev pub decreases-turns : goal.decreases-turns
decreases-turns g l = 16384 - length l.inbox.0
