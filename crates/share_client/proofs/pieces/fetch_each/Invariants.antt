use Rattle.std.proofs.Common.{◌≤◌}
use Rattle.share_client.specs.Sides.{counts, Known, Later}
use Rattle.share_client.proofs.Piecing.{Reaches}
use Rattle.share_client.proofs.pieces.fetch_each.Given as goal

abbrev pub invariant-loop-number : goal.invariant-loop-number
invariant-loop-number g l = record {
  later : Later (counts g.L.Link.faults g.L.Link.read_faults g.L.Link.write_faults l.initial.link) (counts g.L.Link.faults g.L.Link.read_faults g.L.Link.write_faults l.link);
  sink : g.K.Sink.faults l.initial.sink ≤ g.K.Sink.faults l.sink;
  told : Known g.L.Link.coming g.L.Link.closed l.initial.link l.link (Reaches l.target l.piece l.size l.number (g.K.Sink.holds l.initial.sink) (g.K.Sink.holds l.sink));
}
