use Rattle.std.proofs.Common.{◌≡◌, ◌+◌, drop, map}
use Rattle.share_nodes.specs.Code.{named_of, place_in}
use Rattle.share_nodes.proofs.run.find.Given as goal

abbrev pub invariant-loop-seat : goal.invariant-loop-seat
invariant-loop-seat l = record {
  count : l.at ≡ l.seat-index;
  place : place_in l.number (map named_of l.seats) ≡ l.at + place_in l.number (map named_of (drop l.seat-index l.seats));
}
