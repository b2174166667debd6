use Rattle.std.proofs.Common.{◌≡◌, take}
use Rattle.edge_core.proofs.segments.Segments.copy.Given as goal

abbrev pub invariant-loop-segment : goal.invariant-loop-segment
invariant-loop-segment l = l.items.items ≡ take l.segment-index l.segment-items
