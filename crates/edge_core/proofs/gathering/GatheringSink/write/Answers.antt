use Rattle.std.proofs.Common.{arith, ap}
use Rattle.edge_core.proofs.Gatherings.{kept_more}
use Rattle.edge_core.proofs.gathering.GatheringSink.write.Goals as goal

pub returns-clause-bytes : goal.returns-clause-bytes
returns-clause-bytes g c = (
  c.requires,
  omega arith,
  kept_more _ _ _ _ _ _ c.args.bytes.now c.make_room.ensures.held (ap g.K.Sink.holds c.keep.ensures.inner) c.keep.ensures.kept,
)
