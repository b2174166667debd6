use Rattle.edge_core.proofs.Gatherings.{passed_on, no_bytes}
use Rattle.edge_core.proofs.gathering.Gathering.pass.Goals as goal

pub returns-clause-bytes : goal.returns-clause-bytes
returns-clause-bytes g c = passed_on _ _ _ (no_bytes c.args.self.now.kept.items c.args.self.now.handed c.requires.none_kept) _ _ c.write.ensures.bytes
