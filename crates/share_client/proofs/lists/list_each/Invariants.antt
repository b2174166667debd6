use Rattle.std.proofs.Common.{take}
use Rattle.share_client.specs.Listings.{ListsEach}
use Rattle.share_client.specs.Sides.{counts, Known, Later}
use Rattle.share_client.proofs.lists.list_each.Given as goal

abbrev pub invariant-loop-share : goal.invariant-loop-share
invariant-loop-share g l = record {
  later : Later (counts g.L.Link.faults g.L.Link.read_faults g.L.Link.write_faults l.initial.link) (counts g.L.Link.faults g.L.Link.read_faults g.L.Link.write_faults l.link);
  told : Known g.L.Link.coming g.L.Link.closed l.initial.link l.link (ListsEach l.server (take l.share-index l.shares) l.found.items);
}
