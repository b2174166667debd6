use Rattle.share_client.specs.Listings.{list_paging}
use Rattle.share_client.specs.Sides.{counts, Known, Later}
use Rattle.share_client.proofs.Listed.{Reaches}
use Rattle.share_client.proofs.lists.list_all.Given as goal

abbrev pub invariant-loop-number : goal.invariant-loop-number
invariant-loop-number g l = record {
  later : Later (counts g.L.Link.faults g.L.Link.read_faults g.L.Link.write_faults l.initial.link) (counts g.L.Link.faults g.L.Link.read_faults g.L.Link.write_faults l.link);
  told : Known g.L.Link.coming g.L.Link.closed l.initial.link l.link (Reaches (list_paging g.T.Listed.reads l.server l.route) l.number l.token l.initial.found.items l.found.items);
}
