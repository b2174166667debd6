use Rattle.share_client.specs.Sides.{counts, Known, Later}
use Rattle.share_client.specs.TableRequests.{request_text}
use Rattle.share_client.specs.Tables.{table_paging}
use Rattle.share_client.proofs.Tabled.{GoesOn}
use Rattle.share_client.proofs.tables.later_pages.Given as goal

abbrev pub invariant-loop-number : goal.invariant-loop-number
invariant-loop-number g l = record {
  later : Later (counts g.L.Link.faults g.L.Link.read_faults g.L.Link.write_faults l.initial.link) (counts g.L.Link.faults g.L.Link.read_faults g.L.Link.write_faults l.link);
  told : Known g.L.Link.coming g.L.Link.closed l.initial.link l.link (GoesOn (table_paging g.T.Line.PageLine.form g.T.Content.reads l.server (request_text l.server l.request)) l.first l.initial.token l.number l.token l.initial.found.items l.found.items);
}
