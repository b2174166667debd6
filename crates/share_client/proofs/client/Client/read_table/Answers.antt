use Rattle.std.proofs.Common.{Ok, Err, refl, sym, subst}
use Rattle.share_lines.specs.declared.kinds.Line.TheVariants as line
use Rattle.share_client.specs.Servers.{server_in}
use Rattle.share_client.specs.TableSteps.{PagesOnto}
use Rattle.share_client.specs.Tables.{files, ReadsTable, ReadsTableOf}
use Rattle.share_client.specs.declared.fault.ClientFault.TheVariants as fault
use Rattle.share_client.specs.declared.table_read.TableRead.{TableRead}
use Rattle.share_client.proofs.Knowing.{known_as, known_same}
use Rattle.share_client.proofs.Tabled.{no_table, table_read}
use Rattle.share_client.proofs.client.Client.read_table.Goals as goal

pub returns-in-Ok-read_pages-clause-told : goal.returns-in-Ok-read_pages-clause-told
returns-in-Ok-read_pages-clause-told g c =
    let profile = c.args.self.now.profile in
    let table = c.args.table.now in
    let body = c.args.body.now in
    let paging = files c.in-Ok.server table body in
    let was = c.new-files.result.items in
    let found = c.read_pages.new.found in
    let head = c.in-Ok-read_pages.head in
    let pages = c.in-Ok-read_pages.pages in
    let read : TableRead = record { version = head.version; meta = line.MetaData head.front; files = found; pages = pages } in
    known_as g.L.Link.coming g.L.Link.closed c.args.link.now c.read_pages.new.link
    (PagesOnto paging was found.items (Ok (head, pages)))
    (ReadsTableOf (server_in profile) table body (Ok read))
    (λ s t onto. subst (λ o. ReadsTableOf o table body (Ok read) s t) (sym c.in-Ok.ensures) (table_read paging was found.items (head, pages) read s t c.new-files.ensures.items refl refl refl refl onto))
    c.in-Ok-read_pages.ensures.told

pub returns-in-Ok-clause-told : goal.returns-in-Ok-clause-told
returns-in-Ok-clause-told g c =
    let profile = c.args.self.now.profile in
    let table = c.args.table.now in
    let body = c.args.body.now in
    let e = c.in-Err-read_pages.fault in
    known_as g.L.Link.coming g.L.Link.closed c.args.link.now c.read_pages.new.link
    (ReadsTable (files c.in-Ok.server table body) (Err e)) (ReadsTableOf (server_in profile) table body (Err e))
    (λ s t a. subst (λ o. ReadsTableOf o table body (Err e) s t) (sym c.in-Ok.ensures) a)
    c.in-Err-read_pages.ensures.told

pub returns-clause-told : goal.returns-clause-told
returns-clause-told g c =
    let server = server_in c.args.self.now.profile in
    known_same g.L.Link.coming g.L.Link.closed c.args.link.now
    (ReadsTableOf server c.args.table.now c.args.body.now (Err fault.NoMemory))
    (λ s. no_table server c.args.table.now c.args.body.now s)
