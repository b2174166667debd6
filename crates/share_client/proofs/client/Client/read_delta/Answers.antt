use Rattle.std.proofs.Common.{Ok, Err, refl, sym, subst}
use Rattle.share_client.specs.Servers.{server_in}
use Rattle.share_client.specs.TableSteps.{PagesOnto}
use Rattle.share_client.specs.Tables.{delta_files, ReadsDelta, ReadsDeltaOf}
use Rattle.share_client.specs.declared.fault.ClientFault.TheVariants as fault
use Rattle.share_client.specs.declared.table_read.DeltaRead.{DeltaRead}
use Rattle.share_client.proofs.Knowing.{known_as, known_same}
use Rattle.share_client.proofs.Tabled.{no_delta, delta_read}
use Rattle.share_client.proofs.client.Client.read_delta.Goals as goal

pub returns-in-Ok-read_pages-clause-told : goal.returns-in-Ok-read_pages-clause-told
returns-in-Ok-read_pages-clause-told g c =
    let profile = c.args.self.now.profile in
    let table = c.args.table.now in
    let body = c.args.body.now in
    let paging = delta_files c.in-Ok.server table body in
    let was = c.new-found.result.items in
    let found = c.read_pages.new.found in
    let head = c.in-Ok-read_pages.head in
    let pages = c.in-Ok-read_pages.pages in
    let read : DeltaRead = record { version = head.version; protocol = head.front.protocol; meta = head.front.meta; files = found; pages = pages } in
    known_as g.L.Link.coming g.L.Link.closed c.args.link.now c.read_pages.new.link
    (PagesOnto paging was found.items (Ok (head, pages)))
    (ReadsDeltaOf (server_in profile) table body (Ok read))
    (λ s t onto. subst (λ o. ReadsDeltaOf o table body (Ok read) s t) (sym c.in-Ok.ensures) (delta_read paging was found.items (head, pages) read s t c.new-found.ensures.items refl refl refl refl refl onto))
    c.in-Ok-read_pages.ensures.told

pub returns-in-Ok-clause-told : goal.returns-in-Ok-clause-told
returns-in-Ok-clause-told g c =
    let profile = c.args.self.now.profile in
    let table = c.args.table.now in
    let body = c.args.body.now in
    let e = c.in-Err-read_pages.fault in
    known_as g.L.Link.coming g.L.Link.closed c.args.link.now c.read_pages.new.link
    (ReadsDelta (delta_files c.in-Ok.server table body) (Err e)) (ReadsDeltaOf (server_in profile) table body (Err e))
    (λ s t a. subst (λ o. ReadsDeltaOf o table body (Err e) s t) (sym c.in-Ok.ensures) a)
    c.in-Err-read_pages.ensures.told

pub returns-clause-told : goal.returns-clause-told
returns-clause-told g c =
    let server = server_in c.args.self.now.profile in
    known_same g.L.Link.coming g.L.Link.closed c.args.link.now
    (ReadsDeltaOf server c.args.table.now c.args.body.now (Err fault.NoMemory))
    (λ s. no_delta server c.args.table.now c.args.body.now s)
