use Rattle.std.proofs.Common.{Ok, Err, sym, subst}
use Rattle.share_client.specs.Servers.{server_in}
use Rattle.share_client.specs.TableSteps.{PagesOnto}
use Rattle.share_client.specs.Tables.{changes, ReadsChanges, ReadsChangesOf}
use Rattle.share_client.specs.declared.fault.ClientFault.TheVariants as fault
use Rattle.share_client.proofs.Knowing.{known_as, known_same}
use Rattle.share_client.proofs.Tabled.{changes_read, no_changes}
use Rattle.share_client.proofs.client.Client.read_changes.Goals as goal

pub returns-in-Ok-read_pages-clause-told : goal.returns-in-Ok-read_pages-clause-told
returns-in-Ok-read_pages-clause-told g c =
    let profile = c.args.self.now.profile in
    let table = c.args.table.now in
    let asked = changes c.in-Ok.server table c.args.from c.args.to in
    let was = c.new-changes.result.items in
    let now = c.read_pages.new.found.items in
    known_as g.L.Link.coming g.L.Link.closed c.args.link.now c.read_pages.new.link
    (PagesOnto asked was now (Ok (c.in-Ok-read_pages._head, c.in-Ok-read_pages._pages)))
    (ReadsChangesOf (server_in profile) table c.args.from c.args.to (Ok now))
    (λ s t onto. subst (λ o. ReadsChangesOf o table c.args.from c.args.to (Ok now) s t) (sym c.in-Ok.ensures) (changes_read asked was now (c.in-Ok-read_pages._head, c.in-Ok-read_pages._pages) s t c.new-changes.ensures.items onto))
    c.in-Ok-read_pages.ensures.told

pub returns-in-Ok-clause-told : goal.returns-in-Ok-clause-told
returns-in-Ok-clause-told g c =
    let profile = c.args.self.now.profile in
    let table = c.args.table.now in
    let asked = changes c.in-Ok.server table c.args.from c.args.to in
    let e = c.in-Err-read_pages.fault in
    known_as g.L.Link.coming g.L.Link.closed c.args.link.now c.read_pages.new.link
    (ReadsChanges asked (Err e)) (ReadsChangesOf (server_in profile) table c.args.from c.args.to (Err e))
    (λ s t a. subst (λ o. ReadsChangesOf o table c.args.from c.args.to (Err e) s t) (sym c.in-Ok.ensures) a)
    c.in-Err-read_pages.ensures.told

pub returns-clause-told : goal.returns-clause-told
returns-clause-told g c =
    let server = server_in c.args.self.now.profile in
    known_same g.L.Link.coming g.L.Link.closed c.args.link.now
    (λ s t. ReadsChangesOf server c.args.table.now c.args.from c.args.to (Err fault.NoMemory) s t)
    (λ s. no_changes server c.args.table.now c.args.from c.args.to s)
