use Rattle.std.proofs.Common.{None, Ok, Err, subst}
use Rattle.share_client.specs.TableRequests.{request_text}
use Rattle.share_client.specs.TableSteps.{PagesBehind, PagesOnto, TableTurn, with_first}
use Rattle.share_client.specs.Tables.{table_paging}
use Rattle.share_client.proofs.Knowing.{known_as, known_then}
use Rattle.share_client.proofs.Tabled.{none_came, only_page}
use Rattle.share_client.proofs.tables.read_pages.Goals as goal

pub returns-in-Err-clause-told : goal.returns-in-Err-clause-told
returns-in-Err-clause-told g c =
    let reads = g.T.Content.reads in
    let server = c.args.server.now in
    let asked = request_text server c.args.request.now in
    let paging = table_paging g.T.Line.PageLine.form reads server asked in
    let was = c.args.found.now.items in
    let mid = c.table_turn.new.found.items in
    let e = c.in-Err.fault in
    known_as g.L.Link.coming g.L.Link.closed c.args.link.now c.table_turn.new.link
    (TableTurn paging None was mid (Err e)) (PagesOnto paging was mid (Err e))
    (λ s t a. none_came g.T.Line.PageLine.form reads server asked was e mid s t a)
    c.in-Err.ensures.told

pub returns-in-Ok-later_pages-clause-told : goal.returns-in-Ok-later_pages-clause-told
returns-in-Ok-later_pages-clause-told g c =
    let reads = g.T.Content.reads in
    let server = c.args.server.now in
    let asked = request_text server c.args.request.now in
    let paging = table_paging g.T.Line.PageLine.form reads server asked in
    let was = c.args.found.now.items in
    let mid = c.table_turn.new.found.items in
    let now = c.later_pages.new.found.items in
    let page = c.in-Ok.page in
    known_then g.L.Link.coming g.L.Link.closed c.args.link.now c.table_turn.new.link c.later_pages.new.link
    (TableTurn paging None was mid (Ok page))
    (PagesBehind paging page.0 c.in-Some.next mid now (Ok c.in-Ok-later_pages.pages))
    (PagesOnto paging was now (with_first page.0 (Ok c.in-Ok-later_pages.pages)))
    (λ s t u a b. b s was (subst (λ o. TableTurn paging None was mid (Ok (page.0, o)) s t) c.in-Some.is a))
    c.in-Ok.ensures.told c.in-Ok-later_pages.ensures.told

pub returns-in-Err-later_pages-clause-told : goal.returns-in-Err-later_pages-clause-told
returns-in-Err-later_pages-clause-told g c =
    let reads = g.T.Content.reads in
    let server = c.args.server.now in
    let asked = request_text server c.args.request.now in
    let paging = table_paging g.T.Line.PageLine.form reads server asked in
    let was = c.args.found.now.items in
    let mid = c.table_turn.new.found.items in
    let now = c.later_pages.new.found.items in
    let page = c.in-Ok.page in
    known_then g.L.Link.coming g.L.Link.closed c.args.link.now c.table_turn.new.link c.later_pages.new.link
    (TableTurn paging None was mid (Ok page))
    (PagesBehind paging page.0 c.in-Some.next mid now (Err c.in-Err-later_pages.fault))
    (PagesOnto paging was now (with_first page.0 (Err c.in-Err-later_pages.fault)))
    (λ s t u a b. b s was (subst (λ o. TableTurn paging None was mid (Ok (page.0, o)) s t) c.in-Some.is a))
    c.in-Ok.ensures.told c.in-Err-later_pages.ensures.told

pub returns-in-None-clause-told : goal.returns-in-None-clause-told
returns-in-None-clause-told g c =
    let reads = g.T.Content.reads in
    let server = c.args.server.now in
    let asked = request_text server c.args.request.now in
    let paging = table_paging g.T.Line.PageLine.form reads server asked in
    let was = c.args.found.now.items in
    let mid = c.table_turn.new.found.items in
    let page = c.in-Ok.page in
    known_as g.L.Link.coming g.L.Link.closed c.args.link.now c.table_turn.new.link
    (TableTurn paging None was mid (Ok page)) (PagesOnto paging was mid (Ok (page.0, 1)))
    (λ s t a. only_page g.T.Line.PageLine.form reads server asked was page.0 mid s t (subst (λ o. TableTurn paging None was mid (Ok (page.0, o)) s t) c.in-None.is a))
    c.in-Ok.ensures.told
