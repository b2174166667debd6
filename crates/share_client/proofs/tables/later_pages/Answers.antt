use Rattle.std.proofs.Common.{◌≡◌, ◌+◌, Some, None, Ok, Err, subst, arith}
use Rattle.share_client.specs.TableRequests.{request_text}
use Rattle.share_client.specs.TableSteps.{IsBehind, PagesBehind, TableTurn}
use Rattle.share_client.specs.Tables.{table_paging}
use Rattle.share_client.specs.declared.fault.ClientFault.TheVariants as fault
use Rattle.share_client.proofs.Counts.{later_twice}
use Rattle.share_client.proofs.Knowing.{known_as, known_same, known_then}
use Rattle.share_client.proofs.Tabled.{first_page, GoesOn, last_page, one_page_more, page_changed, pages_stopped, ReachesPages, too_many_pages}
use Rattle.share_client.proofs.tables.later_pages.Goals as goal

pub loop-number-init : goal.loop-number-init
loop-number-init g c =
    let reads = g.T.Content.reads in
    let server = c.args.server.now in
    let asked = request_text server c.args.request.now in
    let paging = table_paging g.T.Line.PageLine.form reads server asked in
    let first = c.args.first.now in
    let was = c.args.found.now.items in
    record {
      later = record { opens = omega arith; reads = omega arith; writes = omega arith };
      told =
          known_same g.L.Link.coming g.L.Link.closed c.args.link.now
          (GoesOn paging first (Some c.args.next) 1 (Some c.args.next) was was)
          (λ s start before turn. first_page g.T.Line.PageLine.form reads server asked before first c.args.next was start s turn);
    }

pub returns-in-Err-clause-told : goal.returns-in-Err-clause-told
returns-in-Err-clause-told g c =
    let l = c.loop-number in
    let reads = g.T.Content.reads in
    let server = c.args.server.now in
    let asked = request_text server c.args.request.now in
    let paging = table_paging g.T.Line.PageLine.form reads server asked in
    let first = c.args.first.now in
    let was = c.args.found.now.items in
    let now = c.table_turn.new.found.items in
    known_then g.L.Link.coming g.L.Link.closed c.args.link.now l.link c.table_turn.new.link
    (GoesOn paging first (Some c.args.next) l.number l.token was l.found.items)
    (TableTurn paging l.token l.found.items now (Err c.in-Err.fault))
    (PagesBehind paging first c.args.next was now (Err c.in-Err.fault))
    (λ s t u a b start before turn. pages_stopped g.T.Line.PageLine.form reads server asked before l.number (Some first) l.token c.in-Err.fault l.found.items now start t u (a start before turn) b)
    l.invariant.told c.in-Err.ensures.told

pub returns-in-Ok-None-clause-told : goal.returns-in-Ok-None-clause-told
returns-in-Ok-None-clause-told g c =
    let l = c.loop-number in
    let reads = g.T.Content.reads in
    let server = c.args.server.now in
    let asked = request_text server c.args.request.now in
    let paging = table_paging g.T.Line.PageLine.form reads server asked in
    let first = c.args.first.now in
    let was = c.args.found.now.items in
    let now = c.table_turn.new.found.items in
    let page = c.in-Ok.page in
    let behind : IsBehind first page (Ok None) = rw c.in-Ok-None.field-0-is at c.in-Ok-None.ensures in
    known_then g.L.Link.coming g.L.Link.closed c.args.link.now l.link c.table_turn.new.link
    (GoesOn paging first (Some c.args.next) l.number l.token was l.found.items)
    (TableTurn paging l.token l.found.items now (Ok page))
    (PagesBehind paging first c.args.next was now (Ok (l.number + 1)))
    (λ s t u a b start before turn. last_page g.T.Line.PageLine.form reads server asked before l.number first l.token page l.found.items now start t u (a start before turn) b behind)
    l.invariant.told c.in-Ok.ensures.told

pub returns-in-Err-token_behind-clause-told : goal.returns-in-Err-token_behind-clause-told
returns-in-Err-token_behind-clause-told g c =
    let l = c.loop-number in
    let reads = g.T.Content.reads in
    let server = c.args.server.now in
    let asked = request_text server c.args.request.now in
    let paging = table_paging g.T.Line.PageLine.form reads server asked in
    let first = c.args.first.now in
    let was = c.args.found.now.items in
    let now = c.table_turn.new.found.items in
    let page = c.in-Ok.page in
    let e = c.in-Err-token_behind.fault in
    known_then g.L.Link.coming g.L.Link.closed c.args.link.now l.link c.table_turn.new.link
    (GoesOn paging first (Some c.args.next) l.number l.token was l.found.items)
    (TableTurn paging l.token l.found.items now (Ok page))
    (PagesBehind paging first c.args.next was now (Err e))
    (λ s t u a b start before turn. page_changed g.T.Line.PageLine.form reads server asked before l.number first l.token page e l.found.items now start t u (a start before turn) b c.in-Err-token_behind.ensures)
    l.invariant.told c.in-Ok.ensures.told

pub loop-number-preserved : goal.loop-number-preserved
loop-number-preserved g c =
    let l = c.loop-number in
    let reads = g.T.Content.reads in
    let server = c.args.server.now in
    let asked = request_text server c.args.request.now in
    let paging = table_paging g.T.Line.PageLine.form reads server asked in
    let first = c.args.first.now in
    let was = c.args.found.now.items in
    let now = c.table_turn.new.found.items in
    let page = c.in-Ok.page in
    let next = c.in-Ok-Some.next in
    let behind : IsBehind first page (Ok (Some next)) = rw c.in-Ok-Some.field-0-is at c.in-Ok-Some.ensures in
    record {
      later = later_twice _ _ _ l.invariant.later c.table_turn.ensures.later;
      told =
          known_then g.L.Link.coming g.L.Link.closed c.args.link.now l.link c.table_turn.new.link
          (GoesOn paging first (Some c.args.next) l.number l.token was l.found.items)
          (TableTurn paging l.token l.found.items now (Ok page))
          (GoesOn paging first (Some c.args.next) (l.number + 1) (Some next) was now)
          (λ s t u a b start before turn. one_page_more g.T.Line.PageLine.form reads server asked before l.number first l.token page next l.found.items now start t u (a start before turn) b behind)
          l.invariant.told c.in-Ok.ensures.told;
    }

pub returns-clause-told : goal.returns-clause-told
returns-clause-told g c =
    let l = c.loop-number in
    let reads = g.T.Content.reads in
    let server = c.args.server.now in
    let asked = request_text server c.args.request.now in
    let paging = table_paging g.T.Line.PageLine.form reads server asked in
    let first = c.args.first.now in
    let was = c.args.found.now.items in
    let many : l.number ≡ 100000 = omega (arith, c.loop-number-test.false, l.auto.number-end) in
    known_as g.L.Link.coming g.L.Link.closed c.args.link.now l.link
    (GoesOn paging first (Some c.args.next) l.number l.token was l.found.items)
    (PagesBehind paging first c.args.next was l.found.items (Err fault.TooManyPages))
    (λ s t a start before turn. too_many_pages g.T.Line.PageLine.form reads server asked before (Some first) l.token l.found.items start t (subst (λ n. ReachesPages paging n (Some first) l.token before l.found.items start t) many (a start before turn)))
    l.invariant.told
