use Rattle.std.proofs.Common.{◌≡◌, ◌+◌, None, Some, Ok, Err, subst, arith}
use Rattle.share_client.specs.Listings.{list_paging}
use Rattle.share_client.specs.Steps.{ListsOnto, ListTurn, OntoAll}
use Rattle.share_client.specs.declared.fault.ClientFault.TheVariants as fault
use Rattle.share_client.proofs.Counts.{later_twice}
use Rattle.share_client.proofs.Knowing.{known_as, known_then}
use Rattle.share_client.proofs.Listed.{last_one, one_more, Reaches, stopped, too_many}
use Rattle.share_client.proofs.lists.list_all.Goals as goal

pub returns-in-Ok-None-clause-told : goal.returns-in-Ok-None-clause-told
returns-in-Ok-None-clause-told g c =
    let l = c.loop-number in
    let reads = g.T.Listed.reads in
    let paging = list_paging reads c.args.server.now c.args.route.now in
    let was = c.args.found.now.items in
    let now = c.list_turn.new.found.items in
    known_then g.L.Link.coming g.L.Link.closed c.args.link.now l.link c.list_turn.new.link
    (Reaches paging l.number l.token was l.found.items)
    (ListTurn paging l.token l.found.items now (Ok None))
    (OntoAll paging was now)
    (λ s t u a b. last_one reads c.args.server.now c.args.route.now was l.number l.token l.found.items now s t u a b)
    l.invariant.told (rw c.in-Ok-None.field-0-is at c.in-Ok-None.ensures.told)

pub returns-in-Err-clause-told : goal.returns-in-Err-clause-told
returns-in-Err-clause-told g c =
    let l = c.loop-number in
    let reads = g.T.Listed.reads in
    let paging = list_paging reads c.args.server.now c.args.route.now in
    let was = c.args.found.now.items in
    let now = c.list_turn.new.found.items in
    known_then g.L.Link.coming g.L.Link.closed c.args.link.now l.link c.list_turn.new.link
    (Reaches paging l.number l.token was l.found.items)
    (ListTurn paging l.token l.found.items now (Err c.in-Err.fault))
    (ListsOnto paging was now (Err c.in-Err.fault))
    (λ s t u a b. stopped reads c.args.server.now c.args.route.now was l.number l.token c.in-Err.fault l.found.items now s t u a b)
    l.invariant.told c.in-Err.ensures.told

pub loop-number-preserved : goal.loop-number-preserved
loop-number-preserved g c =
    let l = c.loop-number in
    let reads = g.T.Listed.reads in
    let paging = list_paging reads c.args.server.now c.args.route.now in
    let was = c.args.found.now.items in
    let now = c.list_turn.new.found.items in
    record {
      later = later_twice _ _ _ l.invariant.later c.list_turn.ensures.later;
      told =
          known_then g.L.Link.coming g.L.Link.closed c.args.link.now l.link c.list_turn.new.link
          (Reaches paging l.number l.token was l.found.items)
          (ListTurn paging l.token l.found.items now (Ok (Some c.in-Ok-Some.next)))
          (Reaches paging (l.number + 1) (Some c.in-Ok-Some.next) was now)
          (λ s t u a b. one_more reads c.args.server.now c.args.route.now was l.number l.token c.in-Ok-Some.next l.found.items now s t u a b)
          l.invariant.told (rw c.in-Ok-Some.field-0-is at c.in-Ok-Some.ensures.told);
    }

pub returns-clause-told : goal.returns-clause-told
returns-clause-told g c =
    let l = c.loop-number in
    let reads = g.T.Listed.reads in
    let paging = list_paging reads c.args.server.now c.args.route.now in
    let was = c.args.found.now.items in
    let many : l.number ≡ 100000 = omega (arith, c.loop-number-test.false, l.auto.number-end) in
    known_as g.L.Link.coming g.L.Link.closed c.args.link.now l.link
    (Reaches paging l.number l.token was l.found.items)
    (ListsOnto paging was l.found.items (Err fault.TooManyPages))
    (λ s t r. too_many reads c.args.server.now c.args.route.now was l.token l.found.items s t (subst (λ n. Reaches paging n l.token was l.found.items s t) many r))
    l.invariant.told
