use Rattle.std.proofs.Common.{◌≡◌, ◌<◌, length, Some, ap, ◌∙◌, arith, length-append}
use Rattle.std.specs.Option.{option_to_list}
use Rattle.std.proofs.lemmas.List.{length-set}
use Rattle.share_commands.proofs.Seating.{it_failed, next_pass, next_rest, one_has, one_keeps, one_more}
use Rattle.share_commands.proofs.serve.make_all_ready.Goals as goal

pub returns-then-not-make_ready-clause-waits : goal.returns-then-not-make_ready-clause-waits
returns-then-not-make_ready-clause-waits g c =
    let i = c.loop-desk.invariant in
    one_more g.N.Listener.coming g.N.Listener.closed g.N.Listener.faults g.N.Listener.listens g.C.Clock.coming g.W.Store.objects g.W.Store.alone g.W.Store.faults g.W.Store.stored c.args.desks.now c.loop-desk.desks c.loop-desk.desk-index c.desk-item.result c.make_ready.new.desk
    i.count c.loop-desk-test.true i.waits c.make_ready.ensures.waits

pub returns-then-not-make_ready-clause-fails : goal.returns-then-not-make_ready-clause-fails
returns-then-not-make_ready-clause-fails g c =
    let i = c.loop-desk.invariant in
    it_failed g.N.Listener.coming g.N.Listener.closed g.N.Listener.faults g.N.Listener.listens g.C.Clock.coming g.W.Store.objects g.W.Store.alone g.W.Store.faults g.W.Store.stored c.args.desks.now c.loop-desk.desks c.loop-desk.desk-index c.desk-item.result c.make_ready.new.desk
    i.count c.loop-desk-test.true i.waits c.make_ready.ensures.waits c.if-not-make_ready.ensures.fails

pub loop-desk-preserved : goal.loop-desk-preserved
loop-desk-preserved g c =
    let i = c.loop-desk.invariant in
    let n = c.next.ensures in
    let k = c.loop-desk.desk-index in
    let enough : k < length c.args.passes.items = (let a = c.requires in let b = c.loop-desk-test.true in omega arith) in
    let here : k < length c.loop-desk.desks = (let a = i.count in let b = c.loop-desk-test.true in omega arith) in record {
      count = length-set c.loop-desk.desks k c.make_ready.new.desk ∙ i.count;
      rest = next_rest c.args.passes.items c.loop-desk.passes.rest.items c.next.new.self.rest.items c.loop-desk.passes.rest.len k c.next.result i.rest n.items i.len n.variant.1 enough;
      len = (let a = length-append (option_to_list c.next.result) c.next.new.self.rest.items in let b = ap length n.items in let d = n.len in let e = i.len in omega arith);
      waits = one_more g.N.Listener.coming g.N.Listener.closed g.N.Listener.faults g.N.Listener.listens g.C.Clock.coming g.W.Store.objects g.W.Store.alone g.W.Store.faults g.W.Store.stored c.args.desks.now c.loop-desk.desks k c.desk-item.result c.make_ready.new.desk
          i.count c.loop-desk-test.true i.waits c.make_ready.ensures.waits;
      listens = one_keeps (λ d. g.N.Listener.listens d.door ≡ Some c.args.port) c.loop-desk.desks k c.make_ready.new.desk here c.if-not-make_ready.ensures.listens i.listens;
      ready = one_has (λ d. d.pass) c.args.passes.items c.loop-desk.desks k c.make_ready.new.desk c.next.result here c.make_ready.ensures.pass
          (λ p. (next_pass c.args.passes.items c.loop-desk.passes.rest.items c.next.new.self.rest.items c.loop-desk.passes.rest.len k c.next.result p i.rest n.items i.len n.variant.1 enough).1) i.ready;
    }
