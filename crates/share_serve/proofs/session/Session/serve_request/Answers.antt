use Rattle.std.proofs.Common.{◌≡◌, sym, subst}
use Rattle.share_serve.specs.Sides.{held, side}
use Rattle.share_serve.specs.Turned.{IsTurned, message}
use Rattle.share_serve.specs.Turns.{delivery}
use Rattle.share_serve.specs.declared.response.Delivery.{Delivery}
use Rattle.share_serve.specs.declared.serve.Turned.{Turned}
use Rattle.share_serve.proofs.Requests.{turned}
use Rattle.share_serve.proofs.session.Session.serve_request.Goals as goal

pub returns-in-Ok-clause-turned : goal.returns-in-Ok-clause-turned
returns-in-Ok-clause-turned g c = λ at.
    let m = message at c.args.head.now c.args.body.now c.args.closes in
    let old = held g.W.Store.objects g.W.Store.alone g.W.Store.faults g.W.Store.stored c.args.pass.now c.args.store.now in
    let new = held g.W.Store.objects g.W.Store.alone g.W.Store.faults g.W.Store.stored c.serve_read-answer.new.pass c.serve_read-answer.new.store in
    let w = g.K.Sink.holds c.args.sink.now in
    let w' = g.K.Sink.holds c.serve_read-answer.new.sink in
    let k = g.K.Sink.kept c.args.sink.now in
    let k' = g.K.Sink.kept c.serve_read-answer.new.sink in
    let d : Delivery = record { moment = c.now-moment.result; closes = c.closes_after.result; to_head = c.is_head.result } in
    let is : d ≡ delivery c.args.served m c.now-moment.result = λ i. record { moment = c.now-moment.result; closes = c.closes_after.ensures i; to_head = c.is_head.ensures i } in
    subst (λ (z : Turned). IsTurned z c.args.self.now.server.now c.args.served m (side (g.C.Clock.coming c.args.clock.now) old w k) (side (g.C.Clock.coming c.now-moment.new.self) new w' k')) (sym c.turned_by.ensures)
    (turned c.args.self.now.server.now c.args.served m c.now-moment.result (g.C.Clock.coming c.args.clock.now) (g.C.Clock.coming c.now-moment.new.self) old new w w' k k' (g.K.Sink.faults c.args.sink.now) (g.K.Sink.faults c.serve_read-answer.new.sink) c.now-moment.ensures.told c.serve_read-answer.ensures.grew
    c.in-Ok.delivered d is c.in-Ok.ensures.given c.in-Ok.ensures.out c.in-Ok.ensures.cause c.in-Ok.ensures.cut)
