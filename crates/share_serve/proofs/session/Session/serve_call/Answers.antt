use Rattle.share_serve.specs.CallerViews.{by_call}
use Rattle.share_serve.specs.Sides.{held}
use Rattle.share_serve.proofs.Requests.{given_whole}
use Rattle.share_serve.proofs.session.Session.serve_call.Goals as goal

pub returns-clause-given : goal.returns-clause-given
returns-clause-given g c = λ server asked.
    given_whole c.send_whole-delivered.result server asked (by_call c.args.call) c.args.delivery
    (held g.W.Store.objects g.W.Store.alone g.W.Store.faults g.W.Store.stored c.args.pass.now c.args.store.now)
    (held g.W.Store.objects g.W.Store.alone g.W.Store.faults g.W.Store.stored c.answer-response.new.pass c.answer-response.new.store)
    (g.K.Sink.holds c.args.sink.now) (g.K.Sink.holds c.send_whole-delivered.new.sink) c.answer-response.result (c.answer-response.ensures.answered server asked) c.send_whole-delivered.ensures.sent
