use Rattle.std.proofs.Common.{Bool, true, refl, subst, ◌∙◌}
use Rattle.std.specs.Bool.{OnTrue}
use Rattle.http_message.proofs.FieldFacts.{by_err}
use Rattle.share_request.specs.Requests.{request_in}
use Rattle.share_request.specs.declared.asked.Request.{Request}
use Rattle.share_serve.specs.Callers.{by_request}
use Rattle.share_serve.specs.Sends.{CutOnly}
use Rattle.share_serve.specs.Sides.{held, hold, shelved}
use Rattle.share_serve.specs.Strangers.{IsStrangers}
use Rattle.share_serve.specs.Turned.{IsGiven}
use Rattle.share_serve.specs.Turns.{FollowsLink}
use Rattle.share_serve.proofs.StrangerLemmas.{given_on, heard, lacks_on, stranger_refused}
use Rattle.share_serve.proofs.session.Session.serve_read.Goals as goal

-- a stranger

pub returns-then-is_stranger-clause-given : goal.returns-then-is_stranger-clause-given
returns-then-is_stranger-clause-given g c =
    let server = c.args.self.now.server.now in
    let asked = request_in c.args.head.now c.args.body.now in
    let shelf = shelved g.W.Store.objects g.W.Store.alone g.W.Store.faults g.W.Store.stored c.args.store.now in
    let mid = c.is_stranger.new.pass in
    let new = held g.W.Store.objects g.W.Store.alone g.W.Store.faults g.W.Store.stored c.serve_call.new.pass c.serve_call.new.store in
    let w = g.K.Sink.holds c.args.sink.now in
    let w' = g.K.Sink.holds c.serve_call.new.sink in
    let strangers : IsStrangers server mid.seen c.args.head.now = subst (λ (b : Bool). OnTrue b (IsStrangers server mid.seen c.args.head.now)) c.if-is_stranger.true c.in_ok-is_stranger.ensures.stranger in
    given_on server asked c.args.pass.now mid shelf new c.is_stranger.ensures.added (by_request server asked) c.serve_call.result c.args.delivery w w'
    (heard c.args.head.now c.args.body.now server c.args.pass.now mid c.is_stranger.ensures.heard)
    (stranger_refused c.args.head.now c.args.body.now server c.args.delivery c.serve_call.result (hold mid shelf) new w w' strangers (c.serve_call.ensures.given server asked))

pub returns-in_err-is_stranger-clause-lacks : goal.returns-in_err-is_stranger-clause-lacks
returns-in_err-is_stranger-clause-lacks g c =
    let server = c.args.self.now.server.now in
    let asked = request_in c.args.head.now c.args.body.now in
    let shelf = shelved g.W.Store.objects g.W.Store.alone g.W.Store.faults g.W.Store.stored c.args.store.now in
    by_err c.from_residual.result _ (
      lacks_on (by_request server asked) c.args.delivery.moment c.args.pass.now c.is_stranger.new.pass shelf c.is_stranger.ensures.added
          (heard c.args.head.now c.args.body.now server c.args.pass.now c.is_stranger.new.pass c.is_stranger.ensures.heard),
      refl,
    )

pub returns-in_err-request-clause-lacks : goal.returns-in_err-request-clause-lacks
returns-in_err-request-clause-lacks g c =
    let server = c.args.self.now.server.now in
    let asked = request_in c.args.head.now c.args.body.now in
    let shelf = shelved g.W.Store.objects g.W.Store.alone g.W.Store.faults g.W.Store.stored c.args.store.now in
    by_err c.from_residual-in_err-request.result _ (
      lacks_on (by_request server asked) c.args.delivery.moment c.args.pass.now c.is_stranger.new.pass shelf c.is_stranger.ensures.added
          (heard c.args.head.now c.args.body.now server c.args.pass.now c.is_stranger.new.pass c.is_stranger.ensures.heard),
      refl,
    )

-- a request that is read

pub returns-clause-given : goal.returns-clause-given
returns-clause-given g c =
    let server = c.args.self.now.server.now in
    let asked = request_in c.args.head.now c.args.body.now in
    let shelf = shelved g.W.Store.objects g.W.Store.alone g.W.Store.faults g.W.Store.stored c.args.store.now in
    let mid = c.is_stranger.new.pass in
    let new = held g.W.Store.objects g.W.Store.alone g.W.Store.faults g.W.Store.stored c.serve_known.new.pass c.serve_known.new.store in
    let w = g.K.Sink.holds c.args.sink.now in
    let w' = g.K.Sink.holds c.serve_known.new.sink in
    given_on server asked c.args.pass.now mid shelf new c.is_stranger.ensures.added (by_request server asked) c.serve_known.result c.args.delivery w w'
    (heard c.args.head.now c.args.body.now server c.args.pass.now mid c.is_stranger.ensures.heard)
    (subst (λ (q : Request). IsGiven c.serve_known.result server q (by_request server q) c.args.delivery (hold mid shelf) new w w') (c.deref.ensures ∙ c.in_ok-request.ensures) c.serve_known.ensures.given)

pub returns-clause-cut : goal.returns-clause-cut
returns-clause-cut g c =
    subst (λ (q : Request). CutOnly c.serve_known.result (FollowsLink c.args.self.now.server.now q c.args.delivery.moment c.serve_known.new.pass.seen)) (c.deref.ensures ∙ c.in_ok-request.ensures) c.serve_known.ensures.cut
