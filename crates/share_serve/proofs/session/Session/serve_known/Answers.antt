use Rattle.std.proofs.Common.{sym, ap, ◌∙◌, subst}
use Rattle.share_serve.specs.CallerViews.{by_of}
use Rattle.share_serve.specs.Callers.{By, by_request}
use Rattle.share_serve.specs.Sides.{held, shelved}
use Rattle.share_serve.specs.Turned.{IsGiven}
use Rattle.share_serve.proofs.Cuts.{cut_never, cut_then}
use Rattle.share_serve.proofs.Holds.{replied}
use Rattle.share_serve.proofs.session.Session.serve_known.Goals as goal

pub returns-in-Call-clause-given : goal.returns-in-Call-clause-given
returns-in-Call-clause-given g c =
    subst (λ (b : By). IsGiven c.serve_call.result c.args.self.now.server.now c.args.request.now b c.args.delivery
    (held g.W.Store.objects g.W.Store.alone g.W.Store.faults g.W.Store.stored c.args.pass.now c.args.store.now)
    (held g.W.Store.objects g.W.Store.alone g.W.Store.faults g.W.Store.stored c.serve_call.new.pass c.serve_call.new.store)
    (g.K.Sink.holds c.args.sink.now) (g.K.Sink.holds c.serve_call.new.sink))
    (ap by_of (sym c.in-Call.is) ∙ c.by_request.ensures) (c.serve_call.ensures.given c.args.self.now.server.now c.args.request.now)

pub returns-in-Call-clause-cut : goal.returns-in-Call-clause-cut
returns-in-Call-clause-cut g c = cut_never c.serve_call.result _ c.serve_call.ensures.uncut

pub returns-in-Ok-clause-cut : goal.returns-in-Ok-clause-cut
returns-in-Ok-clause-cut g c =
    cut_then c.reply-delivered.result _ _ (λ is. (sym c.by_request.ensures ∙ ap by_of c.in-View.is, is)) (c.reply-delivered.ensures.cut _ c.in-Ok.ensures.seen)

pub returns-in-Ok-clause-grew : goal.returns-in-Ok-clause-grew
returns-in-Ok-clause-grew g c =
    replied c.args.pass.now c.look.new.pass (shelved g.W.Store.objects g.W.Store.alone g.W.Store.faults g.W.Store.stored c.args.store.now) (shelved g.W.Store.objects g.W.Store.alone g.W.Store.faults g.W.Store.stored c.reply-delivered.new.store)
    c.look.ensures.same (record { looked = c.reply-delivered.ensures.looked; stored = c.reply-delivered.ensures.stored }) c.reply-delivered.ensures.later.0
