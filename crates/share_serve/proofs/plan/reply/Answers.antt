use Rattle.std.proofs.Common.{◌≡◌, ◌∙◌, ℕ, Option, ap, subst}
use Rattle.share_book.specs.declared.look.Seen.{Seen}
use Rattle.share_reply.specs.Bodies.{reply_of}
use Rattle.share_reply.specs.Formats.{format_of}
use Rattle.share_reply.specs.Chains.{NextIsSpelt}
use Rattle.share_reply.specs.Replies.{answer_from, answered}
use Rattle.share_serve.specs.Sides.{shelved}
use Rattle.share_serve.proofs.Delivering.{answer_written}
use Rattle.share_serve.proofs.plan.reply.Goals as goal

pub returns-in-Ok-clause-sent : goal.returns-in-Ok-clause-sent
returns-in-Ok-clause-sent g c view is =
    let keys = c.args.keys.now in
    let request = c.args.request.now in
    let moment = c.args.delivery.moment in
    let at : c.of_small-now.result ≡ moment = c.of_small-now.ensures in
    let spelt : NextIsSpelt keys (answered keys view moment request) =
    subst (λ (m : ℕ). NextIsSpelt keys (answered keys view m request)) at (subst (λ (s : Option Seen). NextIsSpelt keys (answer_from keys c.of_small-now.result request s)) is c.in-Ok.ensures.spelt) in
    answer_written keys (format_of request) c.send_plan.result c.args.delivery c.in-Ok.plan (answered keys view moment request) (shelved g.W.Store.objects g.W.Store.alone g.W.Store.faults g.W.Store.stored c.args.store.now)
    (shelved g.W.Store.objects g.W.Store.alone g.W.Store.faults g.W.Store.stored c.send_plan.new.store) (g.K.Sink.holds c.args.sink.now) (g.K.Sink.holds c.send_plan.new.sink)
    (c.in-Ok.ensures.view view is ∙ ap (λ m. reply_of keys (format_of request) (answered keys view m request)) at) spelt c.send_plan.ensures.sent
