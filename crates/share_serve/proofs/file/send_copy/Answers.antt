use Rattle.std.proofs.Common.{subst, sym}
use Rattle.share_serve.specs.Sends.{CopySent}
use Rattle.share_serve.specs.declared.send.Delivered.{Delivered}
use Rattle.share_serve.proofs.Delivering.{no_copy}
use Rattle.share_serve.proofs.file.send_copy.Goals as goal

pub returns-then-to_head-clause-sent : goal.returns-then-to_head-clause-sent
returns-then-to_head-clause-sent g c =
    subst (λ (z : Delivered). CopySent z c.args.to_head c.args.name.now c.args.range (g.W.Store.objects c.args.store.now) (g.K.Sink.holds c.args.sink.now) (g.K.Sink.holds c.flush.new.sink)) (sym c.of_sent.ensures)
    (no_copy c.flush.result c.args.name.now c.args.range (g.W.Store.objects c.args.store.now) c.args.to_head (g.K.Sink.holds c.args.sink.now) (g.K.Sink.holds c.flush.new.sink) c.requires.there c.if-to_head.true c.flush.ensures.held)
