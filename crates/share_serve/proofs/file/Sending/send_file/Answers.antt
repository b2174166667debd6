use Rattle.std.proofs.Common.{◌∙◌}
use Rattle.log_store.proofs.Growing.{looked_more, looked_once}
use Rattle.share_serve.specs.Sides.{shelved}
use Rattle.share_serve.proofs.Delivering.{failed_writes, file_writes, gone_writes}
use Rattle.share_serve.proofs.file.Sending.send_file.Goals as goal

pub returns-in-Size-clause-looked : goal.returns-in-Size-clause-looked
returns-in-Size-clause-looked g c = looked_more _ _ _ _ _ _ (looked_once _ _ _ _ c.in-Size.ensures.size.0 c.in-Size.ensures.stays) c.send_found.ensures.looked

pub returns-in-Size-clause-sent : goal.returns-in-Size-clause-sent
returns-in-Size-clause-sent g c =
    let looked = looked_more _ _ _ _ _ _ (looked_once _ _ _ _ c.in-Size.ensures.size.0 c.in-Size.ensures.stays) c.send_found.ensures.looked in
    file_writes c.send_found.result c.args.self.now.delivery c.args.self.now.name.now c.args.span (shelved g.W.Store.objects g.W.Store.alone g.W.Store.faults g.W.Store.stored c.args.store.now)
    (shelved g.W.Store.objects g.W.Store.alone g.W.Store.faults g.W.Store.stored c.send_found.new.store) (g.K.Sink.holds c.args.sink.now) (g.K.Sink.holds c.send_found.new.sink)
    (record { looked = looked; stored = c.send_found.ensures.stored ∙ c.in-Size.ensures.stored }) c.send_found.ensures.sent

pub returns-in-Absent-clause-sent : goal.returns-in-Absent-clause-sent
returns-in-Absent-clause-sent g c =
    gone_writes c.send_refusal.result c.args.self.now.delivery c.args.self.now.name.now c.args.span (shelved g.W.Store.objects g.W.Store.alone g.W.Store.faults g.W.Store.stored c.args.store.now)
    (shelved g.W.Store.objects g.W.Store.alone g.W.Store.faults g.W.Store.stored c.size.new.self) (g.K.Sink.holds c.args.sink.now) (g.K.Sink.holds c.send_refusal.new.sink)
    (record { looked = looked_once _ _ _ _ c.in-Absent.ensures.size.0 c.in-Absent.ensures.stays; stored = c.in-Absent.ensures.stored }) c.in-Absent.ensures.size.1 c.send_refusal.ensures.sent

pub returns-clause-sent : goal.returns-clause-sent
returns-clause-sent g c =
    failed_writes c.send_refusal-in-Failed.result c.args.self.now.delivery c.args.self.now.name.now c.args.span (shelved g.W.Store.objects g.W.Store.alone g.W.Store.faults g.W.Store.stored c.args.store.now)
    (shelved g.W.Store.objects g.W.Store.alone g.W.Store.faults g.W.Store.stored c.size.new.self) (g.K.Sink.holds c.args.sink.now) (g.K.Sink.holds c.send_refusal-in-Failed.new.sink)
    (record { looked = looked_once _ _ _ _ c.in-Failed.ensures.size c.in-Failed.ensures.stays; stored = c.in-Failed.ensures.stored }) c.in-Failed.ensures.cause.rose c.send_refusal-in-Failed.ensures.sent
