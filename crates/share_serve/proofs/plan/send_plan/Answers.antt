use Rattle.share_serve.specs.Sides.{shelved}
use Rattle.share_serve.proofs.Delivering.{file_reply, lines_written}
use Rattle.share_serve.proofs.plan.send_plan.Goals as goal

pub returns-in-Lines-clause-sent : goal.returns-in-Lines-clause-sent
returns-in-Lines-clause-sent g c =
    lines_written c.send_lines.result c.of_sent.result c.of_sent.ensures c.args.delivery c.in-Lines.version c.in-Lines.format c.in-Lines.lines c.args.plan c.in-Lines.is (shelved g.W.Store.objects g.W.Store.alone g.W.Store.faults g.W.Store.stored c.args.store.now)
    (g.K.Sink.holds c.args.sink.now) (g.K.Sink.holds c.send_lines.new.sink) c.send_lines.ensures.sent

pub returns-in-File-clause-sent : goal.returns-in-File-clause-sent
returns-in-File-clause-sent g c =
    file_reply c.send_file.result c.args.delivery _ c.in-File.span c.args.plan c.in-File.is (shelved g.W.Store.objects g.W.Store.alone g.W.Store.faults g.W.Store.stored c.args.store.now)
    (shelved g.W.Store.objects g.W.Store.alone g.W.Store.faults g.W.Store.stored c.send_file.new.store) (g.K.Sink.holds c.args.sink.now) (g.K.Sink.holds c.send_file.new.sink) c.send_file.ensures.sent
