use Rattle.std.proofs.Common.{◌∙◌}
use Rattle.share_serve.proofs.Delivering.{copy_written, head_written, no_part}
use Rattle.share_serve.specs.declared.send.Sent.TheVariants as sent
use Rattle.share_serve.proofs.file.Sending.send_range.Goals as goal

pub returns-in-Whole-clause-sent : goal.returns-in-Whole-clause-sent
returns-in-Whole-clause-sent g c =
    copy_written c.args.self.now.name.now c.args.range c.len.ensures.good c.args.self.now.delivery c.args.status c.deref.result.now (c.deref.ensures.value ∙ rw c.len.ensures.value at c.in-Ok.ensures) (g.W.Store.objects c.send_copy.new.store) c.send_copy.result
    (g.K.Sink.holds c.args.sink.now) (g.K.Sink.holds c.send_text.new.sink) (g.K.Sink.holds c.send_copy.new.sink) c.in-Whole.ensures.sent c.send_copy.ensures.sent

pub returns-in-WriteFault-clause-sent : goal.returns-in-WriteFault-clause-sent
returns-in-WriteFault-clause-sent g c =
    (head_written c.args.self.now.name.now c.args.range c.len.ensures.good c.args.self.now.delivery c.args.status c.deref.result.now (c.deref.ensures.value ∙ rw c.len.ensures.value at c.in-Ok.ensures) (g.W.Store.objects c.args.store.now) sent.WriteFault c.requires.there (g.K.Sink.holds c.args.sink.now) (g.K.Sink.holds c.send_text.new.sink) c.in-WriteFault.ensures.sent).0

pub returns-clause-sent : goal.returns-clause-sent
returns-clause-sent g c =
    (head_written c.args.self.now.name.now c.args.range c.len.ensures.good c.args.self.now.delivery c.args.status c.deref.result.now (c.deref.ensures.value ∙ rw c.len.ensures.value at c.in-Ok.ensures) (g.W.Store.objects c.args.store.now) sent.NoMemory c.requires.there (g.K.Sink.holds c.args.sink.now) (g.K.Sink.holds c.send_text.new.sink) c.in-NoMemory.ensures.sent).1

pub returns-in_default-clause-sent : goal.returns-in_default-clause-sent
returns-in_default-clause-sent g c =
    no_part c.args.self.now.delivery c.args.status c.args.self.now.name.now c.args.range (g.W.Store.objects c.args.store.now) c.requires.there (g.K.Sink.holds c.args.sink.now)
