use Rattle.share_serve.specs.Sides.{held, side}
use Rattle.share_serve.specs.Turned.{message}
use Rattle.share_serve.proofs.Causes.{refusal_cause}
use Rattle.share_serve.proofs.Holds.{grew_itself}
use Rattle.share_serve.proofs.Loop.{due, ends_between, ends_closed, ends_cut, ends_inside, ends_refused, ends_unanswered, ends_unread, ends_unwritten, ends_wanting, goes_few, goes_on, hears}
use Rattle.share_serve.proofs.session.Session.serve_next.Goals as goal

pub returns-in-On-clause-steps : goal.returns-in-On-clause-steps
returns-in-On-clause-steps g c =
    goes_on c.args.self.now.server.now c.args.wire.now.buffer (g.S.Source.left c.args.source.now) c.args.served
    (side (g.C.Clock.coming c.args.clock.now) (held g.W.Store.objects g.W.Store.alone g.W.Store.faults g.W.Store.stored c.args.pass.now c.args.store.now) (g.K.Sink.holds c.args.sink.now) (g.K.Sink.kept c.args.sink.now))
    c.next.new.self.buffer (g.S.Source.left c.next.new.source) (due g.S.Source.left c.args.wire.now.buffer c.next.new.self.buffer c.args.source.now c.next.new.source _ c.in-Ok-Request.ensures.read) (message c.in-Ok-Request.field-0-0 c.in-Ok-Request.head c.in-Ok-Request.body.items c.in-Ok-Request.closes)
    (hears c.args.wire.now.buffer c.next.new.self.buffer (g.S.Source.left c.args.source.now) (g.S.Source.left c.next.new.source) c.in-Ok-Request.field-0-0 c.in-Ok-Request.head c.in-Ok-Request.body c.in-Ok-Request.closes (rw c.in-Ok-Request.field-0-is at c.in-Ok-Request.ensures.told))
    (side (g.C.Clock.coming c.serve_request.new.clock) (held g.W.Store.objects g.W.Store.alone g.W.Store.faults g.W.Store.stored c.serve_request.new.pass c.serve_request.new.store) (g.K.Sink.holds c.serve_request.new.sink) (g.K.Sink.kept c.serve_request.new.sink))
    (rw c.deref.ensures.value at c.in-On.ensures.turned c.in-Ok-Request.field-0-0)

pub returns-in-Last-clause-steps : goal.returns-in-Last-clause-steps
returns-in-Last-clause-steps g c =
    ends_closed c.args.self.now.server.now c.args.wire.now.buffer (g.S.Source.left c.args.source.now) c.args.served
    (side (g.C.Clock.coming c.args.clock.now) (held g.W.Store.objects g.W.Store.alone g.W.Store.faults g.W.Store.stored c.args.pass.now c.args.store.now) (g.K.Sink.holds c.args.sink.now) (g.K.Sink.kept c.args.sink.now))
    c.next.new.self.buffer (g.S.Source.left c.next.new.source) (due g.S.Source.left c.args.wire.now.buffer c.next.new.self.buffer c.args.source.now c.next.new.source _ c.in-Ok-Request.ensures.read) (message c.in-Ok-Request.field-0-0 c.in-Ok-Request.head c.in-Ok-Request.body.items c.in-Ok-Request.closes)
    (hears c.args.wire.now.buffer c.next.new.self.buffer (g.S.Source.left c.args.source.now) (g.S.Source.left c.next.new.source) c.in-Ok-Request.field-0-0 c.in-Ok-Request.head c.in-Ok-Request.body c.in-Ok-Request.closes (rw c.in-Ok-Request.field-0-is at c.in-Ok-Request.ensures.told))
    (side (g.C.Clock.coming c.serve_request.new.clock) (held g.W.Store.objects g.W.Store.alone g.W.Store.faults g.W.Store.stored c.serve_request.new.pass c.serve_request.new.store) (g.K.Sink.holds c.serve_request.new.sink) (g.K.Sink.kept c.serve_request.new.sink))
    (rw c.deref.ensures.value at c.in-Last.ensures.turned c.in-Ok-Request.field-0-0)

pub returns-in-WriteFault-clause-steps : goal.returns-in-WriteFault-clause-steps
returns-in-WriteFault-clause-steps g c =
    ends_unwritten c.args.self.now.server.now c.args.wire.now.buffer (g.S.Source.left c.args.source.now) c.args.served
    (side (g.C.Clock.coming c.args.clock.now) (held g.W.Store.objects g.W.Store.alone g.W.Store.faults g.W.Store.stored c.args.pass.now c.args.store.now) (g.K.Sink.holds c.args.sink.now) (g.K.Sink.kept c.args.sink.now))
    c.next.new.self.buffer (g.S.Source.left c.next.new.source) (due g.S.Source.left c.args.wire.now.buffer c.next.new.self.buffer c.args.source.now c.next.new.source _ c.in-Ok-Request.ensures.read) (message c.in-Ok-Request.field-0-0 c.in-Ok-Request.head c.in-Ok-Request.body.items c.in-Ok-Request.closes)
    (hears c.args.wire.now.buffer c.next.new.self.buffer (g.S.Source.left c.args.source.now) (g.S.Source.left c.next.new.source) c.in-Ok-Request.field-0-0 c.in-Ok-Request.head c.in-Ok-Request.body c.in-Ok-Request.closes (rw c.in-Ok-Request.field-0-is at c.in-Ok-Request.ensures.told))
    (side (g.C.Clock.coming c.serve_request.new.clock) (held g.W.Store.objects g.W.Store.alone g.W.Store.faults g.W.Store.stored c.serve_request.new.pass c.serve_request.new.store) (g.K.Sink.holds c.serve_request.new.sink) (g.K.Sink.kept c.serve_request.new.sink))
    (rw c.deref.ensures.value at c.in-WriteFault.ensures.turned c.in-Ok-Request.field-0-0)

pub returns-in-NoMemory-clause-steps : goal.returns-in-NoMemory-clause-steps
returns-in-NoMemory-clause-steps g c =
    ends_unanswered c.args.self.now.server.now c.args.wire.now.buffer (g.S.Source.left c.args.source.now) c.args.served
    (side (g.C.Clock.coming c.args.clock.now) (held g.W.Store.objects g.W.Store.alone g.W.Store.faults g.W.Store.stored c.args.pass.now c.args.store.now) (g.K.Sink.holds c.args.sink.now) (g.K.Sink.kept c.args.sink.now))
    c.next.new.self.buffer (g.S.Source.left c.next.new.source) (due g.S.Source.left c.args.wire.now.buffer c.next.new.self.buffer c.args.source.now c.next.new.source _ c.in-Ok-Request.ensures.read) (message c.in-Ok-Request.field-0-0 c.in-Ok-Request.head c.in-Ok-Request.body.items c.in-Ok-Request.closes)
    (hears c.args.wire.now.buffer c.next.new.self.buffer (g.S.Source.left c.args.source.now) (g.S.Source.left c.next.new.source) c.in-Ok-Request.field-0-0 c.in-Ok-Request.head c.in-Ok-Request.body c.in-Ok-Request.closes (rw c.in-Ok-Request.field-0-is at c.in-Ok-Request.ensures.told))
    (side (g.C.Clock.coming c.serve_request.new.clock) (held g.W.Store.objects g.W.Store.alone g.W.Store.faults g.W.Store.stored c.serve_request.new.pass c.serve_request.new.store) (g.K.Sink.holds c.serve_request.new.sink) (g.K.Sink.kept c.serve_request.new.sink))
    (rw c.deref.ensures.value at c.in-NoMemory.ensures.turned c.in-Ok-Request.field-0-0)

pub returns-in-Ok-Request-clause-steps : goal.returns-in-Ok-Request-clause-steps
returns-in-Ok-Request-clause-steps g c =
    ends_cut c.args.self.now.server.now c.args.wire.now.buffer (g.S.Source.left c.args.source.now) c.args.served
    (side (g.C.Clock.coming c.args.clock.now) (held g.W.Store.objects g.W.Store.alone g.W.Store.faults g.W.Store.stored c.args.pass.now c.args.store.now) (g.K.Sink.holds c.args.sink.now) (g.K.Sink.kept c.args.sink.now))
    c.next.new.self.buffer (g.S.Source.left c.next.new.source) (due g.S.Source.left c.args.wire.now.buffer c.next.new.self.buffer c.args.source.now c.next.new.source _ c.in-Ok-Request.ensures.read) (message c.in-Ok-Request.field-0-0 c.in-Ok-Request.head c.in-Ok-Request.body.items c.in-Ok-Request.closes)
    (hears c.args.wire.now.buffer c.next.new.self.buffer (g.S.Source.left c.args.source.now) (g.S.Source.left c.next.new.source) c.in-Ok-Request.field-0-0 c.in-Ok-Request.head c.in-Ok-Request.body c.in-Ok-Request.closes (rw c.in-Ok-Request.field-0-is at c.in-Ok-Request.ensures.told))
    (side (g.C.Clock.coming c.serve_request.new.clock) (held g.W.Store.objects g.W.Store.alone g.W.Store.faults g.W.Store.stored c.serve_request.new.pass c.serve_request.new.store) (g.K.Sink.holds c.serve_request.new.sink) (g.K.Sink.kept c.serve_request.new.sink))
    c.in-BodyCut.sent (rw c.deref.ensures.value at c.in-BodyCut.ensures.turned c.in-Ok-Request.field-0-0)

pub returns-in-On-clause-goes : goal.returns-in-On-clause-goes
returns-in-On-clause-goes g c = (rw c.in-Ok-Request.field-0-is at c.in-Ok-Request.ensures.after, goes_few c.args.served c.in-Ok-Request.closes c.requires.served (rw c.deref.ensures.value at c.in-On.ensures.turned c.in-Ok-Request.field-0-0).1)

pub returns-in-Ok-End-clause-grew : goal.returns-in-Ok-End-clause-grew
returns-in-Ok-End-clause-grew g c = grew_itself (held g.W.Store.objects g.W.Store.alone g.W.Store.faults g.W.Store.stored c.args.pass.now c.args.store.now) c.requires.cell.1

pub returns-in-Ok-End-clause-steps : goal.returns-in-Ok-End-clause-steps
returns-in-Ok-End-clause-steps g c =
    ends_between c.args.self.now.server.now c.args.wire.now.buffer (g.S.Source.left c.args.source.now) c.args.served
    (side (g.C.Clock.coming c.args.clock.now) (held g.W.Store.objects g.W.Store.alone g.W.Store.faults g.W.Store.stored c.args.pass.now c.args.store.now) (g.K.Sink.holds c.args.sink.now) (g.K.Sink.kept c.args.sink.now))
    c.next.new.self.buffer (g.S.Source.left c.next.new.source) (due g.S.Source.left c.args.wire.now.buffer c.next.new.self.buffer c.args.source.now c.next.new.source _ c.in-Ok-End.ensures.read) (rw c.in-Ok-End.field-0-is at c.in-Ok-End.ensures.told)

pub returns-in-Ok-Truncated-clause-grew : goal.returns-in-Ok-Truncated-clause-grew
returns-in-Ok-Truncated-clause-grew g c = grew_itself (held g.W.Store.objects g.W.Store.alone g.W.Store.faults g.W.Store.stored c.args.pass.now c.args.store.now) c.requires.cell.1

pub returns-in-Ok-Truncated-clause-steps : goal.returns-in-Ok-Truncated-clause-steps
returns-in-Ok-Truncated-clause-steps g c =
    ends_inside c.args.self.now.server.now c.args.wire.now.buffer (g.S.Source.left c.args.source.now) c.args.served
    (side (g.C.Clock.coming c.args.clock.now) (held g.W.Store.objects g.W.Store.alone g.W.Store.faults g.W.Store.stored c.args.pass.now c.args.store.now) (g.K.Sink.holds c.args.sink.now) (g.K.Sink.kept c.args.sink.now))
    c.next.new.self.buffer (g.S.Source.left c.next.new.source) (due g.S.Source.left c.args.wire.now.buffer c.next.new.self.buffer c.args.source.now c.next.new.source _ c.in-Ok-Truncated.ensures.read) c.in-Ok-Truncated.at (rw c.in-Ok-Truncated.field-0-is at c.in-Ok-Truncated.ensures.told)

pub returns-in-Ok-Bad-clause-steps : goal.returns-in-Ok-Bad-clause-steps
returns-in-Ok-Bad-clause-steps g c =
    ends_refused c.args.self.now.server.now c.args.wire.now.buffer (g.S.Source.left c.args.source.now) c.args.served
    (side (g.C.Clock.coming c.args.clock.now) (held g.W.Store.objects g.W.Store.alone g.W.Store.faults g.W.Store.stored c.args.pass.now c.args.store.now) (g.K.Sink.holds c.args.sink.now) (g.K.Sink.kept c.args.sink.now))
    c.next.new.self.buffer (g.S.Source.left c.next.new.source) (due g.S.Source.left c.args.wire.now.buffer c.next.new.self.buffer c.args.source.now c.next.new.source _ c.in-Ok-Bad.ensures.read) c.in-Ok-Bad.at c.in-Ok-Bad.flaw
    (side (g.C.Clock.coming c.refuse.new.clock) (held g.W.Store.objects g.W.Store.alone g.W.Store.faults g.W.Store.stored c.args.pass.now c.args.store.now) (g.K.Sink.holds c.refuse.new.sink) (g.K.Sink.kept c.refuse.new.sink)) c.refuse.result
    (rw c.in-Ok-Bad.field-0-is at c.in-Ok-Bad.ensures.told) (c.refuse.ensures.ends (held g.W.Store.objects g.W.Store.alone g.W.Store.faults g.W.Store.stored c.args.pass.now c.args.store.now))

pub returns-in-Ok-Bad-clause-goes : goal.returns-in-Ok-Bad-clause-goes
returns-in-Ok-Bad-clause-goes g c =
    refusal_cause c.refuse.result c.in-Ok-Bad.at c.in-Ok-Bad.flaw c.args.served
    (side (g.C.Clock.coming c.args.clock.now) (held g.W.Store.objects g.W.Store.alone g.W.Store.faults g.W.Store.stored c.args.pass.now c.args.store.now) (g.K.Sink.holds c.args.sink.now) (g.K.Sink.kept c.args.sink.now))
    (side (g.C.Clock.coming c.refuse.new.clock) (held g.W.Store.objects g.W.Store.alone g.W.Store.faults g.W.Store.stored c.args.pass.now c.args.store.now) (g.K.Sink.holds c.refuse.new.sink) (g.K.Sink.kept c.refuse.new.sink))
    (g.S.Source.faults c.args.source.now) (g.S.Source.faults c.next.new.source) (g.K.Sink.faults c.args.sink.now) (g.K.Sink.faults c.refuse.new.sink) (g.W.Store.objects c.args.store.now) (g.W.Store.faults c.args.store.now) (g.W.Store.faults c.args.store.now)
    (c.refuse.ensures.ends (held g.W.Store.objects g.W.Store.alone g.W.Store.faults g.W.Store.stored c.args.pass.now c.args.store.now)) c.refuse.ensures.cause

pub returns-in-Ok-ReadFault-clause-steps : goal.returns-in-Ok-ReadFault-clause-steps
returns-in-Ok-ReadFault-clause-steps g c =
    ends_unread c.args.self.now.server.now c.args.wire.now.buffer (g.S.Source.left c.args.source.now) c.args.served
    (side (g.C.Clock.coming c.args.clock.now) (held g.W.Store.objects g.W.Store.alone g.W.Store.faults g.W.Store.stored c.args.pass.now c.args.store.now) (g.K.Sink.holds c.args.sink.now) (g.K.Sink.kept c.args.sink.now))
    c.next.new.self.buffer (g.S.Source.left c.next.new.source) (due g.S.Source.left c.args.wire.now.buffer c.next.new.self.buffer c.args.source.now c.next.new.source _ c.in-Ok-ReadFault.ensures.read)

pub returns-clause-steps : goal.returns-clause-steps
returns-clause-steps g c =
    ends_wanting c.args.self.now.server.now c.args.wire.now.buffer (g.S.Source.left c.args.source.now) c.args.served
    (side (g.C.Clock.coming c.args.clock.now) (held g.W.Store.objects g.W.Store.alone g.W.Store.faults g.W.Store.stored c.args.pass.now c.args.store.now) (g.K.Sink.holds c.args.sink.now) (g.K.Sink.kept c.args.sink.now))
    c.next.new.self.buffer (g.S.Source.left c.next.new.source) (due g.S.Source.left c.args.wire.now.buffer c.next.new.self.buffer c.args.source.now c.next.new.source _ c.in-Err.ensures.read)
