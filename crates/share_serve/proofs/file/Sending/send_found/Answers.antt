use Rattle.std.proofs.Common.{[], sym, subst}
use Rattle.share_serve.specs.Responses.{file_response}
use Rattle.share_serve.specs.Sends.{IsWritten}
use Rattle.share_serve.specs.declared.send.Delivered.{Delivered}
use Rattle.share_serve.proofs.Delivering.{all_found, all_range, empty_found, no_range, out_found, part_found, written_of}
use Rattle.share_serve.proofs.file.Sending.send_found.Goals as goal

pub returns-in-Some-clause-sent : goal.returns-in-Some-clause-sent
returns-in-Some-clause-sent g c =
    let all = all_range c.args.size c.saturating_sub.result c.saturating_sub.ensures c.in-Some.range (sym c.in-Some.ensures) in
    all_found c.send_range.result c.args.self.now.delivery c.args.self.now.name.now c.args.span c.args.size (g.W.Store.objects c.send_range.new.store) (g.K.Sink.holds c.args.sink.now) (g.K.Sink.holds c.send_range.new.sink)
    c.in-Some.range (sym c.in-Whole.ensures.value) all.0 all.1 all.2 c.send_range.ensures.sent

pub returns-in-None-clause-sent : goal.returns-in-None-clause-sent
returns-in-None-clause-sent g c =
    let zero = no_range c.args.size c.saturating_sub.result c.saturating_sub.ensures (sym c.in-None.ensures) in
    let d = c.args.self.now.delivery in
    let w = g.K.Sink.holds c.args.sink.now in
    let w' = g.K.Sink.holds c.send_response.new.sink in
    let sent = rw c.empty_response-empty.ensures at c.send_response.ensures.sent in
    empty_found c.of_sent.result d c.args.self.now.name.now c.args.span c.args.size (g.W.Store.objects c.args.store.now) w w' (sym c.in-Whole.ensures.value) zero c.requires.there
    (subst (λ (z : Delivered). IsWritten z d (file_response []) w w') (sym c.of_sent.ensures) (written_of c.send_response.result d (file_response []) w w' sent))

pub returns-in-Part-clause-sent : goal.returns-in-Part-clause-sent
returns-in-Part-clause-sent g c =
    part_found c.send_range-in-Part.result c.args.self.now.delivery c.args.self.now.name.now c.args.span c.args.size (g.W.Store.objects c.send_range-in-Part.new.store) (g.K.Sink.holds c.args.sink.now) (g.K.Sink.holds c.send_range-in-Part.new.sink)
    c.in-Part.range (sym c.in-Part.ensures.value) c.in-Part.ensures.within.1 c.send_range-in-Part.ensures.sent

pub returns-in-Out-clause-sent : goal.returns-in-Out-clause-sent
returns-in-Out-clause-sent g c =
    out_found c.send_out.result c.args.self.now.delivery c.args.self.now.name.now c.args.span c.args.size (g.W.Store.objects c.args.store.now) (g.K.Sink.holds c.args.sink.now) (g.K.Sink.holds c.send_out.new.sink)
    (sym c.in-Out.ensures.value) c.requires.there c.send_out.ensures.sent
