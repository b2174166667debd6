use Rattle.std.proofs.Common.{◌≡◌, ◌∙◌, ap, length, subst, List, ℕ}
use Rattle.share_serve.specs.Responses.{body_sent}
use Rattle.share_serve.specs.Sends.{IsSent}
use Rattle.share_serve.proofs.Sent.{head_in_part, response_sent}
use Rattle.share_serve.proofs.send.send_response.Goals as goal

pub returns-in-Whole-clause-sent : goal.returns-in-Whole-clause-sent
returns-in-Whole-clause-sent g c =
    let body : c.as_bytes-body.result.now ≡ c.args.response.now.body = c.as_bytes-body.ensures.value ∙ c.as_str.ensures in
    response_sent c.args.delivery c.args.response.now c.deref.result.now (length c.as_bytes-body.result.now) (ap length body) (c.deref.ensures.value ∙ c.in-Ok.ensures)
    c.send_body.result (g.K.Sink.holds c.args.sink.now) (g.K.Sink.holds c.send_text.new.sink) (g.K.Sink.holds c.send_body.new.sink) c.in-Whole.ensures.sent
    (subst (λ (z : List ℕ). IsSent c.send_body.result (body_sent c.args.delivery.to_head z) (g.K.Sink.holds c.send_text.new.sink) (g.K.Sink.holds c.send_body.new.sink)) body c.send_body.ensures.sent)

pub returns-in-WriteFault-clause-sent : goal.returns-in-WriteFault-clause-sent
returns-in-WriteFault-clause-sent g c =
    let body : c.as_bytes-body.result.now ≡ c.args.response.now.body = c.as_bytes-body.ensures.value ∙ c.as_str.ensures in
    head_in_part c.args.delivery c.args.response.now c.deref.result.now (length c.as_bytes-body.result.now) (ap length body) (c.deref.ensures.value ∙ c.in-Ok.ensures)
    (g.K.Sink.holds c.args.sink.now) (g.K.Sink.holds c.send_text.new.sink) c.in-WriteFault.ensures.sent

pub returns-clause-sent : goal.returns-clause-sent
returns-clause-sent g c =
    let body : c.as_bytes-body.result.now ≡ c.args.response.now.body = c.as_bytes-body.ensures.value ∙ c.as_str.ensures in
    head_in_part c.args.delivery c.args.response.now c.deref.result.now (length c.as_bytes-body.result.now) (ap length body) (c.deref.ensures.value ∙ c.in-Ok.ensures)
    (g.K.Sink.holds c.args.sink.now) (g.K.Sink.holds c.send_text.new.sink) c.in-NoMemory.ensures.sent
