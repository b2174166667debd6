use Rattle.std.proofs.Common.{Some, ap, ◌∙◌}
use Rattle.response_text.specs.declared.status.Status.TheVariants as status
use Rattle.share_reply.specs.Formats.{body_of}
use Rattle.share_serve.specs.Responses.{lines_response, response_head}
use Rattle.share_serve.proofs.Sent.{head_in_part, response_sent}
use Rattle.share_serve.proofs.send.send_lines.Goals as goal

pub returns-in-Whole-clause-sent : goal.returns-in-Whole-clause-sent
returns-in-Whole-clause-sent g c =
    response_sent c.args.delivery (lines_response c.args.format c.args.version (body_of c.args.lines.now)) c.deref.result.now c.in-Ok.length c.in-Ok.ensures (c.deref.ensures.value ∙ c.in-Ok-head_of.ensures ∙ ap (λ form. response_head c.args.delivery (status.Ok (Some c.args.version)) form c.in-Ok.length) c.lines_form.ensures)
    c.send_body_lines.result (g.K.Sink.holds c.args.sink.now) (g.K.Sink.holds c.send_text.new.sink) (g.K.Sink.holds c.send_body_lines.new.sink) c.in-Whole.ensures.sent c.send_body_lines.ensures.sent

pub returns-in-WriteFault-clause-sent : goal.returns-in-WriteFault-clause-sent
returns-in-WriteFault-clause-sent g c =
    head_in_part c.args.delivery (lines_response c.args.format c.args.version (body_of c.args.lines.now)) c.deref.result.now c.in-Ok.length c.in-Ok.ensures (c.deref.ensures.value ∙ c.in-Ok-head_of.ensures ∙ ap (λ form. response_head c.args.delivery (status.Ok (Some c.args.version)) form c.in-Ok.length) c.lines_form.ensures) (g.K.Sink.holds c.args.sink.now) (g.K.Sink.holds c.send_text.new.sink) c.in-WriteFault.ensures.sent

pub returns-clause-sent : goal.returns-clause-sent
returns-clause-sent g c =
    head_in_part c.args.delivery (lines_response c.args.format c.args.version (body_of c.args.lines.now)) c.deref.result.now c.in-Ok.length c.in-Ok.ensures (c.deref.ensures.value ∙ c.in-Ok-head_of.ensures ∙ ap (λ form. response_head c.args.delivery (status.Ok (Some c.args.version)) form c.in-Ok.length) c.lines_form.ensures) (g.K.Sink.holds c.args.sink.now) (g.K.Sink.holds c.send_text.new.sink) c.in-NoMemory.ensures.sent
