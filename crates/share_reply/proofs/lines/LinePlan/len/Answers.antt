use Rattle.std.proofs.Common.{◌+◌, ◌<◌, length, take, ap, sym, ◌∙◌, arith}
use Rattle.share_reply.specs.Formats.{body_of}
use Rattle.share_reply.proofs.Standing.{body_next}
use Rattle.share_reply.proofs.lines.LinePlan.len.Goals as goal

pub loop-n-preserved : goal.loop-n-preserved
loop-n-preserved c =
    let lines = c.args.self.now in
    let n = c.loop-n.n in
    let within : c.loop-n.n < length c.args.self.now = omega arith in
    record {
      end = c.loop-n.invariant.end;
      bytes = c.in-Some.ensures.1 ∙ ap (λ b. b + c.in_ok-line_len.field-0) c.loop-n.invariant.bytes ∙ ap (λ k. length (body_of (take n lines)) + k) c.in_ok-line_len.ensures ∙ sym (body_next lines n within);
    }
