use Rattle.std.proofs.Common.{◌<◌, ◌≤◌, ◌∙◌, length, arith}
use Rattle.share_core.proofs.Texts.{text_next, text_whole}
use Rattle.share_core.proofs.reply.text_of.Goals as goal

pub loop-n-preserved : goal.loop-n-preserved
loop-n-preserved c =
    let within : c.loop-n.n < length c.args.lines.now = omega arith in
    record {
      end = c.loop-n.invariant.end;
      text = text_next c.args.lines.now c.loop-n.n c.loop-n.text.items c.push_line.new.out.items within c.loop-n.invariant.text c.in_ok-push_line.ensures.line;
    }

pub returns : goal.returns
returns c =
    let past : length c.args.lines.now ≤ c.loop-n.n = omega arith in
    c.of.ensures ∙ text_whole c.args.lines.now c.loop-n.n c.loop-n.text.items past c.loop-n.invariant.text
