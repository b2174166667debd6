use Rattle.std.proofs.Common.{◌≡◌, ◌∙◌, ap, arith, rules}
use Rattle.std.specs.Prelude.{string_bytes}
use Rattle.share_lines.specs.Bodies.{lines_in}
use Rattle.share_lines.proofs.BodyBack.{all_back, back_more, text_more}
use Rattle.share_lines.proofs.bodies.lines_text.Goals as goal

pub loop-line-preserved : goal.loop-line-preserved
loop-line-preserved c =
    let l = c.loop-line.invariant in
    let lines = c.args.lines.now in
    record {
      text = text_more lines c.loop-line.line-index c.line-item.result _ _ (omega arith) c.line-item.is l.text c.in_ok-push_line.ensures.text;
      back = back_more lines c.loop-line.line-index c.line-item.result (omega arith) c.line-item.is l.back c.in_ok-push_line.ensures.back;
    }

pub returns-clause-back : goal.returns-clause-back
returns-clause-back c =
    let is : c.of.result ≡ string_bytes c.loop-line.body = search rules in
    ap lines_in is ∙ all_back c.args.lines.now c.loop-line.line-index _ (omega arith) c.loop-line.invariant.text c.loop-line.invariant.back
