use Rattle.std.proofs.Common.{ap, ◌∙◌, nat_lt, arith}
use Rattle.edge_core.specs.Faults.{counted}
use Rattle.edge_core.specs.Lines.{closed_line, with_line}
use Rattle.share_client.proofs.Counts.{stays_along}
use Rattle.share_client.proofs.Lines.{line_used}
use Rattle.share_client.proofs.exchange.exchange.Goals as goal

pub returns-in-Line-clause-later : goal.returns-in-Line-clause-later
returns-in-Line-clause-later g c =
    let read = nat_lt 0 (g.L.In.Source.faults c.talk-answer.new.input) in
    let wrote = nat_lt 0 (g.L.Out.Sink.faults c.talk-answer.new.output) in
    record {
      opens = omega (arith, c.in-Line.ensures.cause.later, c.close.ensures.later);
      reads = stays_along _ _ read (c.close.ensures.read_faults ∙ ap (λ n. counted n read) c.in-Line.ensures.read_faults);
      writes = stays_along _ _ wrote (c.close.ensures.write_faults ∙ ap (λ n. counted n wrote) c.in-Line.ensures.write_faults);
    }

pub returns-in-Line-clause-told : goal.returns-in-Line-clause-told
returns-in-Line-clause-told g c =
    let line = rw c.as_str.ensures at c.in-Line.ensures.line in
    let told = rw c.as_bytes.ensures.value at c.talk-answer.ensures.told in
    let last = closed_line (g.L.Out.Sink.holds c.talk-answer.new.output) (g.L.In.Source.faults c.talk-answer.new.input) (g.L.Out.Sink.faults c.talk-answer.new.output) in
    line_used c.args.to_head c.args.target.now c.args.text.now c.talk-answer.result g.L.Link.coming g.L.Link.closed c.args.link.now c.close.new.self _ _ _ _ _ _
    line.0 c.close.ensures.coming
    (c.close.ensures.closed ∙ ap (λ o. with_line o last) c.in-Line.ensures.closed)
    told
