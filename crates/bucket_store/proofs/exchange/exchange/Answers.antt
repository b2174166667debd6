use Rattle.std.proofs.Common.{ap, ◌∙◌, ◌++◌}
use Rattle.edge_core.specs.Lines.{closed_line, with_line}
use Rattle.bucket_store.proofs.Exchanging.{line_used}
use Rattle.bucket_store.proofs.exchange.exchange.Goals as goal

pub returns-in-Line : goal.returns-in-Line
returns-in-Line g c = λ moments.
    let line = rw c.as_str.ensures at c.in-Line.ensures.line in
    let last = closed_line (g.L.Out.Sink.holds c.talk-answer.new.output) (g.L.In.Source.faults c.talk-answer.new.input) (g.L.Out.Sink.faults c.talk-answer.new.output) in
    line_used c.args.place.now c.args.to_head (c.args.head.now ++ c.args.body.now) c.talk-answer.result
    (g.L.Link.coming c.args.link.now) (g.L.Link.coming c.close.new.self) _ (g.L.Link.closed c.args.link.now) (g.L.Link.closed c.close.new.self) moments _ _ _ _ _
    line.0 c.close.ensures.coming
    (c.close.ensures.closed ∙ ap (λ o. with_line o last) c.in-Line.ensures.closed)
    c.talk-answer.ensures.heard c.talk-answer.ensures.wrote
