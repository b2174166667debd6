use Rattle.std.proofs.lemmas.Result.{on_ok_weaker}
use Rattle.json_print.proofs.TokenLemmas.{next}
use Rattle.share_lines.proofs.table_lines.end_object.Goals as goal

pub returns : goal.returns
returns g c =
    let written = c.in_ok-end_line_object.ensures.written in
    on_ok_weaker c.end_object.result (λ last.
    next g.met.W.Tokens.then c.in_ok-begin_object.ensures
    (next g.met.W.Tokens.then c.in_ok-key.ensures
    (next g.met.W.Tokens.then (written) last))) c.end_object.ensures
