use Rattle.std.proofs.lemmas.Result.{on_ok_weaker}
use Rattle.json_print.proofs.TokenLemmas.{next}
use Rattle.share_lines.proofs.table_lines.meta_line_object.Goals as goal

pub returns : goal.returns
returns g c =
    on_ok_weaker c.end_object.result (λ last.
    next g.met.W.Tokens.then c.in_ok-begin_object.ensures
    (next g.met.W.Tokens.then c.in_ok-key.ensures
    (next g.met.W.Tokens.then c.in_ok-meta_object.ensures.written last))) c.end_object.ensures
