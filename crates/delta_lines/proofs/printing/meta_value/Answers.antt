use Rattle.std.proofs.lemmas.Result.{on_ok_weaker}
use Rattle.json_print.proofs.TokenLemmas.{next}
use Rattle.delta_lines.proofs.printing.meta_value.Goals as goal

pub returns-clause-written : goal.returns-clause-written
returns-clause-written g c =
    on_ok_weaker c.end_object.result (λ last.
    next g.met.W.Tokens.then c.in_ok-begin_object.ensures
    (next g.met.W.Tokens.then c.in_ok-key.ensures
    (next g.met.W.Tokens.then c.in_ok-meta_object.ensures.written last))) c.end_object.ensures

pub returns-clause-kept : goal.returns-clause-kept
returns-clause-kept g c = on_ok_weaker c.end_object.result (λ last. c.in_ok-meta_object.ensures.kept) c.end_object.ensures
