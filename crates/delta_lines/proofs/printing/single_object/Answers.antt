use Rattle.std.proofs.lemmas.Result.{on_ok_weaker}
use Rattle.json_print.proofs.TokenLemmas.{next}
use Rattle.delta_lines.proofs.printing.single_object.Goals as goal

pub returns-clause-written : goal.returns-clause-written
returns-clause-written g c =
    let named = c.in_ok-key.ensures in
    on_ok_weaker c.end_object.result (λ last.
    next g.met.W.Tokens.then c.in_ok-begin_object.ensures
    (next g.met.W.Tokens.then (rw c.word.ensures at named)
    (next g.met.W.Tokens.then c.in_ok-action_value.ensures.written last))) c.end_object.ensures

pub returns-clause-kept : goal.returns-clause-kept
returns-clause-kept g c = on_ok_weaker c.end_object.result (λ last. c.in_ok-action_value.ensures.kept) c.end_object.ensures
