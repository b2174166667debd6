use Rattle.std.proofs.lemmas.Result.{on_ok_weaker}
use Rattle.json_print.proofs.TokenLemmas.{next, object_written}
use Rattle.share_lines.specs.Printing.{end_fields}
use Rattle.delta_lines.proofs.printing.end_value.Goals as goal

pub returns-clause-written : goal.returns-clause-written
returns-clause-written g c =
    rw (← object_written (end_fields c.args.end.now)) (on_ok_weaker c.end_object.result (λ last.
    next g.met.W.Tokens.then c.in_ok-begin_object.ensures
    (next g.met.W.Tokens.then c.in_ok-small_field.ensures.written
    (next g.met.W.Tokens.then c.in_ok-optional_text_field.ensures last))) c.end_object.ensures)
