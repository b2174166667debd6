use Rattle.std.proofs.lemmas.Result.{on_ok_weaker}
use Rattle.json_print.proofs.TokenLemmas.{next, object_written}
use Rattle.log_actions.specs.Printing.{cdc_fields_at}
use Rattle.log_actions.proofs.printing.push_cdc.Goals as goal

pub returns-clause-written : goal.returns-clause-written
returns-clause-written g c =
    rw (← object_written (cdc_fields_at c.args.path.now c.args.file.now)) (on_ok_weaker c.end_object.result (λ last.
    next g.met.W.Tokens.then c.in_ok-begin_object.ensures
    (next g.met.W.Tokens.then c.in_ok-flag_field.ensures
    (next g.met.W.Tokens.then c.in_ok-pairs_field.ensures.written
    (next g.met.W.Tokens.then c.in_ok-text_field.ensures
    (next g.met.W.Tokens.then c.in_ok-size_field.ensures.written last))))) c.end_object.ensures)

pub returns-clause-kept : goal.returns-clause-kept
returns-clause-kept g c = on_ok_weaker c.end_object.result (λ last. record { values = c.in_ok-pairs_field.ensures.order; size = c.in_ok-size_field.ensures.bound }) c.end_object.ensures
