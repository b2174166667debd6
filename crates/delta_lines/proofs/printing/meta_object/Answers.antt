use Rattle.std.proofs.lemmas.Result.{on_ok_weaker}
use Rattle.json_print.proofs.TokenLemmas.{next, object_written}
use Rattle.log_actions.specs.Printing.{meta_data_fields}
use Rattle.delta_lines.proofs.printing.meta_object.Goals as goal

pub returns-clause-written : goal.returns-clause-written
returns-clause-written g c =
    rw (← object_written (meta_data_fields c.args.meta.now)) (on_ok_weaker c.end_object.result (λ last.
    next g.met.W.Tokens.then c.in_ok-begin_object.ensures
    (next g.met.W.Tokens.then c.in_ok-pairs_field.ensures.written
    (next g.met.W.Tokens.then c.in_ok-optional_whole_field.ensures.written
    (next g.met.W.Tokens.then c.in_ok-optional_text_field.ensures
    (next g.met.W.Tokens.then c.in_ok-key.ensures
    (next g.met.W.Tokens.then c.in_ok-format_object.ensures.written
    (next g.met.W.Tokens.then c.in_ok-text_field.ensures
    (next g.met.W.Tokens.then c.in_ok-optional_text_field-2.ensures
    (next g.met.W.Tokens.then c.in_ok-texts_field.ensures
    (next g.met.W.Tokens.then c.in_ok-text_field-2.ensures last)))))))))) c.end_object.ensures)

pub returns-clause-kept : goal.returns-clause-kept
returns-clause-kept g c = on_ok_weaker c.end_object.result (λ last. record { options = c.in_ok-format_object.ensures.kept; configuration = c.in_ok-pairs_field.ensures.order; created = c.in_ok-optional_whole_field.ensures.bound }) c.end_object.ensures
