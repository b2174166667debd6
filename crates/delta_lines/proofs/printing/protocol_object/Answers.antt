use Rattle.std.proofs.lemmas.Result.{on_ok_weaker}
use Rattle.json_print.proofs.TokenLemmas.{next, object_written}
use Rattle.log_actions.specs.Printing.{protocol_fields}
use Rattle.delta_lines.proofs.printing.protocol_object.Goals as goal

pub returns-clause-written : goal.returns-clause-written
returns-clause-written g c =
    rw (← object_written (protocol_fields c.args.protocol.now)) (on_ok_weaker c.end_object.result (λ last.
    next g.met.W.Tokens.then c.in_ok-begin_object.ensures
    (next g.met.W.Tokens.then c.in_ok-feature_version_field.ensures.written
    (next g.met.W.Tokens.then c.in_ok-feature_version_field-2.ensures.written
    (next g.met.W.Tokens.then c.in_ok-optional_texts_field.ensures
    (next g.met.W.Tokens.then c.in_ok-optional_texts_field-2.ensures last))))) c.end_object.ensures)

pub returns-clause-kept : goal.returns-clause-kept
returns-clause-kept g c = on_ok_weaker c.end_object.result (λ last. record { reader = c.in_ok-feature_version_field.ensures.bound; writer = c.in_ok-feature_version_field-2.ensures.bound }) c.end_object.ensures
