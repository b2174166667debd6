use Rattle.std.proofs.lemmas.Result.{on_ok_weaker}
use Rattle.json_print.proofs.TokenLemmas.{next, object_written}
use Rattle.share_lines.specs.Parts.{meta_in}
use Rattle.share_lines.specs.Printing.{meta_fields}
use Rattle.share_lines.proofs.printing.meta_object.Goals as goal

pub returns-clause-written : goal.returns-clause-written
returns-clause-written g c =
    rw (← object_written (meta_fields (meta_in c.args.meta.now))) (on_ok_weaker c.end_object.result (λ last.
    next g.met.W.Tokens.then c.in_ok-begin_object.ensures
    (next g.met.W.Tokens.then c.in_ok-nonempty_pairs_field.ensures.written
    (next g.met.W.Tokens.then c.in_ok-optional_text_field.ensures
    (next g.met.W.Tokens.then c.in_ok-key.ensures
    (next g.met.W.Tokens.then c.in_ok-format_object.ensures
    (next g.met.W.Tokens.then c.in_ok-text_field.ensures
    (next g.met.W.Tokens.then c.in_ok-optional_text_field-2.ensures
    (next g.met.W.Tokens.then c.in_ok-texts_field.ensures
    (next g.met.W.Tokens.then c.in_ok-text_field-2.ensures last))))))))) c.end_object.ensures)
