use Rattle.std.proofs.lemmas.Result.{on_ok_weaker}
use Rattle.json_print.proofs.TokenLemmas.{next, object_written}
use Rattle.share_lines.specs.Parts.{file_in}
use Rattle.share_lines.specs.Printing.{file_fields}
use Rattle.share_lines.proofs.printing.file_object.Goals as goal

pub returns-clause-written : goal.returns-clause-written
returns-clause-written g c =
    rw (← object_written (file_fields (file_in c.args.file.now))) (on_ok_weaker c.end_object.result (λ last.
    next g.met.W.Tokens.then c.in_ok-begin_object.ensures
    (next g.met.W.Tokens.then c.in_ok-expiry_field.ensures.written
    (next g.met.W.Tokens.then c.in_ok-text_field.ensures
    (next g.met.W.Tokens.then c.in_ok-pairs_field.ensures.written
    (next g.met.W.Tokens.then c.in_ok-size_field.ensures.written
    (next g.met.W.Tokens.then c.in_ok-optional_text_field.ensures
    (next g.met.W.Tokens.then c.in_ok-optional_whole_field.ensures.written
    (next g.met.W.Tokens.then c.in_ok-text_field-2.ensures
    (next g.met.W.Tokens.then c.in_ok-version_field.ensures.written last))))))))) c.end_object.ensures)
