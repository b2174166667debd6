use Rattle.std.proofs.lemmas.Result.{on_ok_weaker}
use Rattle.json_print.proofs.TokenLemmas.{next, object_written}
use Rattle.delta_lines.specs.Delta.{file_fields}
use Rattle.delta_lines.specs.Parts.{file_in}
use Rattle.delta_lines.proofs.printing.file_value.Goals as goal

pub returns-clause-written : goal.returns-clause-written
returns-clause-written g c =
    let identified = c.in_ok-text_field.ensures in
    rw (← object_written (file_fields (file_in c.args.file.now))) (on_ok_weaker c.end_object.result (λ last.
    next g.met.W.Tokens.then c.in_ok-begin_object.ensures
    (next g.met.W.Tokens.then c.in_ok-key.ensures
    (next g.met.W.Tokens.then c.in_ok-single_object.ensures.written
    (next g.met.W.Tokens.then c.in_ok-small_field.ensures.written
    (next g.met.W.Tokens.then (rw c.path.ensures at identified)
    (next g.met.W.Tokens.then c.in_ok-optional_whole_field.ensures.written
    (next g.met.W.Tokens.then c.in_ok-small_field-2.ensures.written last))))))) c.end_object.ensures)

pub returns-clause-kept : goal.returns-clause-kept
returns-clause-kept g c =
    on_ok_weaker c.end_object.result (λ last. record {
      action = c.in_ok-single_object.ensures.kept;
      expires = c.in_ok-small_field.ensures.bound;
      time = c.in_ok-optional_whole_field.ensures.bound;
      version = c.in_ok-small_field-2.ensures.bound;
    }) c.end_object.ensures
