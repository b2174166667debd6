use Rattle.std.proofs.lemmas.Result.{on_ok_weaker}
use Rattle.json_print.proofs.TokenLemmas.{then, object_written}
use Rattle.share_lines.specs.Errors.{error_fields}
use Rattle.share_lines.proofs.errors.error_object.Goals as goal

pub returns : goal.returns
returns c =
    rw (← object_written (error_fields c.args.word.now c.args.message.now)) (on_ok_weaker c.end_object.result (λ last.
    then c.in_ok-begin_object.ensures
    (then c.in_ok-string_field.ensures
    (then c.in_ok-string_field-2.ensures last))) c.end_object.ensures)
