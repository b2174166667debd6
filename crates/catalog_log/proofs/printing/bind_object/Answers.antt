use Rattle.std.proofs.lemmas.Result.{on_ok_weaker}
use Rattle.json_print.proofs.TokenLemmas.{then, object_written}
use Rattle.catalog_log.specs.Printing.{bind_fields}
use Rattle.catalog_log.proofs.printing.bind_object.Goals as goal

pub returns-clause-written : goal.returns-clause-written
returns-clause-written c =
    rw (← object_written (bind_fields c.args.table.now c.args.binding.now)) (on_ok_weaker c.end_object.result (λ last.
    then c.in_ok-begin_object.ensures
    (then c.in_ok-first_field.ensures.written
    (then c.in_ok-flag_field.ensures
    (then c.in_ok-location_field.ensures.written
    (then c.in_ok-only_field.ensures.written
    (then c.in_ok-name_field.ensures.written
    (then c.in_ok-name_field-2.ensures.written
    (then c.in_ok-name_field-3.ensures.written last)))))))) c.end_object.ensures)
