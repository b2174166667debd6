use Rattle.std.proofs.lemmas.Result.{on_ok_weaker}
use Rattle.json_print.proofs.TokenLemmas.{then, object_written}
use Rattle.catalog_log.specs.Printing.{pair_fields}
use Rattle.catalog_log.proofs.printing.pair_object.Goals as goal

pub returns-clause-written : goal.returns-clause-written
returns-clause-written c =
    rw (← object_written (pair_fields c.args.recipient.now c.args.share.now)) (on_ok_weaker c.end_object.result (λ last.
    then c.in_ok-begin_object.ensures
    (then c.in_ok-name_field.ensures.written
    (then c.in_ok-name_field-2.ensures.written last))) c.end_object.ensures)
