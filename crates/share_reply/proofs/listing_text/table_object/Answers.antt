use Rattle.std.proofs.lemmas.Result.{on_ok_weaker}
use Rattle.json_print.proofs.TokenLemmas.{then, object_written}
use Rattle.share_reply.specs.Listings.{table_fields}
use Rattle.share_reply.proofs.listing_text.table_object.Goals as goal

pub returns : goal.returns
returns c =
    rw (← object_written (table_fields c.args.table.now c.args.schema.now c.args.share.now)) (on_ok_weaker c.end_object.result (λ last.
    then c.in_ok-begin_object.ensures
    (then c.in_ok-string_field.ensures
    (then c.in_ok-string_field-2.ensures
    (then c.in_ok-string_field-3.ensures last)))) c.end_object.ensures)
