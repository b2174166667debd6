use Rattle.std.proofs.lemmas.Result.{on_ok_weaker}
use Rattle.json_print.proofs.TokenLemmas.{then, object_written}
use Rattle.share_reply.specs.Listings.{schema_fields}
use Rattle.share_reply.proofs.listing_text.schema_object.Goals as goal

pub returns : goal.returns
returns c =
    rw (← object_written (schema_fields c.args.schema.now c.args.share.now)) (on_ok_weaker c.end_object.result (λ last.
    then c.in_ok-begin_object.ensures
    (then c.in_ok-string_field.ensures
    (then c.in_ok-string_field-2.ensures last))) c.end_object.ensures)
