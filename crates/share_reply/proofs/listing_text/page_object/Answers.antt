use Rattle.std.proofs.lemmas.Result.{on_ok_weaker}
use Rattle.json_print.proofs.TokenLemmas.{then, object_written}
use Rattle.share_reply.specs.Listings.{page_fields}
use Rattle.share_reply.specs.Walks.{texts}
use Rattle.share_reply.proofs.listing_text.page_object.Goals as goal

pub returns : goal.returns
returns c =
    rw (← object_written (page_fields c.args.kind c.args.share.now c.args.schema.now (texts c.args.names.now) c.args.token.now)) (on_ok_weaker c.end_object.result (λ last.
    then c.in_ok-begin_object.ensures
    (then c.in_ok-put_name.ensures
    (then c.in_ok-names_array.ensures
    (then c.in_ok-optional_text_field.ensures last)))) c.end_object.ensures)
