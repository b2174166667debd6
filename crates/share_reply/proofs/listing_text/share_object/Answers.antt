use Rattle.std.proofs.lemmas.Result.{on_ok_weaker}
use Rattle.json_print.proofs.TokenLemmas.{then, object_written}
use Rattle.share_reply.specs.Bodies.{share_fields}
use Rattle.share_reply.proofs.listing_text.share_object.Goals as goal

pub returns : goal.returns
returns c =
    rw (← object_written (share_fields c.args.share.now)) (on_ok_weaker c.end_object.result (λ last.
    then c.in_ok-begin_object.ensures
    (then c.in_ok-string_field.ensures last)) c.end_object.ensures)
