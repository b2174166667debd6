use Rattle.std.proofs.Common.{◌∷◌, [], Some}
use Rattle.std.specs.Prelude.{codes}
use Rattle.std.proofs.lemmas.Result.{on_ok_weaker}
use Rattle.json_print.specs.Fields.{object_of}
use Rattle.json_print.proofs.TokenLemmas.{then, object_written}
use Rattle.share_reply.specs.Bodies.{share_fields}
use Rattle.share_reply.proofs.listing_text.outer_object.Goals as goal

pub returns : goal.returns
returns c =
    rw (← object_written ((codes "share", Some (object_of (share_fields c.args.share.now))) ∷ [])) (on_ok_weaker c.end_object.result (λ last.
    then c.in_ok-begin_object.ensures
    (then c.in_ok-put_name.ensures
    (then c.in_ok-share_object.ensures last))) c.end_object.ensures)
