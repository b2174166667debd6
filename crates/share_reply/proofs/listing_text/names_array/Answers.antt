use Rattle.std.proofs.Common.{◌++◌}
use Rattle.json_print.specs.Fields.{object_of}
use Rattle.json_print.specs.Tokens.{value_tokens}
use Rattle.json_print.proofs.TokenLemmas.{then}
use Rattle.share_reply.specs.Bodies.{name_fields}
use Rattle.share_reply.specs.Walks.{texts_of}
use Rattle.share_reply.proofs.ListingLemmas.{names_more}
use Rattle.share_reply.proofs.listing_text.names_array.Goals as goal

pub loop-name-preserved : goal.loop-name-preserved
loop-name-preserved c =
    let done = c.loop-name.invariant.0 in (
      done ++ value_tokens (object_of (name_fields c.args.kind c.args.share.now c.args.schema.now (texts_of c.name-item.result))),
      then c.loop-name.invariant.1 c.in_ok-name_object.ensures,
      rw c.name-item.is (names_more c.args.kind c.args.share.now c.args.schema.now c.args.names.now c.loop-name.name-index c.name-item.result done _ c.loop-name-test.true c.loop-name.invariant.2),
    )
