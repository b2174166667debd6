use Rattle.std.proofs.Common.{◌∙◌}
use Rattle.json_print.proofs.TokenLemmas.{text_written}
use Rattle.share_reply.specs.Listings.{page_data}
use Rattle.share_reply.specs.Walks.{texts}
use Rattle.share_reply.proofs.listing_text.page_text.Goals as goal

pub returns : goal.returns
returns c =
    c.of.ensures ∙ c.printed.ensures.text
    ∙ text_written (page_data c.args.kind c.args.share.now c.args.schema.now (texts c.args.names.now) c.args.token.now) c.in_ok-page_object.ensures c.in_ok-body.ensures.1
