use Rattle.std.proofs.Common.{◌∙◌}
use Rattle.json_print.proofs.TokenLemmas.{text_written}
use Rattle.share_reply.specs.Bodies.{share_data}
use Rattle.share_reply.proofs.listing_text.share_text.Goals as goal

pub returns : goal.returns
returns c = c.of.ensures ∙ c.printed.ensures.text ∙ text_written (share_data c.args.share.now) c.in_ok-outer_object.ensures c.in_ok-body.ensures.1
