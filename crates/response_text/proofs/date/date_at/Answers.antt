use Rattle.std.proofs.Common.{◌∙◌}
use Rattle.response_text.proofs.DateLemmas.{date_text-date_at}
use Rattle.response_text.proofs.date.date_at.Goals as goal

pub returns : goal.returns
returns c = c.to_bytes.ensures ∙ date_text-date_at c.in-Ok.date c.args.now c.requires c.in-Ok.ensures.value
