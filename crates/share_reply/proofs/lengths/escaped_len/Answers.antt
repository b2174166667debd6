use Rattle.std.proofs.Common.{arith}
use Rattle.std.proofs.lemmas.Grind.{common_steps}
use Rattle.text_forms.specs.Escape.{escaped}
use Rattle.share_reply.proofs.lengths.escaped_len.Goals as goal

pub returns-clause-counted : goal.returns-clause-counted
unfolding escaped
returns-clause-counted c = grind (arith, common_steps)
