use Rattle.std.proofs.Common.{ap, sym, Some, ◌∙◌}
use Rattle.share_core.specs.Answers.{sent}
use Rattle.share_core.proofs.Replying.{none_where, some_where}
use Rattle.share_core.proofs.machine.chosen_reply.Goals as goal

pub returns-then-not-is_chosen : goal.returns-then-not-is_chosen
returns-then-not-is_chosen c = none_where _ _ (sym c.is_chosen.ensures ∙ c.if-not-is_chosen.true)

pub returns : goal.returns
returns c = ap Some (c.in_ok-reply_by.ensures ∙ ap sent c.in_ok-plan.ensures.reply) ∙ some_where _ _ (sym c.is_chosen.ensures ∙ c.if-not-is_chosen.false)
