use Rattle.std.proofs.Common.{◌∙◌, ◌+◌, ◌-◌, min, ap, arith}
use Rattle.std.specs.Prelude.{◌^◌}
use Rattle.log_actions.proofs.CommitTexts.{length_more}
use Rattle.log_actions.proofs.commit_text.text_len.Goals as goal

pub loop-action-preserved : goal.loop-action-preserved
loop-action-preserved c =
    length_more c.actions-action-items.result.now c.loop-action.action-index c.action-item.result _ _ (omega arith) c.action-item.is c.loop-action.invariant
    (c.saturating_add-bytes.ensures ∙ ap (λ m. min (m + 1) (2 ^ 64 - 1)) (c.saturating_add.ensures ∙ ap (λ n. min (c.loop-action.bytes + n) (2 ^ 64 - 1)) c.line_len.ensures))
