use Rattle.std.proofs.Common.{◌≡◌, length, take}
use Rattle.json_print.specs.Lengths.{capped}
use Rattle.log_actions.specs.CommitTexts.{commit_text}
use Rattle.log_actions.proofs.commit_text.text_len.Given as goal

-- the length of the lines so far
abbrev pub invariant-loop-action : goal.invariant-loop-action
invariant-loop-action l = l.bytes ≡ capped (length (commit_text (take l.action-index l.action-items)))
