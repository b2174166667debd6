use Rattle.std.proofs.Common.{◌≡◌, take}
use Rattle.log_actions.specs.CommitTexts.{commit_text}
use Rattle.log_commit.proofs.PrintedBack.{AreReadBack}
use Rattle.log_commit.proofs.print.bytes_of.Given as goal

-- the lines so far, and each is read back
abbrev pub invariant-loop-action : goal.invariant-loop-action
invariant-loop-action l = record {
  text : l.bytes.items ≡ commit_text (take l.action-index l.action-items);
  back : AreReadBack (take l.action-index l.action-items);
}
