use Rattle.std.proofs.Common.{◌≡◌, [], take, drop}
use Rattle.log_commit.specs.Rules.{first_broken}
use Rattle.log_commit.specs.Seen.{Knows}
use Rattle.log_commit.proofs.rules.first_broken.Given as goal

-- those before are known, and break no rule
abbrev pub invariant-loop-i : goal.invariant-loop-i
invariant-loop-i l = record {
  knows : Knows l.seen (take l.i l.actions);
  left : first_broken (take l.i l.actions) (drop l.i l.numbers) (drop l.i l.actions) ≡ first_broken [] l.numbers l.actions;
}
