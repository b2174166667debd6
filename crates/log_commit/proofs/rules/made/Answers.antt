use Rattle.std.proofs.Common.{◌≡◌, ◌∙◌, [], None, ap, sym, length, subst}
use Rattle.std.proofs.lemmas.List.FromFn.{length-range_with_len}
use Rattle.log_actions.specs.Commits.{IsCommit}
use Rattle.log_commit.specs.Rules.{first_broken}
use Rattle.log_commit.proofs.CommitRules.{commit_unbroken}
use Rattle.log_commit.proofs.rules.made.Goals as goal

pub first_broken-requires : goal.first_broken-requires
first_broken-requires c =
    ap length (c.deref.ensures.value ∙ c.in_ok-numbers.ensures) ∙ length-range_with_len 1 _ ∙ ap length (c.items.ensures ∙ sym c.items-2.ensures)

pub of-requires : goal.of-requires
of-requires c =
    let none : None ≡ first_broken [] c.deref.result.now c.items-2.result.now = sym c.in-None.is ∙ c.in_ok-fault.ensures in
    let same : length c.deref.result.now ≡ length c.items-2.result.now
    = ap length (c.deref.ensures.value ∙ c.in_ok-numbers.ensures) ∙ length-range_with_len 1 _ ∙ ap length (c.items.ensures ∙ sym c.items-2.ensures) in
    subst IsCommit c.items-2.ensures (commit_unbroken c.deref.result.now c.items-2.result.now (sym none) same)
