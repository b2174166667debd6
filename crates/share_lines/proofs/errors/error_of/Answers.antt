use Rattle.std.proofs.Common.{◌∙◌, sym, ap, rules, tests}
use Rattle.share_lines.specs.ErrorReading.{is_spelt}
use Rattle.share_lines.proofs.ErrorBack.{none_guessed, none_spelt, one_guessed, spelt_is}
use Rattle.share_lines.proofs.errors.error_of.Goals as goal

pub returns-in_default-clause-every : goal.returns-in_default-clause-every
returns-in_default-clause-every c = none_guessed c.args.bytes.now (search (rules, tests))

pub returns-then-branch-clause-found : goal.returns-then-branch-clause-found
returns-then-branch-clause-found c =
    spelt_is c.in-Some.refusal c.in-Some.detail c.args.bytes.now
    (ap (λ w. is_spelt c.in-Some.refusal w c.args.bytes.now) (sym c.as_str.ensures) ∙ sym c.in_ok-spells.ensures ∙ c.if-branch.true)

pub returns-then-branch-clause-every : goal.returns-then-branch-clause-every
returns-then-branch-clause-every c =
    one_guessed c.args.bytes.now (c.in-Some.refusal, c.in-Some.detail) (sym c.in_ok-refusal.ensures ∙ c.in-Some.is)

pub returns-else-branch-clause-every : goal.returns-else-branch-clause-every
returns-else-branch-clause-every c =
    none_spelt c.args.bytes.now (c.in-Some.refusal, c.in-Some.detail) (sym c.in_ok-refusal.ensures ∙ c.in-Some.is)
    (ap (λ w. is_spelt c.in-Some.refusal w c.args.bytes.now) (sym c.as_str.ensures) ∙ sym c.in_ok-spells.ensures ∙ c.if-branch.false)
