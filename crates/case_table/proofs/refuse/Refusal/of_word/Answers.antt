use Rattle.std.proofs.Common.{◌≡◌, IfSome, sym, subst}
use Rattle.case_table.specs.Refusals.{refusal_row}
use Rattle.case_table.proofs.Differ.{refusal_found}
use Rattle.case_table.proofs.refuse.Refusal.of_word.Goals as goal

pub returns-clause-found : goal.returns-clause-found
returns-clause-found c =
    subst (λ o. IfSome o (λ x. (refusal_row x).word ≡ c.args.word.now)) (sym c.refusal_in.ensures) (refusal_found c.args.word.now)
