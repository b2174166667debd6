use Rattle.std.proofs.Common.{◌≡◌, Some, None, sym, ap, ◌∙◌, arith}
use Rattle.page_token.specs.Payload.{payload}
use Rattle.page_token.specs.Reading.{cursor_in}
use Rattle.page_token.proofs.Again.{spelt_again}
use Rattle.page_token.proofs.ReadingLemmas.{differs, same_some}
use Rattle.page_token.proofs.reading.read_payload.Goals as goal

pub returns-in-Err-NotSpelt-clause-every : goal.returns-in-Err-NotSpelt-clause-every
returns-in-Err-NotSpelt-clause-every c = λ d h.
    let none : cursor_in c.args.bytes.now ≡ None = rw c.in-Err-NotSpelt.field-0-is at c.in-Err-NotSpelt.ensures in
    sym none ∙ spelt_again c.args.bytes.now d (omega arith) h

pub returns-then-eq-clause-every : goal.returns-then-eq-clause-every
returns-then-eq-clause-every c = λ d h.
    sym c.in-Ok.ensures ∙ spelt_again c.args.bytes.now d (omega arith) h

pub returns-else-eq-clause-every : goal.returns-else-eq-clause-every
returns-else-eq-clause-every c = λ d h.
    let same : Some c.in-Ok.cursor ≡ Some d = sym c.in-Ok.ensures ∙ spelt_again c.args.bytes.now d (omega arith) h in
    let text : c.as_bytes.result.now ≡ c.args.bytes.now =
    c.as_bytes.ensures.value ∙ c.in_ok-again.ensures.text ∙ ap payload (same_some _ _ same) ∙ sym h.spelt in
    absurd (differs _ _ c.if-eq.ensures text)
