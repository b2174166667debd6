use Rattle.std.proofs.Common.{◌≡◌, Some, decimal, sym, ap, ◌∙◌}
use Rattle.file_ranges.proofs.Digits.{decimal_text, differs, written_is, written_reads}
use Rattle.file_ranges.proofs.text.written_number.Goals as goal

pub returns-in_default-clause-back : goal.returns-in_default-clause-back
returns-in_default-clause-back c n small is = absurd (c.in_default.ensures.cases.0 (decimal_text c.args.text.now n small is))

pub returns-in_default-parse-clause-back : goal.returns-in_default-parse-clause-back
returns-in_default-parse-clause-back c n small is =
    absurd (written_reads c.args.text.now c.in-Ok.spelled.now c.parse.result n _ c.parse.ensures.value.0 c.in-Ok.ensures.cases.0 small is c.in_default-parse.is)

pub returns-then-eq-clause-back : goal.returns-then-eq-clause-back
returns-then-eq-clause-back c n small is =
    ap Some (written_is c.args.text.now c.in-Ok.spelled.now c.parse.result n _ c.parse.ensures.value.0 c.in-Ok.ensures.cases.0 small is c.in-Ok-parse.is)

pub returns-else-eq-clause-back : goal.returns-else-eq-clause-back
returns-else-eq-clause-back c n small is =
    let read = written_is c.args.text.now c.in-Ok.spelled.now c.parse.result n _ c.parse.ensures.value.0 c.in-Ok.ensures.cases.0 small is c.in-Ok-parse.is in
    let text : c.as_bytes.result.now ≡ c.args.text.now = c.as_bytes.ensures.value ∙ c.format.ensures.text ∙ ap decimal read ∙ sym is in
    absurd (differs _ _ c.if-eq.ensures text)
