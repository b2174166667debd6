use Rattle.signed_link.proofs.Numbers.{parsed, not_parsed}
use Rattle.signed_link.proofs.reading.number_of.Goals as goal

pub returns-then-number-clause-value : goal.returns-then-number-clause-value
returns-then-number-clause-value c = parsed c.args.text.now c.parse.result c.in-Ok.number c.parse.ensures.value.0 c.in-Ok.is c.if-number.true

pub returns-in-Err-clause-value : goal.returns-in-Err-clause-value
returns-in-Err-clause-value c = not_parsed c.args.text.now c.parse.result _ c.parse.ensures.value.0 c.in-Err.is
