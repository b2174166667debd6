use Rattle.std.proofs.Common.{subst, sym}
use Rattle.std.specs.Str.Parse.{ParsesUnsigned}
use Rattle.text_forms.proofs.Digits.{digits_text, too_large}
use Rattle.text_forms.proofs.number.value_of.Goals as goal

pub returns-in-Err-parse : goal.returns-in-Err-parse
returns-in-Err-parse c =
    let parsed = subst (λ ds. ParsesUnsigned 64 10 ds c.parse.result) c.in-Ok.ensures.cases.0 c.parse.ensures.value.0 in
    too_large c.args.text.now c.parse.result _ parsed c.in-Err-parse.is

pub returns-in-Err : goal.returns-in-Err
returns-in-Err c = absurd (c.in-Err.ensures.cases.0 (digits_text c.args.text.now (sym c.if-not-is_digits.ensures)))
