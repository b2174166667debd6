use Rattle.std.proofs.Common.{◌∙◌}
use Rattle.bucket_text.proofs.Utf8.{is_text, no_text}
use Rattle.bucket_text.proofs.text.text_of.Goals as goal

pub returns-in_ok-from_str-in-Ok : goal.returns-in_ok-from_str-in-Ok
returns-in_ok-from_str-in-Ok c =
    is_text c.args.bytes.now c.of.result c.in-Ok.ensures.cases.1 (c.of.ensures ∙ c.in_ok-from_str-in-Ok.ensures.ok ∙ c.in-Ok.ensures.cases.0)

pub returns-in-Err : goal.returns-in-Err
returns-in-Err c = no_text c.args.bytes.now c.in-Err.ensures.cases.0
