use Rattle.std.proofs.Common.{◌≡◌, ◌∙◌, true, refl}
use Rattle.std.specs.Str.{is_utf8}
use Rattle.std.proofs.lemmas.Str.{is_utf8-from_IsUtf8}
use Rattle.page_token.proofs.ReadingLemmas.{text_none}
use Rattle.page_token.proofs.reading.text_of.Goals as goal

pub returns-in_ok-from_str-in-Ok : goal.returns-in_ok-from_str-in-Ok
returns-in_ok-from_str-in-Ok c =
    let valid : is_utf8 c.args.field.now ≡ true = is_utf8-from_IsUtf8 _ c.in-Ok.ensures.cases.1 in
    let text : c.of.result ≡ c.args.field.now = c.of.ensures ∙ c.in_ok-from_str-in-Ok.ensures.ok ∙ c.in-Ok.ensures.cases.0 in
    rw (valid, text) refl

pub returns-in-Err : goal.returns-in-Err
returns-in-Err c = text_none c.args.field.now c.in-Err.ensures.cases.0
