use Rattle.std.proofs.Common.{◌≡◌, ◌∙◌, ap, subst, sym}
use Rattle.std.specs.Prelude.{IsUtf8}
use Rattle.percent_encoding.specs.Percent.{percent_decode}
use Rattle.log_actions.proofs.PathLemmas.{decoded_text, not_decoded}
use Rattle.log_actions.proofs.paths.decode_escapes.Goals as goal

pub returns-in-Ok : goal.returns-in-Ok
returns-in-Ok c =
    let bytes : percent_decode c.percent_decode.result.bytes.now ≡ percent_decode c.args.path.now = c.percent_decode.ensures.bytes ∙ ap percent_decode c.as_bytes.ensures.value in
    decoded_text c.args.path.now _ (c.in-Ok.ensures.value ∙ bytes) (subst IsUtf8 bytes c.in-Ok.ensures.ok_only_if_utf8)

pub returns-in-Err-Utf8 : goal.returns-in-Err-Utf8
returns-in-Err-Utf8 c =
    let bytes : percent_decode c.args.path.now ≡ percent_decode c.percent_decode.result.bytes.now = sym (c.percent_decode.ensures.bytes ∙ ap percent_decode c.as_bytes.ensures.value) in
    not_decoded c.args.path.now (λ good. let e = c.in-Err-Utf8.ensures.utf8 (subst IsUtf8 bytes good) in cc (e, c.in-Err-Utf8.field-0-is))
