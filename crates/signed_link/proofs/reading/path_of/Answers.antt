use Rattle.std.proofs.Common.{◌∙◌}
use Rattle.percent_encoding.specs.Iter.{decoded_bytes}
use Rattle.signed_link.proofs.Escapes.{path_read, not_path}
use Rattle.signed_link.proofs.reading.path_of.Goals as goal

pub returns-in_ok-into_owned-in-Ok : goal.returns-in_ok-into_owned-in-Ok
returns-in_ok-into_owned-in-Ok c =
    path_read c.args.text.now (decoded_bytes c.percent_decode_str.result) c.of.result c.percent_decode_str.ensures.bytes
    c.in-Ok.ensures.ok_only_if_utf8 (c.of.ensures ∙ c.in_ok-into_owned-in-Ok.ensures.ok ∙ c.in-Ok.ensures.value)

pub returns-in-Err-Utf8 : goal.returns-in-Err-Utf8
returns-in-Err-Utf8 c =
    not_path c.args.text.now (decoded_bytes c.percent_decode_str.result) c.percent_decode_str.ensures.bytes
    (λ utf8. let wanting = rw c.in-Err-Utf8.field-0-is at (c.in-Err-Utf8.ensures.utf8 utf8) in absurd cc)
