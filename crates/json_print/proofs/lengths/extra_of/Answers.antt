use Rattle.std.proofs.Common.{◌≡◌, ◌&&◌, not, ap, ◌∙◌, arith}
use mir.Val.{bool_byte}
use Rattle.std.specs.Prelude.{nat_lt}
use Rattle.json.specs.Print.{escape_letter}
use Rattle.json_print.proofs.LengthLemmas.{length-escape_byte, escaped_few}
use Rattle.json_print.proofs.lengths.extra_of.Goals as goal

pub returns : goal.returns
returns c =
    let x = c.args.byte in
    let short : c.from.result ≡ bool_byte (nat_lt 0 (escape_letter x)) = c.from.ensures ∙ ap bool_byte c.is_short.ensures in
    let long : c.from-2.result ≡ bool_byte (nat_lt x 32 && not (nat_lt 0 (escape_letter x))) = c.from-2.ensures ∙ ap bool_byte c.is_long.ensures in
    let one = length-escape_byte x in
    let few = escaped_few (nat_lt 0 (escape_letter x)) (nat_lt x 32) in
    record { value = omega arith; few = omega arith }
