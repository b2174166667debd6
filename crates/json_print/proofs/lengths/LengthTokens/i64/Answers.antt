use Rattle.std.proofs.Common.{◌≡◌, ◌∙◌, length, ap, arith, FitsSigned}
use Rattle.std.specs.Int.{w64}
use Rattle.std.specs.Fmt.{signed_decimal}
use Rattle.std.proofs.lemmas.Int.{to_z-of_z}
use Rattle.json.specs.Token as token
use Rattle.json_print.specs.Lengths.{capped}
use Rattle.json_print.proofs.LengthLemmas.{one_more}
use Rattle.json_print.proofs.lengths.LengthTokens.i64.Goals as goal

pub returns : goal.returns
returns c =
    let fits : FitsSigned w64 c.args.number = c.ranges.number in
    let number = simp to_z-of_z at c.format.ensures.text in
    let text = ap length number in
    let same : length c.format.result.now ≡ capped (length (signed_decimal c.args.number)) = omega (arith, text, c.format.ensures.short) in
    c.add.ensures ∙ one_more c.args.self.now (token.number (signed_decimal c.args.number)) _ same
