use Rattle.std.proofs.Common.{◌≡◌, ◌∙◌, length, decimal, ap, arith}
use Rattle.json.specs.Token as token
use Rattle.json_print.specs.Lengths.{capped}
use Rattle.json_print.proofs.LengthLemmas.{one_more}
use Rattle.json_print.proofs.lengths.LengthTokens.u64.Goals as goal

pub returns : goal.returns
returns c =
    let text = ap length c.format.ensures.text in
    let same : length c.format.result.now ≡ capped (length (decimal c.args.count)) = omega (arith, text, c.format.ensures.short) in
    c.add.ensures ∙ one_more c.args.self.now (token.number (decimal c.args.count)) _ same
