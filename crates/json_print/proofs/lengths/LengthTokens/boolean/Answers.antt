use Rattle.std.proofs.Common.{◌≡◌, ◌∙◌, length}
use Rattle.json.specs.Token as token
use Rattle.json.specs.Print.{token_text}
use Rattle.json_print.specs.Lengths.{capped}
use Rattle.json_print.proofs.LengthLemmas.{one_more, flag_length}
use Rattle.json_print.proofs.lengths.LengthTokens.boolean.Goals as goal

pub returns : goal.returns
returns c =
    let same : c.flag_len.result ≡ capped (length (token_text (token.boolean c.args.flag))) = c.flag_len.ensures ∙ flag_length c.args.flag in
    c.add.ensures ∙ one_more c.args.self.now (token.boolean c.args.flag) _ same
