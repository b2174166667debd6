use Rattle.std.proofs.Common.{◌≡◌, ◌∙◌, length}
use Rattle.json.specs.Token as token
use Rattle.json.specs.Print.{quoted}
use Rattle.json_print.specs.Lengths.{capped}
use Rattle.json_print.proofs.LengthLemmas.{one_more}
use Rattle.json_print.proofs.lengths.LengthTokens.string.Goals as goal

pub returns : goal.returns
returns c =
    let same : c.quoted_len.result ≡ capped (length (quoted c.args.text.now)) = c.quoted_len.ensures in
    c.add.ensures ∙ one_more c.args.self.now (token.string c.args.text.now) _ same
