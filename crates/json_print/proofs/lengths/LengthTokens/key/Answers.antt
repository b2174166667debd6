use Rattle.std.proofs.Common.{◌≡◌, ◌∙◌, ◌++◌, ◌∷◌, [], length, length-append, arith}
use Rattle.json.specs.Token as token
use Rattle.json.specs.Print.{quoted}
use Rattle.json_print.specs.Lengths.{capped}
use Rattle.json_print.proofs.LengthLemmas.{one_more}
use Rattle.json_print.proofs.lengths.LengthTokens.key.Goals as goal

pub returns : goal.returns
returns c =
    let added = length-append (quoted c.args.name.now) (58 ∷ []) in
    let same : c.saturating_add.result ≡ capped (length (quoted c.args.name.now ++ 58 ∷ [])) = omega (arith, added, c.quoted_len.ensures, c.saturating_add.ensures) in
    c.add.ensures ∙ one_more c.args.self.now (token.key c.args.name.now) _ same
