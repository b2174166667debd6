use Rattle.std.proofs.Common.{◌∙◌, refl}
use Rattle.json.specs.Token as token
use Rattle.json_print.proofs.LengthLemmas.{one_more}
use Rattle.json_print.proofs.lengths.LengthTokens.null.Goals as goal

pub returns : goal.returns
returns c = c.add.ensures ∙ one_more c.args.self.now token.null 4 (refl)
