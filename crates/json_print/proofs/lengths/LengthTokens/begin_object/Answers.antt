use Rattle.std.proofs.Common.{◌∙◌, refl}
use Rattle.json.specs.Token as token
use Rattle.json_print.proofs.LengthLemmas.{one_more}
use Rattle.json_print.proofs.lengths.LengthTokens.begin_object.Goals as goal

pub returns : goal.returns
returns c = c.add.ensures ∙ one_more c.args.self.now token.begin_object 1 (refl)
