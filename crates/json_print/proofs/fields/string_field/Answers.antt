use Rattle.std.proofs.lemmas.Result.{on_ok_weaker}
use Rattle.json_print.proofs.TokenLemmas.{next}
use Rattle.json_print.proofs.fields.string_field.Goals as goal

pub returns : goal.returns
returns g c = on_ok_weaker c.string.result (λ last. next g.met.W.Tokens.then c.in_ok-key.ensures last) c.string.ensures
