use Rattle.std.proofs.lemmas.Result.{on_ok_weaker}
use Rattle.json_print.proofs.TokenLemmas.{next}
use Rattle.json_print.proofs.fields.texts_field.Goals as goal

pub returns : goal.returns
returns g c = rw (← c.items.ensures) (on_ok_weaker c.texts_array.result (λ last. next g.met.W.Tokens.then c.in_ok-key.ensures last) c.texts_array.ensures)
