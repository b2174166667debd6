use Rattle.std.proofs.lemmas.Result.{on_ok_weaker}
use Rattle.json_print.proofs.TokenLemmas.{next}
use Rattle.json_print.proofs.fields.pairs_field.Goals as goal

pub returns-clause-written : goal.returns-clause-written
returns-clause-written g c = rw (← c.items.ensures.items) (on_ok_weaker c.pairs_object.result (λ last. next g.met.W.Tokens.then c.in_ok-key.ensures last) c.pairs_object.ensures)
