use Rattle.std.proofs.Common.{FitsSigned}
use Rattle.std.specs.Int.{w64}
use Rattle.std.proofs.lemmas.Int.{to_z-of_z}
use Rattle.std.proofs.lemmas.Result.{on_ok_weaker}
use Rattle.json_print.proofs.TokenLemmas.{next, whole_text}
use Rattle.json_print.proofs.fields.whole_field.Goals as goal

pub returns-clause-written : goal.returns-clause-written
returns-clause-written g c =
    let fits : FitsSigned w64 c.args.number = c.ranges.number in
    let written = simp to_z-of_z at c.i64.ensures in
    rw (whole_text c.args.number) (on_ok_weaker c.i64.result (λ last. next g.met.W.Tokens.then c.in_ok-key.ensures last) written)
