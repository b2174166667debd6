use Rattle.std.proofs.Common.{FitsSigned, rules}
use Rattle.std.specs.Int.{w64}
use Rattle.std.proofs.lemmas.Int.{to_z-of_z}
use Rattle.std.proofs.lemmas.Result.{on_ok_weaker}
use Rattle.json_print.proofs.TokenLemmas.{next, object_written}
use Rattle.log_actions.specs.Printing.{txn_fields}
use Rattle.log_actions.proofs.printing.txn_object.Goals as goal

pub returns-clause-written : goal.returns-clause-written
returns-clause-written g c =
    let fits : FitsSigned w64 c.args.txn.now.version = search rules in
    let version = simp to_z-of_z at c.in_ok-whole_field.ensures.written in
    rw (← object_written (txn_fields c.args.txn.now)) (on_ok_weaker c.end_object.result (λ last.
    next g.met.W.Tokens.then c.in_ok-begin_object.ensures
    (next g.met.W.Tokens.then c.in_ok-text_field.ensures
    (next g.met.W.Tokens.then c.in_ok-optional_whole_field.ensures.written
    (next g.met.W.Tokens.then version last)))) c.end_object.ensures)

pub returns-clause-kept : goal.returns-clause-kept
returns-clause-kept g c =
    let fits : FitsSigned w64 c.args.txn.now.version = search rules in
    on_ok_weaker c.end_object.result (λ last. record { version = fits; updated = c.in_ok-optional_whole_field.ensures.bound }) c.end_object.ensures
