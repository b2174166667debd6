use Rattle.std.proofs.Common.{FitsSigned, rules}
use Rattle.std.specs.Int.{w64}
use Rattle.std.proofs.lemmas.Int.{to_z-of_z}
use Rattle.std.proofs.lemmas.Result.{on_ok_weaker}
use Rattle.json_print.proofs.TokenLemmas.{next, object_written}
use Rattle.log_actions.specs.Printing.{add_fields_at}
use Rattle.log_actions.proofs.printing.push_add.Goals as goal

pub returns-clause-written : goal.returns-clause-written
returns-clause-written g c =
    let fits : FitsSigned w64 c.args.file.now.modified = search rules in
    let modified = simp to_z-of_z at c.in_ok-whole_field.ensures.written in
    rw (← object_written (add_fields_at c.args.path.now c.args.file.now)) (on_ok_weaker c.end_object.result (λ last.
    next g.met.W.Tokens.then c.in_ok-begin_object.ensures
    (next g.met.W.Tokens.then c.in_ok-flag_field.ensures
    (next g.met.W.Tokens.then modified
    (next g.met.W.Tokens.then c.in_ok-pairs_field.ensures.written
    (next g.met.W.Tokens.then c.in_ok-text_field.ensures
    (next g.met.W.Tokens.then c.in_ok-size_field.ensures.written
    (next g.met.W.Tokens.then c.in_ok-optional_text_field.ensures
    (next g.met.W.Tokens.then c.in_ok-optional_pairs_field.ensures.written last)))))))) c.end_object.ensures)

pub returns-clause-kept : goal.returns-clause-kept
returns-clause-kept g c =
    let fits : FitsSigned w64 c.args.file.now.modified = search rules in
    on_ok_weaker c.end_object.result (λ last. record {
      values = c.in_ok-pairs_field.ensures.order;
      size = c.in_ok-size_field.ensures.bound;
      modified = fits;
      tags = c.in_ok-optional_pairs_field.ensures.order;
    }) c.end_object.ensures
