use Rattle.std.proofs.lemmas.Result.{on_ok_weaker}
use Rattle.json_print.proofs.TokenLemmas.{next, object_written}
use Rattle.log_actions.specs.Printing.{commit_info_fields}
use Rattle.log_actions.proofs.printing.commit_info_object.Goals as goal

pub returns-clause-written : goal.returns-clause-written
returns-clause-written g c =
    rw (← object_written (commit_info_fields c.args.info.now)) (on_ok_weaker c.end_object.result (λ last.
    next g.met.W.Tokens.then c.in_ok-begin_object.ensures
    (next g.met.W.Tokens.then c.in_ok-optional_time_field.ensures.written last)) c.end_object.ensures)

pub returns-clause-kept : goal.returns-clause-kept
returns-clause-kept g c = on_ok_weaker c.end_object.result (λ last. c.in_ok-optional_time_field.ensures.bound) c.end_object.ensures
