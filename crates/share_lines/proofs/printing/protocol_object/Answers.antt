use Rattle.std.proofs.lemmas.Result.{on_ok_weaker}
use Rattle.json_print.proofs.TokenLemmas.{next, object_written}
use Rattle.share_lines.specs.Printing.{protocol_fields}
use Rattle.share_lines.proofs.printing.protocol_object.Goals as goal

pub returns : goal.returns
returns g c =
    rw (← object_written protocol_fields) (on_ok_weaker c.end_object.result (λ last. next g.met.W.Tokens.then c.in_ok-begin_object.ensures (next g.met.W.Tokens.then c.in_ok-count_field.ensures last)) c.end_object.ensures)
