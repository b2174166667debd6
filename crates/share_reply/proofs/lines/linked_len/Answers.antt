use Rattle.std.proofs.Common.{◌∷◌, [], length-append, arith}
use Rattle.share_reply.proofs.lines.linked_len.Goals as goal

pub returns-in-Ok : goal.returns-in-Ok
returns-in-Ok c = λ bare linked short long. omega (arith, short, long, length-append linked (10 ∷ []))
