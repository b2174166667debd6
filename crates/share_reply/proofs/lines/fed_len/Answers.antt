use Rattle.std.proofs.Common.{◌∷◌, [], length-append, arith}
use Rattle.share_reply.proofs.lines.fed_len.Goals as goal

pub returns-in-Some : goal.returns-in-Some
returns-in-Some c = λ text is. omega (arith, is, length-append text (10 ∷ []))
