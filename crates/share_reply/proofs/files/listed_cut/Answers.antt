use Rattle.std.proofs.Common.{arith}
use Rattle.share_reply.proofs.files.listed_cut.Goals as goal

pub returns : goal.returns
returns c = record { within = omega (arith, c.len.ensures, c.if-len-place.false); found_is = c.in_ok-files_cut.ensures.files; next_is = c.in_ok-files_cut.ensures.next }
