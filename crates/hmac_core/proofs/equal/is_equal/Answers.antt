use Rattle.std.proofs.Common.{arith}
use Rattle.hmac_core.proofs.Differing.{all_same, one_more}
use Rattle.hmac_core.proofs.equal.is_equal.Goals as goal

pub loop-i-preserved : goal.loop-i-preserved
loop-i-preserved c = one_more _ _ _ _ c.loop-i.invariant

pub returns : goal.returns
returns c = all_same _ c.loop-i.i _ _ (omega arith) (omega arith) c.loop-i.invariant
