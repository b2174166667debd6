use Rattle.std.proofs.Common.{◌≡◌, take, length}
use Rattle.hmac_core.specs.Hmac.{padded_with}
use Rattle.hmac_core.proofs.key.xor_pad.Given as goal

-- the bytes so far
abbrev pub invariant-loop-i : goal.invariant-loop-i
invariant-loop-i l = record {
  long : length l.out ≡ 64;
  done : take l.i l.out ≡ padded_with l.pad (take l.i l.block);
}
