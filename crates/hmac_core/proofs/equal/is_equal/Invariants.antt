use Rattle.std.proofs.Common.{◌≡◌, ◌↔◌, ℕ, ◌<◌, get_or}
use Rattle.hmac_core.proofs.equal.is_equal.Given as goal

-- no byte so far differs
abbrev pub invariant-loop-i : goal.invariant-loop-i
invariant-loop-i l = (l.differing ≡ 0) ↔ ((k : ℕ) → k < l.i → get_or l.one k 0 ≡ get_or l.other k 0)
