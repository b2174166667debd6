use Rattle.std.proofs.Common.{◌≡◌, length}
use Rattle.share_request.specs.Bearers.{skip_spaces}
use Rattle.share_request.proofs.bearer.skip_spaces.Given as goal

abbrev pub invariant-loop-bytes : goal.invariant-loop-bytes
invariant-loop-bytes l = skip_spaces l.bytes ≡ skip_spaces l.fn.bytes

abbrev pub decreases-loop-bytes : goal.decreases-loop-bytes
decreases-loop-bytes l = length l.bytes
