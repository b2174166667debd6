use Rattle.std.proofs.Common.{◌≡◌, ◌+◌, length}
use Rattle.json.specs.Print.{escape}
use Rattle.json_print.specs.Lengths.{capped}
use Rattle.json_print.proofs.lengths.quoted_len.Given as goal

abbrev pub invariant-loop-rest : goal.invariant-loop-rest
invariant-loop-rest l = capped (l.bytes + length (escape l.rest)) ≡ capped (length (escape l.fn.text) + 2)

abbrev pub decreases-loop-rest : goal.decreases-loop-rest
decreases-loop-rest l = length l.rest
