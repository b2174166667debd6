use Rattle.std.proofs.Common.{◌≡◌, drop}
use Rattle.share_request.specs.Parameters.{first_value}
use Rattle.share_request.proofs.parameter.first_value.Given as goal

abbrev pub invariant-loop-pair : goal.invariant-loop-pair
invariant-loop-pair l = first_value l.name (drop l.pair-index l.pairs) ≡ first_value l.name l.pairs
