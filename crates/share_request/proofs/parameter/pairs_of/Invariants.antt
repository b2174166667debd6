use Rattle.std.proofs.Common.{◌≡◌, ◌++◌, map}
use Rattle.form_urlencoded.specs.Parse.{owned_pairs_left}
use Rattle.share_request.specs.Parameters.{pair_of, pairs_in}
use Rattle.share_request.proofs.parameter.pairs_of.Given as goal

-- what is found, and the pairs that are left, are those of the query
abbrev pub invariant-loop-pair : goal.invariant-loop-pair
invariant-loop-pair l = l.pairs.items ++ map pair_of (owned_pairs_left l.pair-iterator) ≡ pairs_in l.query
