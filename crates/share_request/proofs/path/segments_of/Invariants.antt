use Rattle.std.proofs.Common.{◌≡◌, ◌≤◌, ◌-◌, ◌++◌, length}
use Rattle.std.specs.Str.{IsUtf8}
use Rattle.share_request.specs.Paths.{segments_in}
use Rattle.share_request.proofs.path.segments_of.Given as goal

-- what is found, and the segments of what is left, are those of the path
abbrev pub invariant-loop-rest : goal.invariant-loop-rest
invariant-loop-rest l = record {
  found : l.segments.items ++ segments_in l.rest ≡ segments_in l.fn.path;
  few : length l.segments.items ≤ 8;
  text : IsUtf8 l.rest;
}

abbrev pub decreases-loop-rest : goal.decreases-loop-rest
decreases-loop-rest l = 8 - length l.segments.items
