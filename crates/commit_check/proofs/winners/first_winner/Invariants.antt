use Rattle.std.proofs.Common.{◌≡◌, ◌+◌, map, drop}
use Rattle.std.specs.Arc.{arc_value}
use Rattle.commit_check.specs.Shown.{first_from, shown}
use Rattle.commit_check.proofs.winners.first_winner.Given as goal

abbrev pub invariant-loop-place : goal.invariant-loop-place
invariant-loop-place l = first_from (shown l.sign l.offered l.reading) (l.from + l.place) (drop l.place (map arc_value l.winners)) ≡ first_from (shown l.sign l.offered l.reading) l.from (map arc_value l.winners)
