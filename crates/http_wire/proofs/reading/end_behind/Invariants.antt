use Rattle.std.proofs.Common.{◌+◌, ◌∷◌}
use Rattle.http_message.specs.Ends.{HasNoEndTo}
use Rattle.http_wire.proofs.reading.end_behind.Given as goal

abbrev pub invariant-loop-i : goal.invariant-loop-i
invariant-loop-i l = HasNoEndTo (10 ∷ l.bytes) 1 (l.i + 1)
