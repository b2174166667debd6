use Rattle.http_message.specs.Ends.{HasNoEndTo}
use Rattle.http_message.proofs.ends.end_after.Given as goal

abbrev pub invariant-loop-i : goal.invariant-loop-i
invariant-loop-i l = HasNoEndTo l.bytes l.start l.i
