use Rattle.std.proofs.Common.{◌≡◌, ℕ, ◌+◌, ◌-◌, ◌≤◌, List, ◌++◌, length, take, drop}
use Rattle.http_message.specs.Ends.{blank_len}
use Rattle.http_wire.specs.Fills.{Awaits}
use Rattle.http_wire.specs.Parts.{IsBlankOpen}
use Rattle.http_wire.proofs.reading.await_start.Given as goal

abbrev pub invariant-turns : goal.invariant-turns
invariant-turns g l = record {
  draws : Awaits g.S.Source.left (IsBlankOpen l.most) l.initial.inbox l.inbox l.initial.source l.source;
  later : g.S.Source.faults l.initial.source ≤ g.S.Source.faults l.source;
  within : l.known ≤ length (take l.most l.inbox.0);
  known : (ys : List ℕ) → l.known + blank_len (drop l.known (take l.most l.inbox.0 ++ ys)) ≡ blank_len (take l.most l.inbox.0 ++ ys);
}

abbrev pub decreases-turns : goal.decreases-turns
decreases-turns g l = l.most - length l.inbox.0
