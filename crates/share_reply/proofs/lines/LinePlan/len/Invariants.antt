use Rattle.std.proofs.Common.{◌≡◌, length, take}
use Rattle.share_reply.specs.Formats.{body_of}
use Rattle.share_reply.proofs.lines.LinePlan.len.Given as goal

abbrev pub invariant-loop-n : goal.invariant-loop-n
invariant-loop-n l = record {
  end : l.n-end ≡ length l.self;
  bytes : l.bytes ≡ length (body_of (take l.n l.self));
}
