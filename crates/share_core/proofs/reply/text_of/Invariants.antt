use Rattle.std.proofs.Common.{◌≡◌, length, take}
use Rattle.share_reply.specs.Formats.{body_of}
use Rattle.share_core.proofs.reply.text_of.Given as goal

abbrev pub invariant-loop-n : goal.invariant-loop-n
invariant-loop-n l = record {
  end : l.n-end ≡ length l.lines;
  text : l.text.items ≡ body_of (take l.n l.lines);
}
