use Rattle.std.proofs.Common.{◌≡◌, ◌≤◌, length, take}
use Rattle.std.specs.Io.KnownBytes.{append_known}
use Rattle.share_reply.specs.Formats.{body_of}
use Rattle.share_serve.proofs.send.send_each.Given as goal

abbrev pub invariant-loop-n : goal.invariant-loop-n
invariant-loop-n g l = record {
  end : l.n-end ≡ length l.lines;
  later : g.K.Sink.faults l.initial.sink ≤ g.K.Sink.faults l.sink;
  written : g.K.Sink.holds l.sink ≡ append_known (g.K.Sink.holds l.initial.sink) (body_of (take l.n l.lines));
}
