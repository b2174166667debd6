use Rattle.std.proofs.Common.{◌≡◌, ◌<◌, ◌+◌, ◌-◌, ◌≤◌, length}
use Rattle.std.specs.Prelude.{vec_len}
use Rattle.std.specs.Io.KnownBytes.{prepend_known}
use Rattle.query_command.specs.Query.{input_limit}
use Rattle.query_command.proofs.input.read_input.Given as goal

abbrev pub invariant-loop-input : goal.invariant-loop-input
invariant-loop-input g l = record {
  room : 0 < vec_len l.piece;
  read : g.S.Source.left l.fn.input ≡ prepend_known l.bytes.items (g.S.Source.left l.input);
  later : g.S.Source.faults l.fn.input ≤ g.S.Source.faults l.input;
}

abbrev pub decreases-loop-input : goal.decreases-loop-input
decreases-loop-input g l = input_limit + 1 - length l.bytes.items
