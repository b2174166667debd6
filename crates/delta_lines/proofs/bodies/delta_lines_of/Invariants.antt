use Rattle.std.proofs.Common.{◌≡◌, ◌+◌, ◌≤◌, length, option_copied}
use Rattle.std.specs.Option.{option_map_or}
use Rattle.json_print.specs.Lines.{lines_left as pieces_left}
use Rattle.delta_lines.specs.Bodies.{delta_lines_in}
use Rattle.delta_lines.proofs.ReadPieces.{read_from}
use Rattle.delta_lines.proofs.bodies.delta_lines_of.Given as goal

-- what was read, and what the pieces left stand for, is what all stand for
abbrev pub invariant-loop-unread : goal.invariant-loop-unread
invariant-loop-unread l = record {
  read : read_from l.place l.lines.items (pieces_left (option_copied l.unread)) ≡ delta_lines_in l.bytes;
  few : l.place + option_map_or (λ t. length t.now + 1) l.unread 0 ≤ length l.bytes + 1;
}

abbrev pub decreases-loop-unread : goal.decreases-loop-unread
decreases-loop-unread l = option_map_or (λ t. length t.now + 1) l.unread 0
