use Rattle.std.proofs.Common.{◌≡◌, ◌+◌, ◌≤◌, length, option_copied}
use Rattle.std.specs.Option.{option_map_or}
use Rattle.json_print.specs.Lines.{lines_left as pieces_left}
use Rattle.share_lines.specs.Bodies.{lines_in}
use Rattle.share_lines.proofs.Pieces.{read_from}
use Rattle.share_lines.proofs.bodies.lines_of.Given as goal

-- what was read, and what the pieces left stand for, is what all stand for
abbrev pub invariant-loop-rest : goal.invariant-loop-rest
invariant-loop-rest l = record {
  read : read_from l.at l.lines.items (pieces_left (option_copied l.rest)) ≡ lines_in l.bytes;
  few : l.at + option_map_or (λ t. length t.now + 1) l.rest 0 ≤ length l.bytes + 1;
}

abbrev pub decreases-loop-rest : goal.decreases-loop-rest
decreases-loop-rest l = option_map_or (λ t. length t.now + 1) l.rest 0
