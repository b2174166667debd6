use Rattle.std.proofs.Common.{◌≡◌, ◌+◌, ◌++◌, ◌≤◌, length, option_copied}
use Rattle.std.specs.Option.{option_map_or}
use Rattle.json_print.specs.Lines.{lines, lines_left}
use Rattle.log_commit.specs.Passes.{line_fault, read_actions, read_numbers}
use Rattle.log_commit.proofs.lines.read_lines.Given as goal

-- what was found, and what the lines left give, are what all give
abbrev pub invariant-loop-rest : goal.invariant-loop-rest
invariant-loop-rest l = record {
  fault : line_fault (l.n + 1) (lines_left (option_copied l.rest)) ≡ line_fault 1 (lines l.bytes);
  numbers : l.found.numbers.items ++ read_numbers (l.n + 1) (lines_left (option_copied l.rest)) ≡ read_numbers 1 (lines l.bytes);
  actions : l.found.actions.items ++ read_actions (lines_left (option_copied l.rest)) ≡ read_actions (lines l.bytes);
  few : l.n + option_map_or (λ t. length t.now + 1) l.rest 0 ≤ length l.bytes + 1;
}

abbrev pub decreases-loop-rest : goal.decreases-loop-rest
decreases-loop-rest l = option_map_or (λ t. length t.now + 1) l.rest 0
