-- The lines of a body in the delta format (Delta Sharing PROTOCOL.md, "API Response Format in Delta": newline-delimited JSON).
use Rattle.std.specs.Prelude.{ℕ, List, Bool, Option, None, Result, Ok, Err, Vec, IsTrue, IsUtf8, ◌&&◌, not, is_some, filter_map, length, nat_lt, if◌then◌else◌}
use Rattle.std.specs.List.{list_any, position_or_len}
use Rattle.std.specs.declared.alloc.Global.{Global}
use Rattle.serde_json.specs.Data.{Data}
use Rattle.json_tree.specs.Gives.{AnswersBy}
use Rattle.json_tree.specs.Tree.{tree_in}
use Rattle.json_tree.specs.declared.tree.TreeFault.{TreeFault}
use Rattle.json_print.specs.Lines.{lines as pieces}
use Rattle.share_lines.specs.Bodies.{lacks_memory, start_of}
use Rattle.share_lines.specs.declared.faults.LinesFault.{LinesFault}
use Rattle.share_lines.specs.declared.faults.LinesFault.TheVariants as fault
use Rattle.delta_lines.specs.Delta.{delta_line_text, is_printable}
use Rattle.delta_lines.specs.Kept.{Kept}
use Rattle.delta_lines.specs.Reading.{delta_line_in}
use Rattle.delta_lines.specs.declared.kinds.DeltaLine.{DeltaLine}

abbrev pub of_tree : Result Data TreeFault → Option DeltaLine
of_tree (Ok d) = delta_line_in d
of_tree (Err e) = None

-- the line that a text stands for
abbrev pub delta_line_at : List ℕ → Option DeltaLine
delta_line_at text = of_tree (tree_in text)

-- outside the grammar: neither empty nor a line
abbrev pub is_bad : List ℕ → Bool
is_bad piece = nat_lt 0 (length piece) && not (is_some (delta_line_at piece))

-- the lines that pieces stand for, or the place of the first piece that is outside the grammar
abbrev pub lines_of_pieces : List (List ℕ) → Result (List DeltaLine) LinesFault
lines_of_pieces ps = if list_any is_bad ps then Err (fault.Bad (start_of (position_or_len is_bad ps) ps)) else Ok (filter_map delta_line_at ps)

-- the lines of a body
abbrev pub delta_lines_in : List ℕ → Result (List DeltaLine) LinesFault
delta_lines_in bytes = lines_of_pieces (pieces bytes)

-- The answer is what the bytes stand for. Want of memory says nothing.
abbrev pub GivesLines : Result (Vec DeltaLine Global) LinesFault → Result (List DeltaLine) LinesFault → Type 0
GivesLines result what = AnswersBy lacks_memory (λ ls. ls.items) result what

-- a line that may be printed
pub record Printable (l : DeltaLine) : Type 0 where
  pub printable : IsTrue (is_printable l)
  pub kept : Kept l
  pub utf8 : IsUtf8 (delta_line_text l)
