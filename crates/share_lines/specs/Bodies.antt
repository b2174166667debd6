-- The lines of a body (Delta Sharing PROTOCOL.md, "API Response Format in Parquet": newline-delimited JSON).
use Rattle.std.specs.Prelude.{◌≡◌, ℕ, List, [], ◌∷◌, ◌++◌, Bool, true, false, Option, Some, None, Result, Ok, Err, ⊤, ◌&&◌, not, is_some, filter_map, flat_map, length, take, nat_lt, if◌then◌else◌}
use Rattle.std.specs.List.{list_any, position_or_len}
use Rattle.serde_json.specs.Data.{Data}
use Rattle.json_tree.specs.Gives.{Answers}
use Rattle.json_tree.specs.Tree.{tree_in}
use Rattle.json_tree.specs.declared.tree.TreeFault.{TreeFault}
use Rattle.json_print.specs.Lines.{lines as pieces}
use Rattle.share_lines.specs.Printing.{line_text}
use Rattle.share_lines.specs.Reading.{line_in}
use Rattle.share_lines.specs.declared.faults.LinesFault.{LinesFault}
use Rattle.share_lines.specs.declared.faults.LinesFault.TheVariants as fault
use Rattle.share_lines.specs.declared.kinds.Line.{Line}

abbrev pub of_tree : Result Data TreeFault → Option Line
of_tree (Ok d) = line_in d
of_tree (Err e) = None

-- the line that a text stands for
abbrev pub line_at : List ℕ → Option Line
line_at text = of_tree (tree_in text)

-- outside the grammar: neither empty nor a line
abbrev pub is_bad : List ℕ → Bool
is_bad piece = nat_lt 0 (length piece) && not (is_some (line_at piece))

-- where the piece of that number begins: behind those before it, each with its line feed
abbrev pub start_of : ℕ → List (List ℕ) → ℕ
start_of number ps = length (flat_map (λ p. p ++ 10 ∷ []) (take number ps))

-- the lines that pieces stand for, or the place of the first piece that is outside the grammar
abbrev pub lines_of_pieces : List (List ℕ) → Result (List Line) LinesFault
lines_of_pieces ps = if list_any is_bad ps then Err (fault.Bad (start_of (position_or_len is_bad ps) ps)) else Ok (filter_map line_at ps)

-- the lines of a body
abbrev pub lines_in : List ℕ → Result (List Line) LinesFault
lines_in bytes = lines_of_pieces (pieces bytes)

-- each line is read from its own text
abbrev pub AreReadBack : List Line → Type 0
AreReadBack [] = ⊤
AreReadBack (l ∷ ls) = (line_at (line_text l) ≡ Some l) × AreReadBack ls

abbrev pub lacks_memory : LinesFault → Bool
lacks_memory (fault.Bad at) = false
lacks_memory fault.NoMemory = true

-- The answer is what the bytes stand for. Want of memory says nothing.
abbrev pub GivesLines : Result (List Line) LinesFault → Result (List Line) LinesFault → Type 0
GivesLines result what = Answers lacks_memory result what
