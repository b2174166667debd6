-- The lines of a text: newline-delimited JSON, the form of a log's entries (Delta Lake PROTOCOL.md, "Delta Log Entries") and of replies (Delta Sharing PROTOCOL.md, "API Response Format in Parquet").
use Rattle.std.specs.Prelude.{◌≡◌, ◌==◌, ℕ, List, [], ◌∷◌, Option, None, Some}
use Rattle.std.specs.List.{slice_split}

-- the pieces between line feeds
abbrev pub lines : List ℕ → List (List ℕ)
lines text = slice_split (λ b. b == 10) text

-- the lines of what is left
abbrev pub lines_left : Option (List ℕ) → List (List ℕ)
lines_left None = []
lines_left (Some text) = lines text

-- the first line, and what follows its line feed
abbrev pub IsCut : List ℕ → List ℕ → Option (List ℕ) → Type 0
IsCut text line rest = lines text ≡ line ∷ lines_left rest
