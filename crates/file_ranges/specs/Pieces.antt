-- A text cut at a byte.
use Rattle.std.specs.Prelude.{ℕ, ◌+◌, ◌==◌, List, Option, option_map, position, take, drop}

-- the bytes before and behind the first one that is the separator
abbrev pub cut_at : ℕ → List ℕ → Option (List ℕ × List ℕ)
cut_at separator bytes = option_map (λ i. (take i bytes, drop (i + 1) bytes)) (position (λ b. b == separator) bytes)
