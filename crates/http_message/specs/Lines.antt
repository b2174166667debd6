-- The line in front of a chunk (RFC 9112, section 7.1), of at most 256 bytes with its CR LF.
use Rattle.std.specs.Prelude.{◌≡◌, ℕ, ◌<◌, ◌≤◌, ◌⊎◌, List, ◌++◌, length, drop, Option, Result, MatchOption, MatchResult}
use Rattle.httparse.specs.Grammar.{ChunkLine, IsChunkLine, print_chunk_line, chunk_size, HasNoChunkLine, MayBecomeChunkLine, NeverHasChunkLine}

-- the stream is that line and then rest
pub record IsLineAt (stream : List ℕ) (line : ChunkLine) (rest : List ℕ) : Type 0 where
  pub valid : IsChunkLine line
  pub short : length (print_chunk_line line) ≤ 256
  pub spelled : stream ≡ print_chunk_line line ++ rest

-- the stream is the front of a line that hasn't ended
pub record IsOpenLine (stream : List ℕ) : Type 0 where
  pub none : HasNoChunkLine stream
  pub may : MayBecomeChunkLine stream
  pub short : length stream < 256

-- no line of at most 256 bytes is in front, and 256 bytes are there
pub record IsLongLine (stream : List ℕ) : Type 0 where
  pub long : 256 ≤ length stream
  pub none : (line : ChunkLine) (rest : List ℕ) → ¬ (IsLineAt stream line rest)

-- nothing that follows makes the front a line, or none of at most 256 bytes is there
abbrev pub IsBadLine : List ℕ → Type 0
IsBadLine stream = NeverHasChunkLine stream ⊎ IsLongLine stream

-- what the bytes begin with: a line of that length and size, an open line, or a bad one
abbrev pub TellsLine : {E : Type 0} → List ℕ → Result (Option (ℕ × ℕ)) E → Type 0
TellsLine bytes r =
    MatchResult r
    (λ found. MatchOption found (IsOpenLine bytes) (λ p. (line : ChunkLine) × IsLineAt bytes line (drop p.0 bytes) × (p.0 ≡ length (print_chunk_line line)) × (p.1 ≡ chunk_size line)))
    (λ _. IsBadLine bytes)
