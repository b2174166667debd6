-- What reading as far as a part of a message needs finds.
use Rattle.std.specs.Prelude.{◌≡◌, ℕ, ◌+◌, ◌<◌, ◌≤◌, List, ◌∷◌, ◌++◌, length, take, drop, Option, Result, Ok, Err, ⊤}
use Rattle.httparse.specs.Grammar.{ChunkLine, print_chunk_line, chunk_size}
use Rattle.http_message.specs.Ends.{blank_len, IsFirstEnd, HasNoEnd}
use Rattle.http_message.specs.Lines.{IsLineAt, IsOpenLine, IsBadLine}
use Rattle.http_wire.specs.Streams.{IsEnd}
use Rattle.http_wire.specs.declared.reading.Blank.{Blank}
use Rattle.http_wire.specs.declared.reading.Blank.TheVariants as blank
use Rattle.http_wire.specs.declared.reading.EndIn.{EndIn}
use Rattle.http_wire.specs.declared.reading.EndIn.TheVariants as end
use Rattle.http_wire.specs.declared.reading.Line.{Line}
use Rattle.http_wire.specs.declared.reading.Line.TheVariants as line
use Rattle.http_wire.specs.declared.reading.Need.{Need}
use Rattle.http_wire.specs.declared.reading.Need.TheVariants as need

-- fewer than so many bytes, with these in front
abbrev pub IsFewer : ℕ → List ℕ → List ℕ → Type 0
IsFewer size front bytes = (more : List ℕ) × (bytes ≡ front ++ more) × (length bytes < size)

abbrev pub TellsNeed : {E : Type 0} → ℕ → List ℕ → Option (List ℕ) → Result Need E → Type 0
TellsNeed size bytes left (Ok need.Enough) = size ≤ length bytes
TellsNeed size bytes left (Ok need.Ended) = IsEnd left × (length bytes < size)
TellsNeed size bytes left (Err e) = ⊤

-- the first len bytes are that line, which announces the size
pub record IsLineFound (bytes : List ℕ) (len size : ℕ) (l : ChunkLine) : Type 0 where
  pub at : IsLineAt bytes l (drop len bytes)
  pub len_is : len ≡ length (print_chunk_line l)
  pub size_is : size ≡ chunk_size l

abbrev pub TellsLine : {E : Type 0} → List ℕ → Option (List ℕ) → Result Line E → Type 0
TellsLine bytes left (Ok (line.Size len size)) = (l : ChunkLine) × IsLineFound bytes len size l
TellsLine bytes left (Ok line.Ended) = IsEnd left × IsOpenLine bytes
TellsLine bytes left (Ok line.Bad) = IsBadLine bytes
TellsLine bytes left (Err e) = ⊤

-- fewer than two bytes stand behind the empty lines in front, and there are fewer than the most
abbrev pub IsBlankOpen : ℕ → List ℕ → Type 0
IsBlankOpen most bytes = (length bytes < most) × (length bytes < blank_len bytes + 2)

abbrev pub TellsBlank : {E : Type 0} → ℕ → List ℕ → Option (List ℕ) → Result Blank E → Type 0
TellsBlank most bytes left (Ok (blank.Start start)) = (start ≡ blank_len (take most bytes)) × (start + 2 ≤ length (take most bytes))
TellsBlank most bytes left (Ok blank.TooLarge) = (most ≤ length bytes) × (length (take most bytes) < blank_len (take most bytes) + 2)
TellsBlank most bytes left (Ok blank.Ended) = IsEnd left × IsBlankOpen most bytes
TellsBlank most bytes left (Err e) = ⊤

-- no empty line ends behind the start, and there are fewer bytes than the most, with these in front
abbrev pub IsEndOpen : ℕ → ℕ → List ℕ → List ℕ → Type 0
IsEndOpen most start front bytes = (more : List ℕ) × (bytes ≡ front ++ more) × HasNoEnd bytes start × (length bytes < most)

abbrev pub TellsEndIn : {E : Type 0} → ℕ → ℕ → List ℕ → Option (List ℕ) → Result EndIn E → Type 0
TellsEndIn most start bytes left (Ok (end.At place)) = IsFirstEnd (take most bytes) start place
TellsEndIn most start bytes left (Ok end.TooLarge) = HasNoEnd (take most bytes) start × (most ≤ length bytes)
TellsEndIn most start bytes left (Ok end.Ended) = IsEnd left × HasNoEnd bytes start × (length bytes < most)
TellsEndIn most start bytes left (Err e) = ⊤

-- the empty line of trailers hasn't ended
abbrev pub IsTrailersOpen : List ℕ → Type 0
IsTrailersOpen bytes = HasNoEnd (10 ∷ bytes) 1 × (length bytes < 16384)

abbrev pub TellsTrailersEnd : {E : Type 0} → List ℕ → Option (List ℕ) → Result EndIn E → Type 0
TellsTrailersEnd bytes left (Ok (end.At place)) = IsFirstEnd (10 ∷ take 16384 bytes) 1 (place + 1)
TellsTrailersEnd bytes left (Ok end.TooLarge) = HasNoEnd (10 ∷ take 16384 bytes) 1 × (16384 ≤ length bytes)
TellsTrailersEnd bytes left (Ok end.Ended) = IsEnd left × IsTrailersOpen bytes
TellsTrailersEnd bytes left (Err e) = ⊤
