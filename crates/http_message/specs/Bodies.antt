-- What stands where a body begins (RFC 9112, sections 6 and 7).
use Rattle.std.specs.Prelude.{◌≡◌, ℕ, ◌+◌, ◌-◌, ◌<◌, ◌≤◌, ◌⊎◌, ◌==◌, not, nat_lt, nat_le, List, [], ◌∷◌, ◌++◌, length, take, drop, slice_index, Option, Some, None, Result, Ok, Err, MatchBool, if◌then◌else◌}
use Rattle.httparse.specs.Ascii.{crlf_bytes}
use Rattle.httparse.specs.Grammar.{ChunkLine, IsChunkLine, print_chunk_line, chunk_size}
use Rattle.http_message.specs.Ends.{TellsEnd, line_count}
use Rattle.http_message.specs.Heads.{IsTrailersText}
use Rattle.http_message.specs.Lines.{IsLineAt, IsOpenLine, IsBadLine}
use Rattle.http_message.specs.declared.refusal.Flaw.{Flaw}
use Rattle.http_message.specs.declared.refusal.Flaw.TheVariants.{BadMessage, BodyTooLarge, HeadTooLarge}
use Rattle.http_message.specs.declared.framing.Form.{Form}
use Rattle.http_message.specs.declared.framing.Form.TheVariants as form

-- A body with what stands behind it, a body that the stream ends inside, or a refusal.
pub data BodyReading : Type 0 where
  whole : List ℕ → List ℕ → BodyReading
  unended : BodyReading
  refused : Flaw → BodyReading

-- the reading, with that content in front of the body
abbrev pub behind : List ℕ → BodyReading → BodyReading
behind content (whole body rest) = whole (content ++ body) rest
behind content unended = unended
behind content (refused flaw) = refused flaw

-- ---- a body of a given length

abbrev pub sized_body : ℕ → List ℕ → BodyReading
sized_body size stream = if nat_le size (length stream) then whole (take size stream) (drop size stream) else unended

-- ---- trailers: at most 64 field lines, and an empty line that ends within 16,384 bytes

abbrev pub ReadsTrailersText : (text rest : List ℕ) → BodyReading → Type 0
ReadsTrailersText text rest reading =
    MatchBool (nat_lt 65 (line_count text)) (reading ≡ refused HeadTooLarge)
    ((IsTrailersText text × (reading ≡ whole [] rest)) ⊎ (¬ (IsTrailersText text) × (reading ≡ refused BadMessage)))

-- by where the empty line ends, counted from the line feed in front of the trailers
abbrev pub ReadsTrailersTo : List ℕ → Option ℕ → BodyReading → Type 0
ReadsTrailersTo stream None reading = reading ≡ (if nat_le 16384 (length stream) then refused HeadTooLarge else unended)
ReadsTrailersTo stream (Some end) reading = ReadsTrailersText (take (end - 1) stream) (drop (end - 1) stream) reading

abbrev pub ReadsTrailers : List ℕ → BodyReading → Type 0
ReadsTrailers stream reading =
    (found : Option ℕ) × TellsEnd (10 ∷ take 16384 stream) 1 found × ReadsTrailersTo stream found reading

-- ---- chunks

-- a line, and content
pub record Chunk : Type 0 where
  pub line : ChunkLine
  pub content : List ℕ

-- the content isn't empty, and as long as the line says, which has at most 256 bytes
pub record IsChunk (c : Chunk) : Type 0 where
  pub valid : IsChunkLine c.line
  pub short : length (print_chunk_line c.line) ≤ 256
  pub size : chunk_size c.line ≡ length c.content
  pub some : 0 < length c.content

abbrev pub print_chunk : Chunk → List ℕ
print_chunk c = print_chunk_line c.line ++ (c.content ++ crlf_bytes)

-- what stands behind the line of a chunk of that size, where that isn't the content and CR LF
abbrev pub content_stop : ℕ → List ℕ → Option BodyReading
content_stop size stream =
    if nat_le (length stream) size then Some unended
    else if not (slice_index stream size == 13) then Some (refused BadMessage)
    else if nat_le (length stream) (size + 1) then Some unended
    else if not (slice_index stream (size + 1) == 10) then Some (refused BadMessage)
    else None

-- behind a line of that size, with room for so many bytes
abbrev pub StopsBehindLine : ℕ → ℕ → List ℕ → BodyReading → Type 0
StopsBehindLine room size stream reading =
    MatchBool (nat_lt room size) (reading ≡ refused BodyTooLarge)
    (MatchBool (size == 0) (ReadsTrailers stream reading) (content_stop size stream ≡ Some reading))

-- where no whole chunk that fits is in front
abbrev pub Stops : ℕ → List ℕ → BodyReading → Type 0
Stops room stream reading =
    (IsBadLine stream × (reading ≡ refused BadMessage))
    ⊎ ((IsOpenLine stream × (reading ≡ unended))
    ⊎ ((line : ChunkLine) × (rest : List ℕ) × IsLineAt stream line rest × StopsBehindLine room (chunk_size line) rest reading))

-- these chunks, and then what stops them
abbrev pub ReadsChunks : ℕ → List Chunk → List ℕ → BodyReading → Type 0
ReadsChunks room [] stream reading = Stops room stream reading
ReadsChunks room (c ∷ chunks) stream reading =
    IsChunk c × (length c.content ≤ room)
    × (rest : List ℕ) × (stream ≡ print_chunk c ++ rest)
    × (later : BodyReading) × ReadsChunks (room - length c.content) chunks rest later × (reading ≡ behind c.content later)

abbrev pub ReadsChunked : ℕ → List ℕ → BodyReading → Type 0
ReadsChunked room stream reading = (chunks : List Chunk) × ReadsChunks room chunks stream reading

-- ---- by the form

abbrev pub ReadsBody : ℕ → Result Form Flaw → List ℕ → BodyReading → Type 0
ReadsBody most (Err flaw) stream reading = reading ≡ refused flaw
ReadsBody most (Ok (form.Length size)) stream reading = reading ≡ sized_body size stream
ReadsBody most (Ok form.Chunked) stream reading = ReadsChunked most stream reading
