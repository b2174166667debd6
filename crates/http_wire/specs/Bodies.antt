-- What reading the parts of a body finds.
use Rattle.std.specs.Prelude.{◌≡◌, ℕ, ◌-◌, ◌<◌, ◌≤◌, List, [], ◌++◌, length, take, drop, Option, Some, None, Result, Ok, Err, ⊤}
use Rattle.httparse.specs.Ascii.{crlf_bytes}
use Rattle.http_message.specs.Bodies.{BodyReading, whole, unended, refused, behind, Chunk, IsChunk, print_chunk, content_stop, ReadsChunked, ReadsTrailersText}
use Rattle.http_message.specs.ResponseMessages.{ReadsResponseBody}
use Rattle.http_message.specs.declared.framing.Form.{Form}
use Rattle.http_wire.specs.Streams.{IsEnd}
use Rattle.http_wire.specs.declared.body.BodyRead.{BodyRead}
use Rattle.http_wire.specs.declared.body.BodyRead.TheVariants as body
use Rattle.http_wire.specs.declared.chunk.Part.{Part}
use Rattle.http_wire.specs.declared.chunk.Part.TheVariants as part
use Rattle.http_wire.specs.declared.reading.Need.{Need}
use Rattle.http_wire.specs.declared.reading.Need.TheVariants as need

-- so many bytes were used, or all where the input ended
abbrev pub TookBytes : {E : Type 0} → ℕ → (used rest : List ℕ) → Option (List ℕ) → Result Need E → Type 0
TookBytes size used rest left (Ok need.Enough) = length used ≡ size
TookBytes size used rest left (Ok need.Ended) = IsEnd left × (rest ≡ []) × (length used < size)
TookBytes size used rest left (Err e) = ⊤

-- Of a stream that begins with the used bytes and the rest: a part that was used, behind which the body goes on; the end of the body; or
-- what stops it, by what Reads says of the stream.
abbrev pub PartFound : {E : Type 0} → (List ℕ → Type 0) → (List ℕ → BodyReading → Type 0) → (used rest : List ℕ) → Option (List ℕ) → Result Part E → Type 0
PartFound Goes Reads used rest left (Ok part.More) = Goes used
PartFound Goes Reads used rest left (Ok part.Whole) = (ys : List ℕ) → Reads (used ++ ys) (whole [] ys)
PartFound Goes Reads used rest left (Ok part.Ended) = IsEnd left × Reads (used ++ rest) unended
PartFound Goes Reads used rest left (Ok (part.Refused flaw)) = (ys : List ℕ) → Reads (used ++ (rest ++ ys)) (refused flaw)
PartFound Goes Reads used rest left (Err e) = ⊤

-- what stops the content of a chunk of that size
abbrev pub StopsContent : ℕ → List ℕ → BodyReading → Type 0
StopsContent size stream reading = content_stop size stream ≡ Some reading

-- content of that size is there, with CR LF behind it
abbrev pub IsContentThere : ℕ → List ℕ → Type 0
IsContentThere size bytes = take 2 (drop size bytes) ≡ crlf_bytes

-- the used bytes are content of that size and CR LF, and the content went behind the body
abbrev pub IsContent : ℕ → (body body_new : List ℕ) → List ℕ → Type 0
IsContent size body body_new used =
    (content : List ℕ) × (length content ≡ size) × (used ≡ content ++ crlf_bytes) × (body_new ≡ body ++ content)

-- the used bytes are a chunk that fits, and its content went behind the body
abbrev pub IsNextChunk : ℕ → (body body_new : List ℕ) → List ℕ → Type 0
IsNextChunk room body body_new used =
    (c : Chunk) × IsChunk c × (length c.content ≤ room) × (used ≡ print_chunk c) × (body_new ≡ body ++ c.content)

-- what the text of trailers is read as
abbrev pub TellsTrailersText : List ℕ → Part → Type 0
TellsTrailersText text part.Whole = (rest : List ℕ) → ReadsTrailersText text rest (whole [] rest)
TellsTrailersText text (part.Refused flaw) = (rest : List ℕ) → ReadsTrailersText text rest (refused flaw)
TellsTrailersText text part.More = ⊥
TellsTrailersText text part.Ended = ⊥

-- chunks were used, whose content the body is: what stands behind them is read with what is left of the room
pub record IsChunking (most : ℕ) (content used : List ℕ) : Type 0 where
  pub fits : length content ≤ most
  pub goes : (ys : List ℕ) (reading : BodyReading) → ReadsChunked (most - length content) ys reading → ReadsChunked most (used ++ ys) (behind content reading)

-- ---- whole bodies, by their form

-- a body of that form ends whatever follows; without a form it ends where nothing does
abbrev pub IsWhole : ℕ → Option Form → (content used rest : List ℕ) → Option (List ℕ) → Type 0
IsWhole most (Some form) content used rest left = (ys : List ℕ) → ReadsResponseBody most (Ok (Some form)) (used ++ ys) (whole content ys)
IsWhole most None content used rest left = IsEnd left × (rest ≡ []) × ReadsResponseBody most (Ok None) (used ++ rest) (whole content [])

abbrev pub BodyFound : {E : Type 0} → ℕ → Option Form → (content used rest : List ℕ) → Option (List ℕ) → Result BodyRead E → Type 0
BodyFound most form content used rest left (Ok body.Whole) = IsWhole most form content used rest left
BodyFound most form content used rest left (Ok body.Ended) = IsEnd left × ReadsResponseBody most (Ok form) (used ++ rest) unended
BodyFound most form content used rest left (Ok (body.Refused flaw)) = (ys : List ℕ) → ReadsResponseBody most (Ok form) (used ++ (rest ++ ys)) (refused flaw)
BodyFound most form content used rest left (Err e) = ⊤

-- a stream of these bytes alone ends inside the body, or the body goes on to the end of the stream
abbrev pub IsBodyShort : ℕ → Option Form → List ℕ → Type 0
IsBodyShort most (Some form) bytes = ReadsResponseBody most (Ok (Some form)) bytes unended
IsBodyShort most None bytes = length bytes ≤ most
