-- What reading a head finds.
use Rattle.std.specs.Prelude.{◌≡◌, ℕ, ◌<◌, ◌≤◌, ◌⊎◌, List, ◌++◌, length, take, Option, Some, None, Result, Ok, Err, ⊤}
use Rattle.http_message.specs.Ends.{blank_len, TellsEnd}
use Rattle.http_message.specs.HeadReadings.{HeadReading, headed, nothing, cut, faulty, ReadsHeadText}
use Rattle.http_wire.specs.Streams.{IsEnd}
use Rattle.http_wire.specs.declared.head.HeadEnd.{HeadEnd}
use Rattle.http_wire.specs.declared.head.HeadEnd.TheVariants as end
use Rattle.http_wire.specs.declared.head.HeadRead.{HeadRead}
use Rattle.http_wire.specs.declared.head.HeadRead.TheVariants as read

-- where the first empty line of the head at the front of the stream ends, within so many bytes
abbrev pub TellsStreamEnd : ℕ → List ℕ → Option ℕ → Type 0
TellsStreamEnd most xs found = TellsEnd (take most xs) (blank_len (take most xs)) found

-- no head has ended, and there are fewer bytes than the most
pub record IsHeadOpen (most : ℕ) (bytes : List ℕ) : Type 0 where
  pub none : TellsStreamEnd most bytes None
  pub short : length bytes < most

-- the head ends at that place, whatever follows
pub record EndsAt (most : ℕ) (bytes : List ℕ) (place : ℕ) : Type 0 where
  pub found : (more : List ℕ) → TellsStreamEnd most (bytes ++ more) (Some place)
  pub within : place ≤ length bytes
  pub some : 0 < place
  pub fits : place ≤ most

abbrev pub TellsHeadEnd : {E : Type 0} → ℕ → List ℕ → Option (List ℕ) → Result HeadEnd E → Type 0
TellsHeadEnd most bytes left (Ok (end.At place)) = EndsAt most bytes place
TellsHeadEnd most bytes left (Ok end.TooLarge) = (most ≤ length bytes) × ((more : List ℕ) → TellsStreamEnd most (bytes ++ more) None)
TellsHeadEnd most bytes left (Ok end.Nothing) = IsEnd left × IsHeadOpen most bytes × (blank_len bytes ≡ length bytes)
TellsHeadEnd most bytes left (Ok end.Cut) = IsEnd left × IsHeadOpen most bytes × ¬ (blank_len bytes ≡ length bytes)
TellsHeadEnd most bytes left (Err e) = ⊤

-- what the text of a head is read as, by the grammar IsText
abbrev pub TellsText : {H : Type 0} → (List ℕ → H → Type 0) → ℕ → List ℕ → HeadRead H → Type 0
TellsText IsText size text (read.Whole head len) = (len ≡ size) × ((rest : List ℕ) → ReadsHeadText IsText text rest (headed head rest))
TellsText IsText size text (read.Refused flaw) = (rest : List ℕ) → ReadsHeadText IsText text rest (faulty flaw)
TellsText IsText size text read.Nothing = ⊥
TellsText IsText size text read.Cut = ⊥

-- Of a stream that begins with the used bytes and the rest: the reading that the answer tells. A head and a refusal are told whatever
-- follows, an end where nothing does.
abbrev pub HeadFound : {H E : Type 0} → (List ℕ → HeadReading H → Type 0) → (used rest : List ℕ) → Option (List ℕ) → Result (HeadRead H) E → Type 0
HeadFound Reads used rest left (Ok (read.Whole head len)) = (ys : List ℕ) → Reads (used ++ ys) (headed head ys)
HeadFound Reads used rest left (Ok read.Nothing) = IsEnd left × Reads (used ++ rest) nothing
HeadFound Reads used rest left (Ok read.Cut) = IsEnd left × Reads (used ++ rest) cut
HeadFound Reads used rest left (Ok (read.Refused flaw)) = (ys : List ℕ) → Reads (used ++ (rest ++ ys)) (faulty flaw)
HeadFound Reads used rest left (Err e) = ⊤

-- a stream of these bytes alone has no head, and no refusal
abbrev pub IsHeadShort : {H : Type 0} → (List ℕ → HeadReading H → Type 0) → List ℕ → Type 0
IsHeadShort Reads bytes = Reads bytes nothing ⊎ Reads bytes cut

-- a head has as many bytes as it tells, at least one and at most so many
abbrev pub IsCounted : {H E : Type 0} → ℕ → List ℕ → Result (HeadRead H) E → Type 0
IsCounted most used (Ok (read.Whole head len)) = (len ≡ length used) × (0 < len) × (len ≤ most)
IsCounted most used _ = ⊤

-- interim heads were passed over: what stands behind them is read with what is left of the room
pub record IsPassing {H : Type 0} (ReadsFinal : ℕ → List ℕ → HeadReading H → Type 0) (most room : ℕ) (used : List ℕ) : Type 0 where
  pub counted : room ≤ most
  pub goes : (ys : List ℕ) (reading : HeadReading H) → ReadsFinal room ys reading → ReadsFinal most (used ++ ys) reading
