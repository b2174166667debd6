-- What the next message of a connection is.
use Rattle.std.specs.Prelude.{◌≡◌, ℕ, ◌⊎◌, Bool, true, false, List, ◌++◌, Option, Some, None, Result, Ok, Err, ⊤}
use Rattle.http_message.specs.Messages.{Reading, request, ended, truncated, bad, ReadsMessage}
use Rattle.http_message.specs.Sessions.{Request, Stop}
use Rattle.http_message.specs.Sessions as stop
use Rattle.http_wire.specs.Streams.{Buffer, IsEnd, Moves}
use Rattle.http_wire.specs.declared.wire.Message.{Message}
use Rattle.http_wire.specs.declared.wire.Message.TheVariants as message

-- what contracts see of the reading side of a connection: the bytes that were read and not used, with the place of the first of
-- them, and whether it is still open
pub record Connection : Type 0 where
  pub buffer : Buffer
  pub is_open : Bool

abbrev pub is_fault : {E : Type 0} → Result Message E → Bool
is_fault (Ok message.ReadFault) = true
is_fault _ = false

abbrev pub is_request : {E : Type 0} → Result Message E → Bool
is_request (Ok (message.Request at head body closes)) = true
is_request _ = false

-- P holds of the body of a request
abbrev pub OnRequest : {E : Type 0} → Result Message E → (List ℕ → Type 0) → Type 0
OnRequest (Ok (message.Request at head body closes)) P = P body.items
OnRequest _ P = ⊤

-- the request that the answer tells
abbrev pub request_of : {E : Type 0} → Result Message E → Option Request
request_of (Ok (message.Request at head body closes)) = Some (record { at = at; head = head; body = body.items; closes = closes })
request_of _ = None

-- what ends the messages, by the answer; a fault and want of memory say nothing of the stream
abbrev pub stop_of : {E : Type 0} → Result Message E → Option Stop
stop_of (Ok message.End) = Some stop.ended
stop_of (Ok (message.Truncated at)) = Some (stop.truncated at)
stop_of (Ok (message.Bad at flaw)) = Some (stop.bad at flaw)
stop_of _ = None

-- ---- where the stream is told

-- The answer at that place is a reading that holds, with what stands behind it.
abbrev pub Answers : {E : Type 0} → (Reads : Reading → Type 0) → ℕ → List ℕ → Result Message E → Type 0
Answers Reads place ys (Ok (message.Request at head body closes)) = (at ≡ place) × Reads (request head body.items closes ys)
Answers Reads place ys (Ok message.End) = Reads ended
Answers Reads place ys (Ok (message.Truncated at)) = (at ≡ place) × Reads truncated
Answers Reads place ys (Ok (message.Bad at flaw)) = (at ≡ place) × Reads (bad flaw)
Answers Reads place ys (Ok message.ReadFault) = ⊤
Answers Reads place ys (Err e) = ⊤

-- Of the stream xs from place p: the answer is its reading, and ys stands behind what was used, at place q.
pub record TellsMessage {E : Type 0} (xs : List ℕ) (p : ℕ) (ys : List ℕ) (q : ℕ) (r : Result Message E) : Type 0 where
  pub moves : Moves xs p ys q
  pub answers : Answers (ReadsMessage xs) p ys r

-- ---- of every source

-- Of a stream that begins with the used bytes and the rest: the answer at that place is its reading. A request and a refusal are told
-- whatever follows, an end where nothing does.
abbrev pub IsAnswer : {E : Type 0} → ℕ → (used rest : List ℕ) → Option (List ℕ) → Result Message E → Type 0
IsAnswer place used rest left (Ok (message.Request at head body closes)) =
    (at ≡ place) × ((ys : List ℕ) → ReadsMessage (used ++ ys) (request head body.items closes ys))
IsAnswer place used rest left (Ok message.End) = IsEnd left × ReadsMessage (used ++ rest) ended
IsAnswer place used rest left (Ok (message.Truncated at)) = (at ≡ place) × IsEnd left × ReadsMessage (used ++ rest) truncated
IsAnswer place used rest left (Ok (message.Bad at flaw)) = (at ≡ place) × ((ys : List ℕ) → ReadsMessage (used ++ (rest ++ ys)) (bad flaw))
IsAnswer place used rest left (Ok message.ReadFault) = ⊤
IsAnswer place used rest left (Err e) = ⊤

-- no message and no refusal is there yet: a stream of these bytes alone ends between messages, or inside one
abbrev pub IsShort : List ℕ → Type 0
IsShort bytes = ReadsMessage bytes ended ⊎ ReadsMessage bytes truncated

-- a request, or a refusal
abbrev pub is_settled : Reading → Bool
is_settled (request head body closes rest) = true
is_settled ended = false
is_settled truncated = false
is_settled (bad flaw) = true

-- the bytes begin with a whole request, or with what is refused
abbrev pub HoldsAnswer : List ℕ → Type 0
HoldsAnswer bytes = (reading : Reading) × ReadsMessage bytes reading × (is_settled reading ≡ true)
