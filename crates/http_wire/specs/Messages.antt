-- What reading a message behind its head finds.
use Rattle.std.specs.Prelude.{◌≡◌, ℕ, List, ◌++◌, Option, Result, Ok, Err, ⊤}
use Rattle.http_message.specs.HeadReadings.{headed}
use Rattle.http_message.specs.Messages.{ReadsBehindHead, Reading, request, truncated, bad}
use Rattle.http_message.specs.declared.head.Head.{Head}
use Rattle.http_wire.specs.Streams.{IsEnd}
use Rattle.http_wire.specs.declared.wire.Message.{Message}
use Rattle.http_wire.specs.declared.wire.Message.TheVariants as message

-- no fault is told
abbrev pub IsNoFault : {E : Type 0} → Result Message E → Type 0
IsNoFault (Ok message.ReadFault) = ⊥
IsNoFault _ = ⊤

-- what stands behind the head is read so
abbrev pub ReadsBehind : Head → List ℕ → Reading → Type 0
ReadsBehind head stream reading = ReadsBehindHead 16777216 (headed head stream) reading

abbrev pub IsShortBehind : Head → List ℕ → Type 0
IsShortBehind head bytes = ReadsBehind head bytes truncated

-- the answer behind the head of the message at that place
abbrev pub IsBehindHead : {E : Type 0} → Head → ℕ → (used rest : List ℕ) → Option (List ℕ) → Result Message E → Type 0
IsBehindHead head place used rest left (Ok (message.Request at h body closes)) =
    (at ≡ place) × ((ys : List ℕ) → ReadsBehind head (used ++ ys) (request h body.items closes ys))
IsBehindHead head place used rest left (Ok message.End) = ⊥
IsBehindHead head place used rest left (Ok (message.Truncated at)) = (at ≡ place) × IsEnd left × ReadsBehind head (used ++ rest) truncated
IsBehindHead head place used rest left (Ok (message.Bad at flaw)) = (at ≡ place) × ((ys : List ℕ) → ReadsBehind head (used ++ (rest ++ ys)) (bad flaw))
IsBehindHead head place used rest left (Ok message.ReadFault) = ⊥
IsBehindHead head place used rest left (Err e) = ⊤
