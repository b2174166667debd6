-- What reading a response behind its last head finds.
use Rattle.std.specs.Prelude.{◌≡◌, ℕ, ◌≤◌, ◌⊎◌, Bool, List, [], ◌++◌, length, Option, None, Result, Ok, Err, ⊤}
use Rattle.http_message.specs.HeadReadings.{headed}
use Rattle.http_message.specs.ResponseMessages.{ReadsBehindResponse, ResponseReading, response, truncated, bad}
use Rattle.http_message.specs.Responses.{response_form}
use Rattle.http_message.specs.declared.response.ResponseHead.{ResponseHead}
use Rattle.http_wire.specs.Streams.{IsEnd}
use Rattle.http_wire.specs.declared.responses.FinalHead.{FinalHead}
use Rattle.http_wire.specs.declared.responses.FinalHead.TheVariants as final
use Rattle.http_wire.specs.declared.responses.Reply.{Reply}
use Rattle.http_wire.specs.declared.responses.Reply.TheVariants as reply

-- no fault is told
abbrev pub IsNoFault : {E : Type 0} → Result Reply E → Type 0
IsNoFault (Ok reply.ReadFault) = ⊥
IsNoFault _ = ⊤

abbrev pub IsNoHeadFault : {E : Type 0} → Result FinalHead E → Type 0
IsNoHeadFault (Ok final.ReadFault) = ⊥
IsNoHeadFault _ = ⊤

-- what stands behind the last head is read so
abbrev pub ReadsBehind : Bool → ResponseHead → List ℕ → ResponseReading → Type 0
ReadsBehind to_head head stream reading = ReadsBehindResponse 268435456 to_head (headed head stream) reading

abbrev pub IsShortBehind : Bool → ResponseHead → List ℕ → Type 0
IsShortBehind to_head head bytes =
    ReadsBehind to_head head bytes truncated ⊎ ((response_form 268435456 to_head head ≡ Ok None) × (length bytes ≤ 268435456))

-- the answer behind the last head of the response at that place
abbrev pub IsBehindHead : {E : Type 0} → Bool → ResponseHead → ℕ → (used rest : List ℕ) → Option (List ℕ) → Result Reply E → Type 0
IsBehindHead to_head head place used rest left (Ok (reply.Response at status fields body)) =
    (at ≡ place)
    × (((ys : List ℕ) → ReadsBehind to_head head (used ++ ys) (response status fields body.items ys))
    ⊎ (IsEnd left × (rest ≡ []) × ReadsBehind to_head head (used ++ rest) (response status fields body.items [])))
IsBehindHead to_head head place used rest left (Ok (reply.Truncated at)) = (at ≡ place) × IsEnd left × ReadsBehind to_head head (used ++ rest) truncated
IsBehindHead to_head head place used rest left (Ok (reply.Bad at)) = (at ≡ place) × ((ys : List ℕ) → ReadsBehind to_head head (used ++ (rest ++ ys)) bad)
IsBehindHead to_head head place used rest left (Ok reply.ReadFault) = ⊥
IsBehindHead to_head head place used rest left (Err e) = ⊤
