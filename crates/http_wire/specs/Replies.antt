-- What the next response of a connection is.
use Rattle.std.specs.Prelude.{◌≡◌, ℕ, ◌≤◌, ◌⊎◌, Bool, true, false, List, [], ◌++◌, length, Option, None, Result, Ok, Err, ⊤}
use Rattle.http_message.specs.HeadReadings.{HeadReading, headed, nothing, cut, faulty}
use Rattle.http_message.specs.ResponseMessages.{ReadsFinalHead, ResponseReading, response, truncated, bad, ReadsResponseMessage}
use Rattle.http_message.specs.Responses.{response_form}
use Rattle.http_message.specs.declared.refusal.Flaw.{Flaw}
use Rattle.http_message.specs.declared.response.ResponseHead.{ResponseHead}
use Rattle.http_wire.specs.Streams.{IsEnd, Moves}
use Rattle.http_wire.specs.declared.responses.FinalHead.{FinalHead}
use Rattle.http_wire.specs.declared.responses.FinalHead.TheVariants as final
use Rattle.http_wire.specs.declared.responses.Reply.{Reply}
use Rattle.http_wire.specs.declared.responses.Reply.TheVariants as reply

abbrev pub is_fault : {E : Type 0} → Result Reply E → Bool
is_fault (Ok reply.ReadFault) = true
is_fault _ = false

abbrev pub is_response : {E : Type 0} → Result Reply E → Bool
is_response (Ok (reply.Response at status fields body)) = true
is_response _ = false

-- P holds of the body of a response
abbrev pub OnResponse : {E : Type 0} → Result Reply E → (List ℕ → Type 0) → Type 0
OnResponse (Ok (reply.Response at status fields body)) P = P body.items
OnResponse _ P = ⊤

-- ---- where the stream is told

-- The answer at that place is a reading that holds, with what stands behind it.
abbrev pub Replies : {E : Type 0} → (Reads : ResponseReading → Type 0) → ℕ → List ℕ → Result Reply E → Type 0
Replies Reads place ys (Ok (reply.Response at status fields body)) = (at ≡ place) × Reads (response status fields body.items ys)
Replies Reads place ys (Ok (reply.Truncated at)) = (at ≡ place) × Reads truncated
Replies Reads place ys (Ok (reply.Bad at)) = (at ≡ place) × Reads bad
Replies Reads place ys (Ok reply.ReadFault) = ⊤
Replies Reads place ys (Err e) = ⊤

-- Of the stream xs from place p, where the request was HEAD or not: the answer is its reading as a response, and ys stands behind what
-- was used, at place q.
pub record TellsReply {E : Type 0} (to_head : Bool) (xs : List ℕ) (p : ℕ) (ys : List ℕ) (q : ℕ) (r : Result Reply E) : Type 0 where
  pub moves : Moves xs p ys q
  pub replies : Replies (ReadsResponseMessage to_head xs) p ys r

-- ---- of every source

-- Of a stream that begins with the used bytes and the rest: the answer at that place is its reading as a response. A response and a
-- refusal are told whatever follows, an end where nothing does, and so is a response whose body goes on to the end of the stream.
abbrev pub IsReply : {E : Type 0} → Bool → ℕ → (used rest : List ℕ) → Option (List ℕ) → Result Reply E → Type 0
IsReply to_head place used rest left (Ok (reply.Response at status fields body)) =
    (at ≡ place)
    × (((ys : List ℕ) → ReadsResponseMessage to_head (used ++ ys) (response status fields body.items ys))
    ⊎ (IsEnd left × (rest ≡ []) × ReadsResponseMessage to_head (used ++ rest) (response status fields body.items [])))
IsReply to_head place used rest left (Ok (reply.Truncated at)) = (at ≡ place) × IsEnd left × ReadsResponseMessage to_head (used ++ rest) truncated
IsReply to_head place used rest left (Ok (reply.Bad at)) = (at ≡ place) × ((ys : List ℕ) → ReadsResponseMessage to_head (used ++ (rest ++ ys)) bad)
IsReply to_head place used rest left (Ok reply.ReadFault) = ⊤
IsReply to_head place used rest left (Err e) = ⊤

-- the body goes on to the end of the stream, and these bytes of it may all belong to it
abbrev pub GoesToEnd : Bool → List ℕ → Type 0
GoesToEnd to_head bytes =
    (head : ResponseHead) × (rest : List ℕ) × ReadsFinalHead 16384 bytes (headed head rest)
    × (response_form 268435456 to_head head ≡ Ok None) × (length rest ≤ 268435456)

-- No response and no refusal is there yet: a stream of these bytes alone ends before the response or inside it, or it is one whose body
-- goes on to the end.
abbrev pub IsReplyShort : Bool → List ℕ → Type 0
IsReplyShort to_head bytes = ReadsResponseMessage to_head bytes truncated ⊎ GoesToEnd to_head bytes

-- ---- a head alone

abbrev pub is_head_fault : {E : Type 0} → Result FinalHead E → Bool
is_head_fault (Ok final.ReadFault) = true
is_head_fault _ = false

abbrev pub TellsHeadAt : {E : Type 0} → (Reads : HeadReading ResponseHead → Type 0) → ℕ → List ℕ → Result FinalHead E → Type 0
TellsHeadAt Reads place ys (Ok (final.Head at head)) = (at ≡ place) × Reads (headed head ys)
TellsHeadAt Reads place ys (Ok (final.Truncated at)) = (at ≡ place) × (Reads nothing ⊎ Reads cut)
TellsHeadAt Reads place ys (Ok (final.Bad at)) = (at ≡ place) × (flaw : Flaw) × Reads (faulty flaw)
TellsHeadAt Reads place ys (Ok final.ReadFault) = ⊤
TellsHeadAt Reads place ys (Err e) = ⊤

-- the same of the last head of a response, which is left unread behind it
pub record TellsFinalHead {E : Type 0} (xs : List ℕ) (p : ℕ) (ys : List ℕ) (q : ℕ) (r : Result FinalHead E) : Type 0 where
  pub moves : Moves xs p ys q
  pub tells : TellsHeadAt (ReadsFinalHead 16384 xs) p ys r

abbrev pub IsHeadShortOf : List ℕ → Type 0
IsHeadShortOf bytes = ReadsFinalHead 16384 bytes nothing ⊎ ReadsFinalHead 16384 bytes cut

abbrev pub IsFinalHead : {E : Type 0} → ℕ → (used rest : List ℕ) → Option (List ℕ) → Result FinalHead E → Type 0
IsFinalHead place used rest left (Ok (final.Head at head)) = (at ≡ place) × ((ys : List ℕ) → ReadsFinalHead 16384 (used ++ ys) (headed head ys))
IsFinalHead place used rest left (Ok (final.Truncated at)) = (at ≡ place) × IsEnd left × IsHeadShortOf (used ++ rest)
IsFinalHead place used rest left (Ok (final.Bad at)) = (at ≡ place) × (flaw : Flaw) × ((ys : List ℕ) → ReadsFinalHead 16384 (used ++ (rest ++ ys)) (faulty flaw))
IsFinalHead place used rest left (Ok final.ReadFault) = ⊤
IsFinalHead place used rest left (Err e) = ⊤
