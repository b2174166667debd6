-- What came of one request.
use Rattle.std.specs.Prelude.{◌≡◌, ◌⊎◌, ℕ, Bool, true, false, List, [], Option, Some, None, Result, Ok, Err, IfSome, ⊤}
use Rattle.std.specs.declared.alloc.AllocError.{AllocError}
use mathlib.Core.List.{IsPrefix}
use Rattle.edge_core.specs.Faults.{Rose}
use Rattle.edge_core.specs.Objects.{Objects}
use Rattle.http_message.specs.Sessions.{Request as Message}
use Rattle.http_message.specs.declared.head.Head.{Head}
use Rattle.http_message.specs.declared.refusal.Flaw.{Flaw}
use Rattle.share_book.specs.declared.entry.Entry.{Entry}
use Rattle.share_request.specs.declared.asked.Request.{Request}
use Rattle.share_serve.specs.Callers.{By}
use Rattle.share_serve.specs.Sends.{Writes}
use Rattle.share_serve.specs.Sessions.{CutsBody, IsSessionFrom, Refuses, Wants, refusal_text}
use Rattle.share_serve.specs.Turns.{AnswersBy, Hold, LacksBy, Responds, Serves, Side, State, Turn, closes_after, text_of}
use Rattle.share_serve.specs.declared.send.Delivered.{Delivered}
use Rattle.share_serve.specs.declared.send.Delivered.TheVariants as delivered
use Rattle.share_serve.specs.declared.response.Delivery.{Delivery}
use Rattle.share_serve.specs.declared.response.Response.{Response}
use Rattle.share_serve.specs.declared.serve.SessionEnd.{SessionEnd}
use Rattle.share_serve.specs.declared.serve.SessionEnd.TheVariants as end
use Rattle.share_serve.specs.declared.serve.Turned.{Turned}
use Rattle.share_serve.specs.declared.serve.Turned.TheVariants as turned
use Rattle.share_serve.specs.declared.server.Server.{Server}

-- ---- a request that is known, at its moment

-- it is answered by a response, of which so much is written
abbrev pub IsGiven : Delivered → Server → Request → By → Delivery → (old new : Hold) → (w w' : Option (List ℕ)) → Type 0
IsGiven end server asked b d old new w w' = Writes end d (λ r. AnswersBy server asked b d.moment r old new) (LacksBy b d.moment old new) w w'

-- a response that is held whole, or memory was wanting for it
abbrev pub IsAnswered : Result Response AllocError → Server → Request → By → ℕ → (old new : Hold) → Type 0
IsAnswered (Ok r) server asked b moment old new = AnswersBy server asked b moment r old new
IsAnswered (Err e) server asked b moment old new = LacksBy b moment old new

-- ---- a message that is read

abbrev pub message : ℕ → Head → List ℕ → Bool → Message
message at head body closes = record { at = at; head = head; body = body; closes = closes }

abbrev pub turn : Message → ℕ → List Entry → Response → Turn
turn m moment point response = record { message = m; moment = moment; point = point; response = response }

abbrev pub TurnsWhole : Server → ℕ → Message → Side → Side → Type 0
TurnsWhole server n m old new =
    (moment : ℕ) × (point : List Entry) × (r : Response) × Responds server (turn m moment point r) (text_of n (turn m moment point r)) old new × (new.kept ≡ [])

abbrev pub TurnsInPart : Server → ℕ → Message → Side → Side → Type 0
TurnsInPart server n m old new =
    (moment : ℕ) × (point : List Entry) × (r : Response) × (part : List ℕ) × IsPrefix part (text_of n (turn m moment point r)) × Responds server (turn m moment point r) part old new

abbrev pub turned_of : Delivered → Bool → Turned
turned_of delivered.Whole true = turned.Last
turned_of delivered.Whole false = turned.On
turned_of delivered.WriteFault closes = turned.WriteFault
turned_of delivered.NoMemory closes = turned.NoMemory
turned_of (delivered.Cut sent) closes = turned.BodyCut sent

abbrev pub IsTurned : Turned → Server → ℕ → Message → Side → Side → Type 0
IsTurned turned.On server n m old new = TurnsWhole server n m old new × (closes_after n m.closes ≡ false)
IsTurned turned.Last server n m old new = TurnsWhole server n m old new × (closes_after n m.closes ≡ true)
IsTurned turned.WriteFault server n m old new = TurnsInPart server n m old new
IsTurned turned.NoMemory server n m old new = TurnsInPart server n m old new ⊎ ((moment : ℕ) × Wants server m moment old new)
IsTurned (turned.BodyCut sent) server n m old new =
    (moment : ℕ) × (point : List Entry) × (r : Response) × (part : List ℕ) × CutsBody server n (turn m moment point r) part sent old new

abbrev pub TurnCause : Turned → ℕ → ℕ → Option Objects → ℕ → ℕ → Type 0
TurnCause turned.On n m objects p q = ⊤
TurnCause turned.Last n m objects p q = ⊤
TurnCause turned.WriteFault n m objects p q = Rose n m
TurnCause turned.NoMemory n m objects p q = ⊤
TurnCause (turned.BodyCut sent) n m objects p q = IfSome objects (λ _. Rose p q)

-- ---- a message that is refused

-- the response was written, or the first bytes of it
abbrev pub RefusesPart : Flaw → Side → Side → Type 0
RefusesPart flaw old new = (moment : ℕ) × (part : List ℕ) × IsPrefix part (refusal_text flaw moment) × Refuses moment part old new

abbrev pub RefusalEnds : SessionEnd → (at : ℕ) → Flaw → (served : ℕ) → Side → Side → Type 0
RefusalEnds (end.BadMessage at' flaw' served') at flaw served old new =
    (at' ≡ at) × (flaw' ≡ flaw) × (served' ≡ served) × ((moment : ℕ) × Refuses moment (refusal_text flaw moment) old new) × (new.kept ≡ [])
RefusalEnds (end.WriteFault served') at flaw served old new = (served' ≡ served) × RefusesPart flaw old new
RefusalEnds (end.NoMemory served') at flaw served old new = (served' ≡ served) × RefusesPart flaw old new
RefusalEnds _ at flaw served old new = ⊥

-- ---- a step of the loop

-- a request is answered and the session goes on, or the session ends
abbrev pub Steps : Server → (v v' : State) → Option SessionEnd → Type 0
Steps server v v' None = (t : Turn) × Serves server v t v'
Steps server v v' (Some e) = IsSessionFrom server v e v'.left v'.side
