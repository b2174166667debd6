-- The session of one connection.
use Rattle.std.specs.Prelude.{◌≡◌, ◌⊎◌, ◌<◌, ◌++◌, length, ℕ, true, false, List, [], Option, IfSome, MatchBool, ⊤}
use Rattle.std.specs.Io.KnownBytes.{append_known}
use mathlib.Core.List.{IsPrefix}
use Rattle.edge_core.specs.Clocks.{Ticks}
use Rattle.edge_core.specs.Faults.{Rose}
use Rattle.edge_core.specs.Objects.{Objects}
use Rattle.http_message.specs.Messages.{ReadsMessage, ended, truncated, bad}
use Rattle.http_message.specs.Messages as reading
use Rattle.http_message.specs.Refusals.{refusal_of}
use Rattle.http_message.specs.Sessions.{Request as Message}
use Rattle.http_message.specs.declared.refusal.Flaw.{Flaw}
use Rattle.http_wire.specs.Streams.{Buffer}
use Rattle.share_reply.specs.Refusing.{plain}
use Rattle.share_request.specs.Requests.{request_in}
use Rattle.share_serve.specs.Responses.{refusal_response, response_head, response_text}
use Rattle.share_serve.specs.Turns.{FollowsLink, Grew, LacksResponse, ReadsWhenDue, Responds, Runs, Side, State, Turn, delivery, stream_of, text_of}
use Rattle.share_serve.specs.declared.serve.SessionEnd.{SessionEnd}
use Rattle.share_serve.specs.declared.serve.SessionEnd.TheVariants as end
use Rattle.share_serve.specs.declared.server.Server.{Server}

-- the response to a message that is refused, behind which the connection is closed (RFC 9112, section 9.3)
abbrev pub refusal_text : Flaw → ℕ → List ℕ
refusal_text flaw moment = response_text (record { moment = moment; closes = true; to_head = false }) (refusal_response (plain (refusal_of flaw)))

-- a message is refused at that moment, and so much of the response is written
pub record Refuses (moment : ℕ) (text : List ℕ) (old new : Side) : Type 0 where
  pub ticks : Ticks old.coming new.coming moment
  pub hold : new.hold ≡ old.hold
  pub writes : new.written ≡ append_known old.written text

-- the next message is refused for that
abbrev pub IsBad : State → Flaw → Type 0
IsBad v flaw = IfSome (stream_of v) (λ xs. ReadsMessage xs (bad flaw))

-- the next message is that request
abbrev pub IsNext : State → Message → Type 0
IsNext v m = IfSome (stream_of v) (λ xs. (m.at ≡ v.buffer.1) × ((ys : List ℕ) × ReadsMessage xs (reading.request m.head m.body m.closes ys)))

-- the next request is answered, and a part of its response is written
abbrev pub RespondsInPart : Server → State → Side → Type 0
RespondsInPart server v new =
    (t : Turn) × (part : List ℕ) × IsNext v t.message × IsPrefix part (text_of v.served t) × Responds server t part v.side new

-- The next request follows a link, and is answered by an object's bytes, of which so many are written behind the head, and not all. A
-- store that tells failed while it was answered.
pub record CutsBody (server : Server) (n : ℕ) (t : Turn) (part : List ℕ) (sent : ℕ) (old new : Side) : Type 0 where
  pub front : IsPrefix part t.response.body
  pub count : length part ≡ sent
  pub less : sent < length t.response.body
  pub link : FollowsLink server (request_in t.message.head t.message.body) t.moment t.point
  pub failed : IfSome old.hold.shelf.objects (λ _. Rose old.hold.shelf.faults new.hold.shelf.faults)
  pub responds : Responds server t (response_head (delivery n t.message t.moment) t.response.status t.response.form (length t.response.body) ++ part) old new

-- a message is refused, and a part of the response is written
abbrev pub RefusesInPart : State → Side → Type 0
RefusesInPart v new =
    (flaw : Flaw) × (moment : ℕ) × (part : List ℕ) × IsBad v flaw × IsPrefix part (refusal_text flaw moment) × Refuses moment part v.side new

-- memory was wanting for the response to the next request
pub record Wants (server : Server) (m : Message) (moment : ℕ) (old new : Side) : Type 0 where
  pub ticks : Ticks old.coming new.coming moment
  pub grew : Grew old.hold new.hold
  pub lacks : LacksResponse server (request_in m.head m.body) moment old.hold new.hold
  pub writes : new.written ≡ old.written

abbrev pub WantsMemory : Server → State → Side → Type 0
WantsMemory server v new = (m : Message) × (moment : ℕ) × IsNext v m × Wants server m moment v.side new

-- how a session ends, where it stands
abbrev pub Ends : Server → State → SessionEnd → Side → Type 0
Ends server v (end.Done served) new = (new ≡ v.side) × MatchBool v.goes (IfSome (stream_of v) (λ xs. ReadsMessage xs ended)) ⊤
Ends server v (end.Truncated at served) new = (new ≡ v.side) × (v.goes ≡ true) × IfSome (stream_of v) (λ xs. (at ≡ v.buffer.1) × ReadsMessage xs truncated)
Ends server v (end.BadMessage at flaw served) new =
    (v.goes ≡ true) × IfSome (stream_of v) (λ xs. (at ≡ v.buffer.1) × ReadsMessage xs (bad flaw))
    × ((moment : ℕ) × Refuses moment (refusal_text flaw moment) v.side new) × (new.kept ≡ [])
Ends server v (end.ReadFault served) new = (new ≡ v.side) × (v.goes ≡ true)
Ends server v (end.WriteFault served) new = (v.goes ≡ true) × (RespondsInPart server v new ⊎ RefusesInPart v new)
Ends server v (end.BodyCut served sent) new = (v.goes ≡ true) × ((t : Turn) × (part : List ℕ) × IsNext v t.message × CutsBody server v.served t part sent v.side new)
Ends server v (end.NoMemory served) new = (v.goes ≡ true) × ((new ≡ v.side) ⊎ (RespondsInPart server v new ⊎ (RefusesInPart v new ⊎ WantsMemory server v new)))

abbrev pub served_in : SessionEnd → ℕ
served_in (end.Done served) = served
served_in (end.Truncated at served) = served
served_in (end.BadMessage at flaw served) = served
served_in (end.ReadFault served) = served
served_in (end.WriteFault served) = served
served_in (end.BodyCut served sent) = served
served_in (end.NoMemory served) = served

-- where a session begins
abbrev pub opening : Option (List ℕ) → Side → State
opening bytes side = record { buffer = ([], 0); left = bytes; served = 0; goes = true; side = side }

-- what the source has left at the end: the next message was looked for where the session went on, and no byte was read before it was due
abbrev pub Leaves : State → (left : Option (List ℕ)) → Type 0
Leaves v left = MatchBool v.goes ((buffer : Buffer) × ReadsWhenDue v.buffer buffer v.left left) (left ≡ v.left)

-- from there on requests are answered one after another, and then the session ends
abbrev pub IsSessionFrom : Server → State → SessionEnd → (left : Option (List ℕ)) → Side → Type 0
IsSessionFrom server v e left new = (turns : List Turn) × (last : State) × Runs server v turns last × (served_in e ≡ last.served) × Ends server last e new × Leaves last left

-- All of a session: of these bytes, of which those are left, from where its clock, hub, store and sink stood to where they stand.
abbrev pub IsSession : Server → (bytes left : Option (List ℕ)) → (old new : Side) → SessionEnd → Type 0
IsSession server bytes left old new e = IsSessionFrom server (opening bytes old) e left new

-- a fault is an end only where its own count rose; a body is cut over a store that tells only where the store failed
abbrev pub HasCause : SessionEnd → (reads reads_new writes writes_new : ℕ) → Option Objects → (store store_new : ℕ) → Type 0
HasCause (end.Done served) n m a b objects p q = ⊤
HasCause (end.Truncated at served) n m a b objects p q = ⊤
HasCause (end.BadMessage at flaw served) n m a b objects p q = ⊤
HasCause (end.ReadFault served) n m a b objects p q = Rose n m
HasCause (end.WriteFault served) n m a b objects p q = Rose a b
HasCause (end.BodyCut served sent) n m a b objects p q = IfSome objects (λ _. Rose p q)
HasCause (end.NoMemory served) n m a b objects p q = ⊤
