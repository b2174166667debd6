-- Laws of sessions, over the definitions alone.
use Rattle.std.specs.Prelude.{◌≡◌, ◌<◌, ◌^◌, ℕ, ◌+◌, Bool, true, false, ◌&&◌, ◌==◌, List, [], ◌∷◌, ◌++◌, map, length, count_by, Option, Some, ⊤}
use Rattle.std.specs.Io.KnownBytes.{append_known}
use mathlib.Core.List.{IsPrefix}
use Rattle.file_ranges.specs.declared.span.Span.{Span}
use Rattle.http_message.specs.Sessions.{ReadsRequests, Request as Message}
use Rattle.response_text.specs.Statuses.{code}
use Rattle.share_book.specs.declared.entry.Entry.{Entry}
use Rattle.share_reply.specs.Replies.{answered_at, view_for}
use Rattle.share_reply.specs.Answer.{Answer, object}
use Rattle.share_request.specs.Requests.{request_in}
use Rattle.share_request.specs.declared.asked.Request.{Request}
use Rattle.share_serve.specs.Callers.{By, by_request}
use Rattle.share_serve.specs.Callers as by
use Rattle.share_serve.specs.Sessions.{IsSession}
use Rattle.share_serve.specs.Turns.{Runs, Side, State, Turn, stream_of, text_of}
use Rattle.share_serve.specs.declared.serve.SessionEnd.{SessionEnd}
use Rattle.share_serve.specs.declared.serve.SessionEnd.TheVariants as end
use Rattle.share_serve.specs.declared.server.Server.{Server}

-- ---- what a session wrote, and at which points

-- the texts of the responses, from the request of that number on
abbrev pub texts : ℕ → List Turn → List ℕ
texts n [] = []
texts n (t ∷ turns) = text_of n t ++ texts (n + 1) turns

-- the points, each a beginning of the next, none before the first history nor behind the last
abbrev pub IsChain : List Entry → List (List Entry) → List Entry → Type 0
IsChain old [] new = IsPrefix old new
IsChain old (p ∷ points) new = IsPrefix old p × IsChain p points new

abbrev pub points_of : List Turn → List (List Entry)
points_of turns = map (λ t. t.point) turns

pub record Tells (old new : State) (turns : List Turn) : Type 0 where
  pub written : new.side.written ≡ append_known old.side.written (texts old.served turns)
  pub chain : IsChain old.side.hold.pass.seen (points_of turns) new.side.hold.pass.seen
  pub served : new.served ≡ old.served + length turns

-- Requests leave written their responses in order, and are answered at points of one history, of which none goes back.
abbrev pub WritesItsResponses : Type 0
WritesItsResponses = (server : Server) (old new : State) (turns : List Turn) → Runs server old turns new → Tells old new turns

-- ---- what it read

abbrev pub messages_of : List Turn → List Message
messages_of turns = map (λ t. t.message) turns

-- Of a stream that is told the requests are the first messages, none left out and none twice.
abbrev pub ReadsItsRequests : Type 0
ReadsItsRequests =
    (server : Server) (old new : State) (turns : List Turn) (bytes : List ℕ) → Runs server old turns new → stream_of old ≡ Some bytes → old.buffer.1 < 2 ^ 64
    → (rest : List ℕ) × (stream_of new ≡ Some rest) × ReadsRequests (messages_of turns) old.buffer.1 bytes new.buffer.1 rest

abbrev pub request_of : Turn → Request
request_of t = request_in t.message.head t.message.body

-- ---- what it stored

-- it is a call that puts an object where it is accepted
abbrev pub may_put : By → Bool
may_put (by.commit o) = true
may_put (by.edit e) = true
may_put _ = false

-- a commit or an edit that is answered with 200
abbrev pub is_acknowledged : Server → Turn → Bool
is_acknowledged server t = may_put (by_request server (request_of t)) && (code t.response.status == 200)

abbrev pub acknowledgements : Server → List Turn → ℕ
acknowledgements server turns = count_by (is_acknowledged server) turns

-- The store has stored a put for each commit and each edit that was acknowledged, and none besides.
abbrev pub AcknowledgementsArePuts : Type 0
AcknowledgementsArePuts =
    (server : Server) (old new : State) (turns : List Turn) → Runs server old turns new → new.side.hold.shelf.stored ≡ old.side.hold.shelf.stored + acknowledgements server turns

-- ---- two sessions

-- the session ended where the bytes or the requests did, and not by a fault or want of memory
abbrev pub IsComplete : SessionEnd → Type 0
IsComplete (end.Done served) = ⊤
IsComplete (end.Truncated at served) = ⊤
IsComplete (end.BadMessage at flaw served) = ⊤
IsComplete _ = ⊥

-- Two whole sessions of the same bytes, moments and responses write the same, over whatever pieces, and whoever else was there.
abbrev pub EndsTheSame : Type 0
EndsTheSame =
    (server server' : Server) (old new old' new' : Side) (e e' : SessionEnd) (bytes moments : List ℕ) (left left' : Option (List ℕ)) (s : IsSession server (Some bytes) left old new e) (s' : IsSession server' (Some bytes) left' old' new' e')
    → old.coming ≡ Some moments → old'.coming ≡ Some moments → old.written ≡ old'.written → map (λ t. t.response) s.0 ≡ map (λ t. t.response) s'.0 → IsComplete e → IsComplete e' → new.written ≡ new'.written

-- what a recipient's request is answered at the turn's point, before its text
abbrev pub answer_at : Server → Turn → Answer
answer_at server t = answered_at server.keys t.point t.moment (request_of t)

-- A recipient's request, with the view that it asks for the same in both worlds; where it follows a link to an object, the object's answer too.
pub record SeesTheSame (server : Server) (t t' : Turn) : Type 0 where
  pub recipient : by_request server (request_of t) ≡ by.view
  pub view : view_for server.keys (request_of t) t.point ≡ view_for server.keys (request_of t) t'.point
  pub object : (name : List ℕ) (span : Option Span) → answer_at server t ≡ object name span → t.response ≡ t'.response

-- the same of each request
abbrev pub SeeTheSame : Server → List Turn → List Turn → Type 0
SeeTheSame server [] [] = ⊤
SeeTheSame server [] (t' ∷ turns') = ⊥
SeeTheSame server (t ∷ turns) [] = ⊥
SeeTheSame server (t ∷ turns) (t' ∷ turns') = SeesTheSame server t t' × SeeTheSame server turns turns'

-- Two worlds: of the same bytes at the same moments, whole sessions of recipients to which the same was visible write the same, links included. What isn't in their views (other recipients, shares that aren't granted, who did what, how many there are at once) can't be told from a byte.
abbrev pub EqualViewsWriteTheSame : Type 0
EqualViewsWriteTheSame =
    (server : Server) (old new old' new' : Side) (e e' : SessionEnd) (bytes moments : List ℕ) (left left' : Option (List ℕ)) (s : IsSession server (Some bytes) left old new e) (s' : IsSession server (Some bytes) left' old' new' e')
    → old.coming ≡ Some moments → old'.coming ≡ Some moments → old.written ≡ old'.written → SeeTheSame server s.0 s'.0 → IsComplete e → IsComplete e' → new.written ≡ new'.written
