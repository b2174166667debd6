-- Sessions of bytes that are whole requests, over the definitions alone.
use Rattle.std.specs.Prelude.{◌≡◌, ◌⊎◌, ◌≤◌, ◌<◌, ◌-◌, ◌^◌, ℕ, ◌+◌, ◌||◌, Bool, true, false, List, [], ◌∷◌, length, Option, Some, if◌then◌else◌}
use mathlib.Core.List.{IsPrefix}
use Rattle.edge_core.specs.Objects.{Objects}
use Rattle.http_message.specs.Messages.{ReadsMessage, ended}
use Rattle.http_message.specs.Sessions.{ReadsRequests, Request as Message}
use Rattle.share_serve.specs.Laws.{messages_of}
use Rattle.share_serve.specs.Sessions.{HasCause, IsSession}
use Rattle.share_serve.specs.Turns.{Side, Turn, closes_after}
use Rattle.share_serve.specs.declared.serve.SessionEnd.{SessionEnd}
use Rattle.share_serve.specs.declared.serve.SessionEnd.TheVariants as end
use Rattle.share_serve.specs.declared.server.Server.{Server}

-- ---- the requests that are to be answered

-- the connection is closed behind one of the requests, of which the first has that number: its sender closes it, or it is the 10,000th
abbrev pub closes_within : ℕ → List Message → Bool
closes_within n [] = false
closes_within n (m ∷ ms) = closes_after n m.closes || closes_within (n + 1) ms

-- the requests up to the first behind which the connection is closed, and all of them where it is closed behind none
abbrev pub up_to_closing : ℕ → List Message → List Message
up_to_closing n [] = []
up_to_closing n (m ∷ ms) = m ∷ (if closes_after n m.closes then [] else up_to_closing (n + 1) ms)

-- The bytes begin with these requests, one after another, and nothing is read behind them: the bytes end there, or the connection is closed by then (RFC 9112, sections 2.2 and 9.3).
abbrev pub AreRequests : List Message → List ℕ → Type 0
AreRequests ms bytes = (place : ℕ) × (rest : List ℕ) × ReadsRequests ms 0 bytes place rest × (ReadsMessage rest ended ⊎ (closes_within 0 ms ≡ true))

-- ---- a session in which nothing fails

-- no fault was counted between these two counts, and the count doesn't stand at its end
abbrev pub Stays : ℕ → ℕ → Type 0
Stays before now = (now ≤ before) × (now < 2 ^ 64 - 1)

-- All requests that are to be answered are, each once and in order, and the session ends there; or it ends for want of memory, and those before were answered.
abbrev pub AnswersAll : List Message → List Turn → SessionEnd → Type 0
AnswersAll ms turns (end.Done served) = (messages_of turns ≡ up_to_closing 0 ms) × (served ≡ length turns)
AnswersAll ms turns (end.NoMemory served) = IsPrefix (messages_of turns) (up_to_closing 0 ms) × (served ≡ length turns)
AnswersAll ms turns _ = ⊥

-- Where the bytes are whole requests and neither reads, nor writes, nor the store failed, all of them are answered. So a session that stops before is one whose bytes stop before or break a rule, or that has a fault or want of memory to show for it.
abbrev pub WholeRequestsAreAnswered : Type 0
WholeRequestsAreAnswered =
    (server : Server) (old new : Side) (e : SessionEnd) (bytes : List ℕ) (ms : List Message) (reads reads_new writes writes_new faults faults_new : ℕ) (objects : Objects) (left : Option (List ℕ))
    (s : IsSession server (Some bytes) left old new e) → AreRequests ms bytes → HasCause e reads reads_new writes writes_new (Some objects) faults faults_new
    → Stays reads reads_new → Stays writes writes_new → Stays faults faults_new → AnswersAll ms s.0 e
