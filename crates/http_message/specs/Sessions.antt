-- The messages of a stream, one behind the other, and what ends them (RFC 9112, sections 2.2 and 9.3).
use Rattle.std.specs.Prelude.{◌≡◌, ℕ, ◌+◌, ◌-◌, ◌^◌, min, Bool, List, [], ◌∷◌, ◌++◌, length}
use Rattle.http_message.specs.Messages.{request, ReadsMessage}
use Rattle.http_message.specs.Messages as reading
use Rattle.http_message.specs.declared.head.Head.{Head}
use Rattle.http_message.specs.declared.refusal.Flaw.{Flaw}

-- A request with the place of its first byte, its head, its body, and whether its sender closes behind it. A place is the number of the
-- bytes before it, which stands still at 2^64 - 1.
pub record Request : Type 0 where
  pub at : ℕ
  pub head : Head
  pub body : List ℕ
  pub closes : Bool

-- what ends the messages: the end of the stream, a message that it ends inside, or one that is refused, at their places
pub data Stop : Type 0 where
  ended : Stop
  truncated : ℕ → Stop
  bad : ℕ → Flaw → Stop

abbrev pub place_behind : ℕ → List ℕ → ℕ
place_behind place bytes = min (place + length bytes) (2 ^ 64 - 1)

-- these requests stand at the front of the stream, which begins at place p, and then rest, at place q
abbrev pub ReadsRequests : List Request → (p : ℕ) (stream : List ℕ) (q : ℕ) (rest : List ℕ) → Type 0
ReadsRequests [] p stream q rest = (rest ≡ stream) × (q ≡ p)
ReadsRequests (r ∷ requests) p stream q rest =
    (text : List ℕ) × (tail : List ℕ) × (stream ≡ text ++ tail) × (r.at ≡ p) × ReadsMessage stream (request r.head r.body r.closes tail)
    × ReadsRequests requests (place_behind p text) tail q rest

abbrev pub ReadsStop : Stop → ℕ → List ℕ → Type 0
ReadsStop ended place stream = ReadsMessage stream reading.ended
ReadsStop (truncated at) place stream = (at ≡ place) × ReadsMessage stream reading.truncated
ReadsStop (bad at flaw) place stream = (at ≡ place) × ReadsMessage stream (reading.bad flaw)

-- all messages of the stream, which begins at that place, and what ends them
abbrev pub ReadsSession : List Request → Stop → ℕ → List ℕ → Type 0
ReadsSession requests stop place stream =
    (q : ℕ) × (rest : List ℕ) × ReadsRequests requests place stream q rest × ReadsStop stop q rest
