-- What stands at the front of a stream: the next message, the end, or why there is none (RFC 9112, section 2.2).
use Rattle.std.specs.Prelude.{◌≡◌, ℕ, Bool, List}
use Rattle.http_message.specs.Bodies.{BodyReading, ReadsBody}
use Rattle.http_message.specs.Bodies as body
use Rattle.http_message.specs.Framing.{request_form, closes}
use Rattle.http_message.specs.HeadReadings.{HeadReading, headed, nothing, cut, faulty, ReadsHead}
use Rattle.http_message.specs.Heads.{IsHeadText}
use Rattle.http_message.specs.declared.head.Head.{Head}
use Rattle.http_message.specs.declared.refusal.Flaw.{Flaw}

-- A request with its head, its body, whether its sender closes behind it, and what stands behind it in the stream;
-- the end of the stream; a message that the stream ends inside; or a refusal.
pub data Reading : Type 0 where
  request : Head → List ℕ → Bool → List ℕ → Reading
  ended : Reading
  truncated : Reading
  bad : Flaw → Reading

abbrev pub with_head : Head → BodyReading → Reading
with_head head (body.whole content rest) = request head content (closes head.minor head.fields) rest
with_head head body.unended = truncated
with_head head (body.refused flaw) = bad flaw

abbrev pub ReadsBehindHead : ℕ → HeadReading Head → Reading → Type 0
ReadsBehindHead most (headed head rest) reading =
    (b : BodyReading) × ReadsBody most (request_form most head) rest b × (reading ≡ with_head head b)
ReadsBehindHead most nothing reading = reading ≡ ended
ReadsBehindHead most cut reading = reading ≡ truncated
ReadsBehindHead most (faulty flaw) reading = reading ≡ bad flaw

-- what the stream begins with, where a head has at most 16,384 bytes and a body at most so many
abbrev pub Reads : ℕ → List ℕ → Reading → Type 0
Reads most stream reading = (head : HeadReading Head) × ReadsHead IsHeadText 16384 stream head × ReadsBehindHead most head reading

-- a request's body has at most 16 MiB
abbrev pub ReadsMessage : List ℕ → Reading → Type 0
ReadsMessage stream reading = Reads 16777216 stream reading
