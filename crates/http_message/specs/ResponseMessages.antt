-- What stands at the front of a stream as a response (RFC 9112, sections 4 and 6.3): interim heads, of status 1xx, which have no body
-- (RFC 9110, section 15.2), and then the head and the body that were asked for.
use Rattle.std.specs.Prelude.{◌≡◌, ℕ, ◌-◌, ◌≤◌, Bool, true, false, ◌&&◌, ◌==◌, not, nat_le, List, [], ◌++◌, length, All, Option, Some, None, Result, Ok, Err, ⊤, if◌then◌else◌}
use Rattle.std.specs.List.{flat_map}
use Rattle.http_message.specs.Bodies.{BodyReading, ReadsBody}
use Rattle.http_message.specs.Bodies as body
use Rattle.http_message.specs.Framing.{Pairs}
use Rattle.http_message.specs.HeadReadings.{HeadReading, headed, nothing, cut, faulty, ReadsHead, IsWholeHead}
use Rattle.http_message.specs.declared.refusal.Flaw.{Flaw}
use Rattle.http_message.specs.declared.refusal.Flaw.TheVariants.{BadMessage, BodyTooLarge}
use Rattle.http_message.specs.Responses.{IsResponseText, response_form}
use Rattle.http_message.specs.declared.framing.Form.{Form}
use Rattle.http_message.specs.declared.response.ResponseHead.{ResponseHead}

-- ---- heads

-- 100 to 199, but for 101: behind a switch of protocols no response follows
abbrev pub is_interim : ResponseHead → Bool
is_interim head = nat_le 100 head.status && nat_le head.status 199 && not (head.status == 101)

-- a head with its text, the empty lines in front of it included
pub record HeadText : Type 0 where
  pub text : List ℕ
  pub head : ResponseHead

pub record IsInterim (i : HeadText) : Type 0 where
  pub whole : IsWholeHead IsResponseText i.text i.head
  pub interim : is_interim i.head ≡ true

abbrev pub heads_text : List HeadText → List ℕ
heads_text heads = flat_map (λ i. i.text) heads

-- interim heads of at most so many bytes, and then rest
pub record PassesOver (most : ℕ) (stream : List ℕ) (heads : List HeadText) (rest : List ℕ) : Type 0 where
  pub each : All IsInterim heads
  pub spelled : stream ≡ heads_text heads ++ rest
  pub within : length (heads_text heads) ≤ most

-- no interim head
abbrev pub IsFinal : HeadReading ResponseHead → Type 0
IsFinal (headed head rest) = is_interim head ≡ false
IsFinal _ = ⊤

-- A switch of protocols (RFC 9110, section 15.2.2) answers a request that asked for one, which none here does.
abbrev pub without_switch : HeadReading ResponseHead → HeadReading ResponseHead
without_switch (headed head rest) = if head.status == 101 then faulty BadMessage else headed head rest
without_switch reading = reading

-- what stands behind all interim heads, where all heads together have at most so many bytes
abbrev pub ReadsFinalHead : ℕ → List ℕ → HeadReading ResponseHead → Type 0
ReadsFinalHead most stream reading =
    (heads : List HeadText) × (rest : List ℕ) × (found : HeadReading ResponseHead) × PassesOver most stream heads rest
    × ReadsHead IsResponseText (most - length (heads_text heads)) rest found × IsFinal found × (reading ≡ without_switch found)

-- ---- bodies

-- a body that goes on to the end of the stream, which may have so many bytes
abbrev pub open_body : ℕ → List ℕ → BodyReading
open_body most stream = if nat_le (length stream) most then body.whole stream [] else body.refused BodyTooLarge

abbrev pub ReadsResponseBody : ℕ → Result (Option Form) Flaw → List ℕ → BodyReading → Type 0
ReadsResponseBody most (Err flaw) stream reading = reading ≡ body.refused flaw
ReadsResponseBody most (Ok None) stream reading = reading ≡ open_body most stream
ReadsResponseBody most (Ok (Some form)) stream reading = ReadsBody most (Ok form) stream reading

-- ---- responses

-- A response with its status, its fields, its body, and what stands behind it in the stream; a response that the stream ends before
-- or inside; or one that breaks the rules.
pub data ResponseReading : Type 0 where
  response : ℕ → Pairs → List ℕ → List ℕ → ResponseReading
  truncated : ResponseReading
  bad : ResponseReading

abbrev pub with_response : ResponseHead → BodyReading → ResponseReading
with_response head (body.whole content rest) = response head.status head.fields content rest
with_response head body.unended = truncated
with_response head (body.refused flaw) = bad

abbrev pub ReadsBehindResponse : ℕ → Bool → HeadReading ResponseHead → ResponseReading → Type 0
ReadsBehindResponse most to_head (headed head rest) reading =
    (b : BodyReading) × ReadsResponseBody most (response_form most to_head head) rest b × (reading ≡ with_response head b)
ReadsBehindResponse most to_head nothing reading = reading ≡ truncated
ReadsBehindResponse most to_head cut reading = reading ≡ truncated
ReadsBehindResponse most to_head (faulty flaw) reading = reading ≡ bad

-- by whether the request was HEAD, where all heads together have at most 16,384 bytes, and the body so many
abbrev pub ReadsResponseWithin : ℕ → Bool → List ℕ → ResponseReading → Type 0
ReadsResponseWithin most to_head stream reading =
    (head : HeadReading ResponseHead) × ReadsFinalHead 16384 stream head × ReadsBehindResponse most to_head head reading

-- a response's body has at most 256 MiB
abbrev pub ReadsResponseMessage : Bool → List ℕ → ResponseReading → Type 0
ReadsResponseMessage to_head stream reading = ReadsResponseWithin 268435456 to_head stream reading
