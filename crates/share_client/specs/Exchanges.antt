-- One request and its response, on a connection of their own (RFC 9112, section 9.6).
use Rattle.std.specs.Prelude.{◌≡◌, ℕ, ◌⊎◌, Bool, List, Result, Ok, Err}
use mathlib.Core.List.{IsPrefix}
use Rattle.http_message.specs.ResponseMessages.{ReadsResponseMessage, response, truncated, bad}
use Rattle.share_client.specs.Sides.{Side, Uses}
use Rattle.share_client.specs.declared.exchange.Response.{Response}
use Rattle.share_client.specs.declared.fault.ClientFault.{ClientFault}
use Rattle.share_client.specs.declared.fault.ClientFault.TheVariants as fault
use Rattle.share_client.specs.declared.target.Target.{Target}

-- the bytes begin with that response to HEAD, which has no body, or to another request
abbrev pub HoldsResponse : Bool → List ℕ → Response → Type 0
HoldsResponse to_head bytes r = (rest : List ℕ) × ReadsResponseMessage to_head bytes (response r.status r.fields r.body.items rest)

-- the bytes end before a response or inside it, or break its rules
abbrev pub HoldsNone : Bool → List ℕ → Type 0
HoldsNone to_head bytes = ReadsResponseMessage to_head bytes truncated ⊎ ReadsResponseMessage to_head bytes bad

-- A request to a peer whose bytes are these, without a whole response: what was written is the request, or its front where a write failed.
abbrev pub TalkFails : Bool → (text bytes written : List ℕ) → ClientFault → Type 0
TalkFails to_head text bytes written (fault.BadReply at) = (at ≡ 0) × (written ≡ text) × HoldsNone to_head bytes
TalkFails to_head text bytes written fault.ReadFault = written ≡ text
TalkFails to_head text bytes written fault.WriteFault = IsPrefix written text
TalkFails to_head text bytes written fault.NoMemory = written ≡ text
TalkFails to_head text bytes written _ = ⊥

abbrev pub Talked : Bool → (text bytes written : List ℕ) → Result Response ClientFault → Type 0
Talked to_head text bytes written (Ok r) = (written ≡ text) × HoldsResponse to_head bytes r
Talked to_head text bytes written (Err e) = TalkFails to_head text bytes written e

-- no line was opened
abbrev pub Unopened : Result Response ClientFault → Side → Side → Type 0
Unopened result old new = (result ≡ Err fault.PeerFault) × (new ≡ old)

-- the request was sent to the target on a line that was then closed, or no line was opened
abbrev pub Exchanges : Bool → Target → List ℕ → Result Response ClientFault → Side → Side → Type 0
Exchanges to_head target text result old new =
    Unopened result old new ⊎ ((bytes written : List ℕ) × Uses target written bytes old new × Talked to_head text bytes written result)
