-- One request and its response, on a connection of their own (RFC 9112, section 9.6).
use Rattle.std.specs.Prelude.{◌≡◌, ℕ, ◌⊎◌, Bool, true, false, List, [], ◌∷◌, ◌++◌, Option, Some, None, ⊤}
use mathlib.Core.List.{IsPrefix}
use Rattle.edge_core.specs.Clocks.{later_moments, next_moment}
use Rattle.edge_core.specs.Lines.{closed_line, peer_line}
use Rattle.http_message.specs.ResponseMessages.{ReadsResponseMessage, response}
use Rattle.signed_call.specs.declared.call.Call.{Call}
use Rattle.signed_call.specs.declared.call.Call.TheVariants as call
use Rattle.signed_call.specs.declared.stamp.Stamp.{Stamp}
use Rattle.signed_call.specs.Calls.{body_of}
use Rattle.signed_call.specs.Stamps.{IsStampAt}
use Rattle.signed_call.specs.Texts.{head_text}
use Rattle.bucket_store.specs.declared.exchange.Response.{Response}
use Rattle.bucket_store.specs.declared.place.BucketPlace.{BucketPlace}
use Rattle.bucket_store.specs.Sides.{Side}

-- the bytes begin with that response to HEAD, which has no body, or to another request
abbrev pub HoldsResponse : Bool → List ℕ → Response → Type 0
HoldsResponse to_head bytes r = (rest : List ℕ) × ReadsResponseMessage to_head bytes (response r.status r.fields r.body.items rest)

-- a response is the one that the bytes begin with; none says that the line was lost, or memory was wanting
abbrev pub Heard : Bool → List ℕ → Option Response → Type 0
Heard to_head bytes (Some r) = HoldsResponse to_head bytes r
Heard to_head bytes None = ⊤

-- the text was written, or a front of it where a write failed
pub record Wrote (text written : List ℕ) (faults : ℕ) : Type 0 where
  pub front : IsPrefix written text
  pub whole : faults ≡ 0 → written ≡ text

-- the next line was to the bucket's address, came with these bytes, and was closed with the text written to it
pub record Uses (place : BucketPlace) (text bytes : List ℕ) (old new : Side) : Type 0 where
  pub came : old.coming ≡ peer_line place.address place.port bytes ∷ new.coming
  pub went : (written : List ℕ) × (reads writes : ℕ) × (new.closed ≡ old.closed ++ closed_line (Some written) reads writes ∷ []) × Wrote text written writes
  pub moments : new.moments ≡ old.moments

-- there is no response where no line was opened
abbrev pub Exchanges : BucketPlace → Bool → List ℕ → Option Response → Side → Side → Type 0
Exchanges place to_head text answer old new =
    ((answer ≡ None) × (new ≡ old)) ⊎ ((bytes : List ℕ) × Uses place text bytes old new × Heard to_head bytes answer)

abbrev pub is_head : Call → Bool
is_head (call.Head name) = true
is_head _ = false

-- the clock was asked
abbrev pub ticked : Side → Side
ticked side = record side { moments = later_moments side.moments }

-- a call is asked by its signed text of the clock's next moment, and this is what came back
abbrev pub Asks : BucketPlace → Call → Option Response → Side → Side → Type 0
Asks place call answer old new =
    (stamp : Stamp) × IsStampAt (next_moment old.moments) stamp
    × Exchanges place (is_head call) (head_text place.key place.bucket stamp call ++ body_of call) answer (ticked old) new
