-- A request that is answered, or refused (RFC 9110, section 15; Delta Sharing PROTOCOL.md, the errors of the REST APIs).
use Rattle.std.specs.Prelude.{◌≡◌, ℕ, ◌⊎◌, ◌==◌, Bool, true, false, ◌||◌, List, Option, Some, None, Result, Ok, Err, ⊤}
use Rattle.std.specs.Str.{IsUtf8}
use Rattle.case_table.specs.declared.refuse.Refusal.{Refusal}
use Rattle.share_lines.specs.Errors.{IsErrorBody}
use Rattle.share_client.specs.Exchanges.{Exchanges}
use Rattle.share_client.specs.Sides.{Side}
use Rattle.share_client.specs.declared.ask.Wanted.{Wanted}
use Rattle.share_client.specs.declared.ask.Wanted.TheVariants as wanted
use Rattle.share_client.specs.declared.exchange.Response.{Response}
use Rattle.share_client.specs.declared.fault.ClientFault.{ClientFault}
use Rattle.share_client.specs.declared.fault.ClientFault.TheVariants as fault
use Rattle.share_client.specs.declared.target.Target.{Target}

-- the head alone is asked for by HEAD (RFC 9110, section 9.3.2)
abbrev pub to_head : Wanted → Bool
to_head wanted.Whole = false
to_head wanted.Head = true
to_head wanted.Part = false

-- A part may be answered by itself, with 206, or with 200 by all, since a server may pass over a Range (RFC 9110, sections 14.2 and 15.3.7).
abbrev pub is_fine : Wanted → ℕ → Bool
is_fine wanted.Whole status = status == 200
is_fine wanted.Head status = status == 200
is_fine wanted.Part status = (status == 200) || (status == 206)

-- the refusal whose body these bytes are, none where they are no refusal's
abbrev pub SaysRefusal : List ℕ → Option Refusal → Type 0
SaysRefusal body (Some refusal) = (detail : List ℕ) × IsErrorBody refusal detail body
SaysRefusal body None = (refusal : Refusal) (detail : List ℕ) → IsUtf8 detail → ¬ (IsErrorBody refusal detail body)

-- what is told of a response of another status
abbrev pub TellsRefused : Response → ClientFault → Type 0
TellsRefused r (fault.Refused status refusal) = (status ≡ r.status) × SaysRefusal r.body.items refusal
TellsRefused r fault.NoMemory = ⊤
TellsRefused r _ = ⊥

-- a whole response came of a status that is fine
pub record AnswersWith (w : Wanted) (target : Target) (text : List ℕ) (r : Response) (old new : Side) : Type 0 where
  pub came : Exchanges (to_head w) target text (Ok r) old new
  pub fine : is_fine w r.status ≡ true

-- a whole response of another status came
pub record RefusesWith (w : Wanted) (target : Target) (text : List ℕ) (e : ClientFault) (r : Response) (old new : Side) : Type 0 where
  pub came : Exchanges (to_head w) target text (Ok r) old new
  pub not_fine : is_fine w r.status ≡ false
  pub tells : TellsRefused r e

-- the request was asked and answered so, or why not
abbrev pub AsksFor : Wanted → Target → List ℕ → Result Response ClientFault → Side → Side → Type 0
AsksFor w target text (Ok r) old new = AnswersWith w target text r old new
AsksFor w target text (Err e) old new = Exchanges (to_head w) target text (Err e) old new ⊎ ((r : Response) × RefusesWith w target text e r old new)

-- the same with 200
abbrev pub Answers : Target → List ℕ → Response → Side → Side → Type 0
Answers target text r old new = AnswersWith wanted.Whole target text r old new

abbrev pub Asks : Target → List ℕ → Result Response ClientFault → Side → Side → Type 0
Asks target text result old new = AsksFor wanted.Whole target text result old new
