-- What a link tells before and after a call, and what stands behind the faults that a client names.
use Rattle.std.specs.Prelude.{◌≡◌, ℕ, ◌-◌, ◌^◌, ◌≤◌, min, ◌∷◌, [], ◌++◌, List, Option, Some, Result, Ok, Err, ⊤}
use Rattle.edge_core.specs.Faults.{Rose}
use Rattle.edge_core.specs.Lines.{ClosedLine, PeerLine, closed_line, peer_line}
use Rattle.share_client.specs.declared.fault.ClientFault.{ClientFault}
use Rattle.share_client.specs.declared.fault.ClientFault.TheVariants as fault
use Rattle.share_client.specs.declared.target.Target.{Target}

-- the lines to come and the lines that were closed
pub record Side : Type 0 where
  pub coming : List PeerLine
  pub closed : List ClosedLine

-- the link tells both
pub record Tells (coming : Option (List PeerLine)) (closed : Option (List ClosedLine)) (side : Side) : Type 0 where
  pub coming_is : coming ≡ Some side.coming
  pub closed_is : closed ≡ Some side.closed

-- where the object told its lines, it still does, and this holds of both moments
abbrev pub Known : {L : Type 0} → (L → Option (List PeerLine)) → (L → Option (List ClosedLine)) → L → L → (Side → Side → Type 0) → Type 0
Known coming closed link link_new P = (old : Side) → Tells (coming link) (closed link) old → (new : Side) × Tells (coming link_new) (closed link_new) new × P old new

-- the next line was to the target's host and port, came with these bytes, and was closed with that written to it
pub record Uses (target : Target) (written bytes : List ℕ) (old new : Side) : Type 0 where
  pub came : old.coming ≡ peer_line target.host target.port bytes ∷ new.coming
  pub went : (reads writes : ℕ) × (new.closed ≡ old.closed ++ closed_line (Some written) reads writes ∷ [])

-- a count that stands still at the greatest number of 64 bits didn't fall
abbrev pub Stays : ℕ → ℕ → Type 0
Stays before now = min before (2 ^ 64 - 1) ≤ now

-- how often a link failed, and lines of it, by what came from a peer and by what went to one
pub record Counts : Type 0 where
  pub opens : ℕ
  pub reads : ℕ
  pub writes : ℕ

abbrev pub counts : {L : Type 0} → (opens reads writes : L → ℕ) → L → Counts
counts opens reads writes link = record { opens = opens link; reads = reads link; writes = writes link }

-- no count fell
pub record Later (old new : Counts) : Type 0 where
  pub opens : old.opens ≤ new.opens
  pub reads : Stays old.reads new.reads
  pub writes : Stays old.writes new.writes

-- A fault of the outside is told only where these hold: of the link, of what comes from a peer, of what goes out. What is asked of a
-- server is asked of a good URL.
abbrev pub CausedBy : {A : Type 0} → Result A ClientFault → (Opening Reading Writing : Type 0) → Type 0
CausedBy (Ok answer) Opening Reading Writing = ⊤
CausedBy (Err fault.PeerFault) Opening Reading Writing = Opening
CausedBy (Err fault.ReadFault) Opening Reading Writing = Reading
CausedBy (Err fault.WriteFault) Opening Reading Writing = Writing
CausedBy (Err (fault.Refused status refusal)) Opening Reading Writing = ⊤
CausedBy (Err (fault.BadReply at)) Opening Reading Writing = ⊤
CausedBy (Err (fault.PageChanged first other)) Opening Reading Writing = ⊤
CausedBy (Err (fault.SizeChanged first other)) Opening Reading Writing = ⊤
CausedBy (Err fault.TooManyPages) Opening Reading Writing = ⊤
CausedBy (Err fault.BadUrl) Opening Reading Writing = ⊥
CausedBy (Err fault.NoMemory) Opening Reading Writing = ⊤

-- only where the link's count of it rose
abbrev pub HasCause : {A : Type 0} → Result A ClientFault → Counts → Counts → Type 0
HasCause result old new = CausedBy result (Rose old.opens new.opens) (Rose old.reads new.reads) (Rose old.writes new.writes)
