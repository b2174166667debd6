-- Lines served one after another.
use Rattle.std.specs.Prelude.{◌≡◌, ◌⊎◌, ◌||◌, ◌-◌, ◌^◌, ℕ, Bool, true, false, min, List, [], ◌∷◌, length, Option}
use Rattle.std.specs.List.{list_any}
use Rattle.edge_core.specs.Faults.{Rose}
use Rattle.edge_core.specs.Lines.{ClosedLine, Comes, NoneComes, closed_line, with_line}
use Rattle.share_serve.specs.Sessions.{HasCause, IsSession}
use Rattle.share_serve.specs.Turns.{Grew, Side}
use Rattle.share_serve.specs.declared.serve.SessionEnd.{SessionEnd}
use Rattle.share_serve.specs.declared.serve.SessionEnd.TheVariants as end
use Rattle.share_serve.specs.declared.server.Server.{Server}
use Rattle.share_pool.specs.Posts.{Post}
use Rattle.share_pool.specs.Refreshing.{Refreshed}
use Rattle.share_pool.specs.declared.desk.ServeEnd.{ServeEnd}
use Rattle.share_pool.specs.declared.desk.ServeEnd.TheVariants as serve_end

-- A line that was served: the bytes that it came with and what was left of them, whether memory was wanting in the refreshes before its
-- session, where that began and ended, and how, and how often its source and its sink had failed when it was closed.
pub record Visit : Type 0 where
  pub bytes : Option (List ℕ)
  pub left : Option (List ℕ)
  pub lacked : Bool
  pub before : Side
  pub after : Side
  pub ended : SessionEnd
  pub reads : ℕ
  pub writes : ℕ

-- what the door keeps of it
abbrev pub closed_of : Visit → ClosedLine
closed_of v = closed_line v.after.written v.reads v.writes

-- its line is accepted, and all but the door's lines stay as they are
pub record Accepts (old : Post) (v : Visit) (new : Post) : Type 0 where
  pub comes : Comes old.coming new.coming v.bytes v.before.written
  pub closed : new.closed ≡ old.closed
  pub moments : new.moments ≡ old.moments
  pub hold : new.hold ≡ old.hold

-- what is done once the line is there: what others stored is taken over, the line is served, and then it is closed
pub record ServesLine (server : Server) (old : Post) (v : Visit) (new : Post) : Type 0 where
  pub clock : v.before.coming ≡ old.moments
  pub refreshed : Refreshed v.lacked old.hold v.before.hold
  pub session : IsSession server v.bytes v.left v.before v.after v.ended
  pub cause : HasCause v.ended 0 v.reads 0 v.writes v.before.hold.shelf.objects v.before.hold.shelf.faults v.after.hold.shelf.faults
  pub grew : Grew v.before.hold v.after.hold
  pub closed : new.closed ≡ with_line old.closed (closed_of v)
  pub coming : new.coming ≡ old.coming
  pub moments : new.moments ≡ v.after.coming
  pub hold : new.hold ≡ v.after.hold

-- A line is accepted, and then served. That the refresh isn't before the accept no clause tells, but the type of `serve_line`: it takes the line.
abbrev pub Attends : Server → Post → Visit → Post → Type 0
Attends server old v new = (there : Post) × Accepts old v there × ServesLine server there v new

-- one after another
abbrev pub Attended : Server → Post → List Visit → Post → Type 0
Attended server old [] new = new ≡ old
Attended server old (v ∷ visits) new = (mid : Post) × Attends server old v mid × Attended server mid visits new

-- memory was wanting in a session
abbrev pub lacks : SessionEnd → Bool
lacks (end.NoMemory served) = true
lacks _ = false

-- or in the refreshes before it
abbrev pub wants : Visit → Bool
wants v = v.lacked || lacks v.ended

abbrev pub any_lacks : List Visit → Bool
any_lacks visits = list_any (λ v. wants v) visits

-- the line with these bytes, to which this was written, is served, and whether memory was wanting
abbrev pub ServesOne : Server → (bytes written : Option (List ℕ)) → (old new : Post) → (lacking : Bool) → Type 0
ServesOne server bytes written old new lacking = (v : Visit) × (v.bytes ≡ bytes) × (v.before.written ≡ written) × ServesLine server old v new × (lacking ≡ wants v)

-- how a worker ends, by the lines that it served, where it stands, and its door's count of faults before and after
abbrev pub EndsWork : List Visit → Post → (n m : ℕ) → ServeEnd → Type 0
EndsWork visits new n m (serve_end.Closed served) = NoneComes new.coming × (any_lacks visits ≡ false) × (served ≡ min (length visits) (2 ^ 64 - 1))
EndsWork visits new n m serve_end.ListenerFault = Rose n m × (any_lacks visits ≡ false)
EndsWork visits new n m serve_end.NoMemory = (NoneComes new.coming ⊎ Rose n m) × (any_lacks visits ≡ true)

-- a worker's whole work
abbrev pub Works : Server → (old new : Post) → (n m : ℕ) → ServeEnd → Type 0
Works server old new n m e = (visits : List Visit) × Attended server old visits new × EndsWork visits new n m e
