-- What a worker's work says of its door's lines.
use Rattle.std.specs.Prelude.{◌≡◌, ◌⊎◌, ◌+◌, ◌≤◌, ℕ, false, List, [], ◌∷◌, ◌++◌, length, map, Option, Some, option_map, ⊤}
use mathlib.Core.List.{IsPrefix}
use Rattle.edge_core.specs.Faults.{Rose}
use Rattle.edge_core.specs.Objects.{Grows, Lacks, Objects, Told}
use Rattle.catalog_log.specs.RecordNames.{record_name_of}
use Rattle.share_catalog.specs.declared.edit.Edit.{Edit}
use Rattle.share_book.specs.History.{edits}
use Rattle.share_book.specs.declared.entry.Entry.{Entry}
use Rattle.hub_catalog.specs.Edits.{Blocks}
use Rattle.share_serve.specs.Sessions.{HasCause, IsSession}
use Rattle.share_serve.specs.Turns.{Grew, Hold}
use Rattle.share_serve.specs.declared.server.Server.{Server}
use Rattle.share_pool.specs.Posts.{Post}
use Rattle.share_pool.specs.Refreshing.{Refreshed}
use Rattle.share_pool.specs.Visits.{Attended, Visit, any_lacks, closed_of}

-- The sessions lie one after another. Before each the caller adds the entries of refreshes alone, and behind the last none.
abbrev pub LieInOrder : Hold → List Visit → Hold → Type 0
LieInOrder old [] new = new ≡ old
LieInOrder old (v ∷ visits) new = Refreshed v.lacked old v.before.hold × Grew v.before.hold v.after.hold × LieInOrder v.after.hold visits new

-- each line has a session, with a cause for its end
abbrev pub HaveSessions : Server → List Visit → Type 0
HaveSessions server [] = ⊤
HaveSessions server (v ∷ visits) = IsSession server v.bytes v.left v.before v.after v.ended
    × HasCause v.ended 0 v.reads 0 v.writes v.before.hold.shelf.objects v.before.hold.shelf.faults v.after.hold.shelf.faults × HaveSessions server visits

-- nothing was written to a line before its session
abbrev pub BeginEmpty : List Visit → Type 0
BeginEmpty [] = ⊤
BeginEmpty (v ∷ visits) = (v.before.written ≡ Some []) × BeginEmpty visits

-- a door that tells gave these lines, in order, and the others are still to come
abbrev pub Came : (old new : Option (List (List ℕ))) → List Visit → Type 0
Came old new visits =
    Told old new (λ lines rest. (taken : List (List ℕ)) × (lines ≡ taken ++ rest) × (map (λ v. v.bytes) visits ≡ map Some taken) × BeginEmpty visits)

-- the lines were closed in the order in which they came, and what the pass has seen and the store has only grew
pub record InOrder (server : Server) (old new : Post) (visits : List Visit) : Type 0 where
  pub came : Came old.coming new.coming visits
  pub closed : new.closed ≡ option_map (λ xs. xs ++ map closed_of visits) old.closed
  pub sessions : HaveSessions server visits
  pub order : LieInOrder old.hold visits new.hold
  pub grew : Grew old.hold new.hold

abbrev pub WorksInOrder : Type 0
WorksInOrder = (server : Server) (old new : Post) (visits : List Visit) → old.hold.pass.holds ≡ false → Attended server old visits new → InOrder server old new visits

-- ---- what a session begins with

-- all records that the store had are of edits that were seen: none was there behind them
abbrev pub HasRecords : Option Objects → List Entry → Type 0
HasRecords objects seen = (n : ℕ) × (n ≤ length (edits seen)) × Lacks (record_name_of n) objects

-- an object isn't taken as the record behind the first of the edits that were seen
abbrev pub HasBlock : Option Objects → List Entry → Type 0
HasBlock objects seen = (es : List Edit) × IsPrefix es (edits seen) × Blocks objects (length es) es

-- The session has all records that the store had when its line was there; or the store failed since, an object isn't taken as the
-- next record, or 65,536 edits more were seen.
abbrev pub IsUpToDate : (old first : Hold) → Type 0
IsUpToDate old first =
    HasRecords old.shelf.objects first.pass.seen
    ⊎ (Rose old.shelf.faults first.shelf.faults
    ⊎ (((objects : Option Objects) × Grows old.shelf.objects objects × HasBlock objects first.pass.seen)
    ⊎ (length (edits old.pass.seen) + 65536 ≤ length (edits first.pass.seen))))

-- each session at its first point
abbrev pub AreUpToDate : Hold → List Visit → Type 0
AreUpToDate old [] = ⊤
AreUpToDate old (v ∷ visits) = IsUpToDate old v.before.hold × AreUpToDate v.after.hold visits

abbrev pub BeginsUpToDate : Type 0
BeginsUpToDate = (server : Server) (old new : Post) (visits : List Visit) → old.hold.pass.holds ≡ false → Attended server old visits new → any_lacks visits ≡ false → AreUpToDate old.hold visits
