-- What the steps on a table's log do while the caller's Begin is open on it.
use Rattle.std.specs.Prelude.{◌≡◌, ◌⊎◌, ℕ, ◌≤◌, Bool, true, false, List, [], ◌∷◌, ◌++◌, Option, None, Result, Ok, Err, ⊤, IsSome, length}
use Rattle.log_store.specs.declared.refusal.LoadRefusal.{LoadRefusal}
use Rattle.edge_core.specs.Objects.{Lacks, Objects}
use Rattle.log_actions.specs.declared.actions.Action.{Action}
use Rattle.log_actions.specs.CommitTexts.{commit_text, printed_bytes}
use Rattle.log_commit.specs.Names.{commit_name}
use Rattle.log_replay.specs.Standing.{standing_of}
use Rattle.log_store.specs.Log.{cause_with}
use Rattle.share_book.specs.declared.entry.Act.{Act}
use Rattle.share_book.specs.declared.entry.Act.TheVariants.{Blocked, Abort}
use Rattle.share_book.specs.History.{table_on}
use Rattle.share_book.specs.Legal.{IsKeptLog, There}
use Rattle.share_book.specs.TableView.{TableLog}
use Rattle.hub_tables.specs.declared.table_rounds.LogHead.{LogHead}
use Rattle.hub_tables.specs.declared.table_rounds.VersionObject.{VersionObject}
use Rattle.hub_tables.specs.declared.table_rounds.VersionObject.TheVariants as object
use Rattle.hub_tables.specs.declared.table_rounds.Taken.{Taken}
use Rattle.hub_tables.specs.declared.table_rounds.Taken.TheVariants as taken
use Rattle.hub_tables.specs.declared.table_rounds.LogEnd.{LogEnd}
use Rattle.hub_tables.specs.declared.table_rounds.LogEnd.TheVariants as end
use Rattle.hub_tables.specs.declared.table_rounds.NextCommit.{NextCommit}
use Rattle.hub_tables.specs.declared.table_rounds.NextCommit.TheVariants as next
use Rattle.hub_calls.specs.Calls.{P}
use Rattle.hub_tables.specs.TableCalls.{BlocksLog, GoesOn, HoldsLog, StopsOn}
use Rattle.hub_tables.specs.FoundCommits.{AreFound, IsFoundAt, IsUnkept}

-- what the next version's support needs to know of these commits, and their bytes
pub record IsHeadOf (h : LogHead) (log : List (List Action)) : Type 0 where
  pub kept : IsKeptLog log
  pub stands : h.support ≡ standing_of log
  pub counted : h.bytes ≡ printed_bytes log

-- the caller's Begin is open on a log that isn't blocked, of which this is known
pub record HoldsHead (p : P) (j : ℕ) (h : LogHead) : Type 0 where
  pub log : TableLog
  pub holds : HoldsLog p j log
  pub free : log.block ≡ None
  pub head : IsHeadOf h log.commits

-- whether a version's object is there
abbrev pub IsThere : Option (List ℕ) → Result VersionObject LoadRefusal → Type 0
IsThere found (Ok object.There) = IsSome found
IsThere found (Ok object.Absent) = found ≡ None
IsThere found (Err refusal) = ⊤

-- a commit is kept after these, or isn't
abbrev pub TakesNext : Taken → List (List Action) → List Action → ℕ → LogHead → Type 0
TakesNext (taken.Kept k) log c n h = (k.commit.value ≡ c) × (k.shared ≡ c) × (k.bytes ≡ length (commit_text c)) × IsHeadOf h (log ++ c ∷ []) × (cause_with log c ≡ None)
TakesNext taken.Unkept log c n h = IsSome (cause_with log c)
TakesNext taken.NoMemory log c n h = ⊤

-- what becomes of a commit that the store has
abbrev pub PublishesNext : NextCommit → ℕ → List Action → LogHead → P → P → Type 0
PublishesNext next.Found j c h p q = GoesOn p q j (c ∷ []) × HoldsHead q j h × There (table_on j p.seen) (λ t. cause_with t.commits c ≡ None)
PublishesNext next.Absent j c h p q = ⊥
PublishesNext (next.End end.Blocked) j c h p q = BlocksLog j p q × There (table_on j p.seen) (λ t. IsSome (cause_with t.commits c))
PublishesNext (next.End end.StoreFault) j c h p q = ⊥
PublishesNext (next.End end.NoMemory) j c h p q = StopsOn p q j [] (Abort ∷ []) ⊎ (StopsOn p q j (c ∷ []) (Abort ∷ []) × There (table_on j p.seen) (λ t. cause_with t.commits c ≡ None))

-- how the caller ended what it began on the log, after so many found commits
abbrev pub EndsLog : LogEnd → List ℕ → Option Objects → List (List Action) → List (List Action) → List Act → Type 0
EndsLog end.Blocked location new log found ends = (found ≡ []) × (ends ≡ Blocked (length log) ∷ Abort ∷ []) × IsUnkept location new log
EndsLog end.StoreFault location new log found ends = (found ≡ []) × (ends ≡ Abort ∷ [])
EndsLog end.NoMemory location new log found ends = (length found ≤ 1) × (ends ≡ Abort ∷ [])

-- the next version was published; none was there, and nothing was done; or the caller ended what it began
abbrev pub Nexts : NextCommit → List ℕ → ℕ → LogHead → LogHead → Option Objects → P → P → Type 0
Nexts next.Found location j h h' new p q = (c : List Action) × GoesOn p q j (c ∷ []) × HoldsHead q j h' × There (table_on j p.seen) (λ t. IsFoundAt location new t.commits c)
Nexts next.Absent location j h h' new p q = (q ≡ p) × (h' ≡ h) × Lacks (commit_name location h.support.versions) new
Nexts (next.End x) location j h h' new p q = (found : List (List Action)) × (ends : List Act) × StopsOn p q j found ends
    × There (table_on j p.seen) (λ t. AreFound location new t.commits found × EndsLog x location new t.commits found ends)

abbrev pub failed_end : LogEnd → Bool
failed_end end.Blocked = false
failed_end end.StoreFault = true
failed_end end.NoMemory = false

abbrev pub failed_next_commit : NextCommit → Bool
failed_next_commit next.Found = false
failed_next_commit next.Absent = false
failed_next_commit (next.End x) = failed_end x
