-- What a refresh of a table's log adds and says.
use Rattle.std.specs.Prelude.{◌≡◌, ◌⊎◌, ℕ, ◌≤◌, ◌<◌, Bool, true, false, List, [], ◌∷◌, Option, Some, None, Result, Ok, Err, IfSome, IsSome, length}
use mathlib.Core.List.{IsPrefix}
use Rattle.share_book.specs.declared.entry.Entry.{Entry}
use Rattle.log_store.specs.Log.{text_at}
use Rattle.edge_core.specs.Objects.{Lacks, Objects}
use Rattle.log_actions.specs.declared.actions.Action.{Action}
use Rattle.log_commit.specs.Names.{commit_name}
use Rattle.share_book.specs.declared.entry.Act.{Act}
use Rattle.share_book.specs.declared.entry.Act.TheVariants.{Blocked, Abort}
use Rattle.share_book.specs.History.{table_on}
use Rattle.share_book.specs.Legal.{There, log_at}
use Rattle.share_book.specs.TableView.{TableLog}
use Rattle.hub_calls.specs.Calls.{Adds, P}
use Rattle.hub_tables.specs.FoundCommits.{IsUnkept, RanOn}
use Rattle.hub_tables.specs.declared.refresh.Refreshed.{Refreshed}
use Rattle.hub_tables.specs.declared.refresh.RefreshRefusal.{RefreshRefusal}
use Rattle.hub_tables.specs.declared.refresh.RefreshRefusal.TheVariants as refusal

-- the log's length, and the version that isn't kept
abbrev pub IsTold : Refreshed → TableLog → Type 0
IsTold r t = (r.kept ≡ length t.commits) × (r.block ≡ t.block)

-- It ended with Abort: the log was blocked, 64 commits were found, or no object had the name of the next version when the call
-- began. Or it blocked the log: the object of that name isn't kept.
abbrev pub RefreshEnds : Refreshed → List ℕ → Option Objects → Option Objects → TableLog → List Act → Type 0
RefreshEnds r location old new t ends =
    ((ends ≡ Abort ∷ []) × (r.block ≡ None → r.found < 64 → Lacks (commit_name location r.kept) old))
    ⊎ ((ends ≡ Blocked r.kept ∷ Abort ∷ []) × IsUnkept location new t.commits)

-- Before the Begin the log wasn't blocked, and an object had the name of its next version.
abbrev pub WasSought : List ℕ → Option Objects → P → List Entry → ℕ → Type 0
WasSought location new p from j =
    (h : List Entry) × IsPrefix p.seen h × IsPrefix h from × There (table_on j h) (λ t. (t.block ≡ None) × IfSome new (λ os. IsSome (text_at location os (length t.commits))))

-- a refresh that added entries on the log of number j
pub record RefreshRan (r : Refreshed) (location : List ℕ) (old new : Option Objects) (p q : P) (j : ℕ) : Type 0 where
  pub found : List (List Action)
  pub ends : List Act
  pub ran : RanOn location new p q j found ends
  pub sought : WasSought location new p ran.from j
  pub few : length found ≤ 64
  pub count : r.found ≡ length found
  pub told : There (table_on j q.seen) (λ t. IsTold r t × RefreshEnds r location old new t ends)

-- A refresh that added none: the log is blocked, or no object had the name of its next version when the call began.
abbrev pub RefreshQuiet : Refreshed → List ℕ → Option Objects → P → P → ℕ → Type 0
RefreshQuiet r location old p q j = Adds p q [] × (r.found ≡ 0) × There (table_on j q.seen) (IsTold r) × (r.block ≡ None → Lacks (commit_name location r.kept) old)

-- a refresh that ended for another reason, after it had begun
abbrev pub RefreshCut : List ℕ → Option Objects → P → P → ℕ → Type 0
RefreshCut location new p q j = (found : List (List Action)) × (ran : RanOn location new p q j found (Abort ∷ [])) × WasSought location new p ran.from j × (length found ≤ 64)

-- What a refresh added, and what its answer says of it. A location of more than 256 bytes is no table's.
abbrev pub Refreshes : Result Refreshed RefreshRefusal → List ℕ → Option Objects → Option Objects → P → P → Type 0
Refreshes (Ok r) location old new p q = (j : ℕ) × (log_at q.seen location ≡ Some j) × (RefreshQuiet r location old p q j ⊎ RefreshRan r location old new p q j)
Refreshes (Err refusal.NotLoaded) location old new p q = Adds p q [] × ((log_at q.seen location ≡ None) ⊎ (256 < length location))
Refreshes (Err refusal.StoreFault) location old new p q = Adds p q [] ⊎ ((j : ℕ) × (log_at q.seen location ≡ Some j) × RefreshCut location new p q j)
Refreshes (Err refusal.NoMemory) location old new p q = Adds p q [] ⊎ ((j : ℕ) × (log_at q.seen location ≡ Some j) × RefreshCut location new p q j)

abbrev pub failed_refresh : Result Refreshed RefreshRefusal → Bool
failed_refresh (Err refusal.StoreFault) = true
failed_refresh _ = false
