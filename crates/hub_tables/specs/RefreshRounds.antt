-- What the steps of a refresh do, one after another.
use Rattle.std.specs.Prelude.{◌≡◌, ◌⊎◌, ℕ, ◌≤◌, List, [], ◌∷◌, Option, Some, Result, Ok, Err, length}
use Rattle.edge_core.specs.Objects.{Objects}
use Rattle.log_actions.specs.declared.actions.Action.{Action}
use Rattle.log_store.specs.declared.refusal.LoadRefusal.{LoadRefusal}
use Rattle.log_store.specs.declared.refusal.LoadRefusal.TheVariants as load
use Rattle.share_book.specs.declared.entry.Act.{Act}
use Rattle.share_book.specs.declared.entry.Act.TheVariants.{Abort}
use Rattle.share_book.specs.declared.table.LogState.{LogState}
use Rattle.share_book.specs.History.{table_on}
use Rattle.share_book.specs.Legal.{IsKeptLog, There}
use Rattle.share_book.specs.Tables.{IsState}
use Rattle.share_book.specs.TableView.{TableLog}
use Rattle.hub_tables.specs.declared.refresh.Refreshed.{Refreshed}
use Rattle.hub_tables.specs.declared.refresh.RefreshRefusal.{RefreshRefusal}
use Rattle.hub_tables.specs.declared.refresh.RefreshRefusal.TheVariants as refusal
use Rattle.hub_tables.specs.declared.table_rounds.LogEnd.{LogEnd}
use Rattle.hub_tables.specs.declared.table_rounds.LogEnd.TheVariants as end
use Rattle.hub_calls.specs.Calls.{Adds, P}
use Rattle.hub_tables.specs.TableCalls.{HoldsLog, StopsOn}
use Rattle.hub_tables.specs.FoundCommits.{AreFound, RanOn}
use Rattle.hub_tables.specs.LogRefreshes.{IsTold, RefreshEnds}

abbrev pub refused_by : LoadRefusal → RefreshRefusal
refused_by load.StoreFault = refusal.StoreFault
refused_by load.NoMemory = refusal.NoMemory

abbrev pub known_by : LogState → Refreshed
known_by s = record { kept = s.kept; block = s.block; found = 0 }

-- what a refresh answers that ended so, with so many versions and after so many found ones
abbrev pub ended_by : LogEnd → ℕ → ℕ → Result Refreshed RefreshRefusal
ended_by end.Blocked kept found = Ok (record { kept = kept; block = Some kept; found = found })
ended_by end.StoreFault kept found = Err refusal.StoreFault
ended_by end.NoMemory kept found = Err refusal.NoMemory

-- the caller's Begin is open on a log of which this is known
pub record OpensOn (p : P) (j : ℕ) (s : LogState) : Type 0 where
  pub log : TableLog
  pub holds : HoldsLog p j log
  pub state : IsState log s
  pub kept : IsKeptLog log.commits

-- what was done from where the caller had begun on
pub record RunsOnLog (location : List ℕ) (new : Option Objects) (p q : P) (j : ℕ) (found : List (List Action)) (ends : List Act) : Type 0 where
  pub stops : StopsOn p q j found ends
  pub stored : There (table_on j p.seen) (λ t. AreFound location new t.commits found)
  pub few : length found ≤ 64

abbrev pub CutRuns : List ℕ → Option Objects → P → P → ℕ → Type 0
CutRuns location new p q j = (found : List (List Action)) × RunsOnLog location new p q j found (Abort ∷ [])

abbrev pub RefreshRuns : Result Refreshed RefreshRefusal → List ℕ → ℕ → Option Objects → Option Objects → P → P → Type 0
RefreshRuns (Ok r) location j old new p q = (found : List (List Action)) × (ends : List Act) × RunsOnLog location new p q j found ends
    × (r.found ≡ length found) × There (table_on j q.seen) (λ t. IsTold r t × RefreshEnds r location old new t ends)
RefreshRuns (Err refusal.NotLoaded) location j old new p q = ⊥
RefreshRuns (Err refusal.StoreFault) location j old new p q = CutRuns location new p q j
RefreshRuns (Err refusal.NoMemory) location j old new p q = CutRuns location new p q j

-- what was done from before the Begin on
pub record RefreshBegan (r : Refreshed) (location : List ℕ) (old new : Option Objects) (p q : P) (j : ℕ) : Type 0 where
  pub found : List (List Action)
  pub ends : List Act
  pub ran : RanOn location new p q j found ends
  pub few : length found ≤ 64
  pub count : r.found ≡ length found
  pub told : There (table_on j q.seen) (λ t. IsTold r t × RefreshEnds r location old new t ends)

abbrev pub CutOn : List ℕ → Option Objects → P → P → ℕ → Type 0
CutOn location new p q j = (found : List (List Action)) × RanOn location new p q j found (Abort ∷ []) × (length found ≤ 64)

abbrev pub RefreshesOn : Result Refreshed RefreshRefusal → List ℕ → ℕ → Option Objects → Option Objects → P → P → Type 0
RefreshesOn (Ok r) location j old new p q = RefreshBegan r location old new p q j
RefreshesOn (Err refusal.NotLoaded) location j old new p q = ⊥
RefreshesOn (Err refusal.StoreFault) location j old new p q = Adds p q [] ⊎ CutOn location new p q j
RefreshesOn (Err refusal.NoMemory) location j old new p q = Adds p q [] ⊎ CutOn location new p q j
