-- What a caller does for a connection before its session: it takes over what others have stored.
use Rattle.std.specs.Prelude.{◌≡◌, ◌⊎◌, ◌||◌, ℕ, ◌<◌, ◌≤◌, Bool, true, false, List, [], ◌∷◌, Result, Ok, Err, ⊤, length}
use Rattle.edge_core.specs.Faults.{Cause}
use Rattle.log_store.specs.Loads.{Looked}
use Rattle.share_book.specs.Legal.{locations_of}
use Rattle.hub_calls.specs.Calls.{Adds}
use Rattle.hub_catalog.specs.Refreshes as catalog
use Rattle.hub_catalog.specs.declared.found.CatalogRefusal.{CatalogRefusal}
use Rattle.hub_catalog.specs.declared.found.CatalogRefusal.TheVariants as catalog_refusal
use Rattle.hub_tables.specs.declared.refresh.RefreshRefusal.{RefreshRefusal}
use Rattle.hub_tables.specs.declared.refresh.RefreshRefusal.TheVariants as log_refusal
use Rattle.hub_tables.specs.declared.refresh.Refreshed.{Refreshed as LogState}
use Rattle.hub_catalog.specs.declared.refresh_catalog.RefreshedCatalog.{RefreshedCatalog}
use Rattle.share_serve.specs.Turns.{Grew, Hold, Sought}

-- A refresh of the catalogue, by its answer. Where no further record is there it adds no entry, and it puts no object.
pub record CatalogRefresh (answer : Result RefreshedCatalog CatalogRefusal) (old new : Hold) : Type 0 where
  pub grew : Grew old new
  pub entries : catalog.Refreshes answer old.shelf.objects new.shelf.objects old.pass new.pass
  pub stored : Looked old.shelf.objects new.shelf.objects old.shelf.alone new.shelf.alone
  pub cause : Cause old.shelf.faults new.shelf.faults (catalog.failed_refresh answer)
  pub puts : new.shelf.stored ≡ old.shelf.stored

-- A refresh of the log at a location, by its answer. Where no further version is there it adds no entry.
pub record LogRefresh (location : List ℕ) (answer : Result LogState RefreshRefusal) (old new : Hold) : Type 0 where
  pub grew : Grew old new
  pub sought : Sought answer location old new

-- memory was wanting in a refresh of the catalogue
abbrev pub lacks_records : Result RefreshedCatalog CatalogRefusal → Bool
lacks_records (Err catalog_refusal.NoMemory) = true
lacks_records _ = false

-- memory was wanting in a refresh of a log
abbrev pub lacks_commits : Result LogState RefreshRefusal → Bool
lacks_commits (Err log_refusal.NoMemory) = true
lacks_commits _ = false

module _ {R E : Type 0} (found : R → ℕ) (Call : Result R E → Hold → Hold → Type 0) where
  -- calls one after another that came to these holds, of which each found 64, as many as one call takes over
  abbrev pub AllFull : List Hold → Hold → Hold → Type 0
  AllFull [] old new = new ≡ old
  AllFull (h ∷ hs) old new = ((r : R) × (64 ≤ found r) × Call (Ok r) old h) × AllFull hs h new

  -- it found fewer, or failed
  abbrev pub IsLast : Result R E → Type 0
  IsLast (Ok r) = found r < 64
  IsLast (Err why) = ⊤

  -- A call was repeated until one found fewer than 64 or failed, or 1,024 were made; memory was wanting in the last, or in none.
  pub record Repeats (lacks : Result R E → Bool) (lacked : Bool) (old new : Hold) : Type 0 where
    pub full : List Hold
    pub mid : Hold
    pub calls : AllFull full old mid
    pub ends : ((length full ≡ 1024) × (new ≡ mid) × (lacked ≡ false)) ⊎ ((length full < 1024) × ((answer : Result R E) × IsLast answer × Call answer mid new × (lacked ≡ lacks answer)))

-- the records that others stored were taken over, and whether memory was wanting
abbrev pub TakesRecords : Bool → Hold → Hold → Type 0
TakesRecords lacked old new = Repeats (λ (r : RefreshedCatalog). r.found) CatalogRefresh lacks_records lacked old new

-- and the commits that others stored at a location
abbrev pub TakesCommits : List ℕ → Bool → Hold → Hold → Type 0
TakesCommits location lacked old new = Repeats (λ (r : LogState). r.found) (LogRefresh location) lacks_commits lacked old new

-- One location after another. Memory was wanting where it was at any of them.
abbrev pub LogRefreshes : List (List ℕ) → Bool → Hold → Hold → Type 0
LogRefreshes [] lacked old new = (new ≡ old) × (lacked ≡ false)
LogRefreshes (l ∷ ls) lacked old new = (mid : Hold) × (here : Bool) × (later : Bool) × TakesCommits l here old mid × LogRefreshes ls later mid new × (lacked ≡ (here || later))

-- The catalogue is refreshed. Then each log that is loaded at that time is, in the order in which they were loaded; or memory was
-- wanting for their locations, and none is. The caller adds no other entries. `lacked` says whether memory was wanting in any of this,
-- `first` whether in the catalogue's refresh, `later` whether in a log's.
pub record Refreshed (lacked : Bool) (old new : Hold) : Type 0 where
  pub known : Hold
  pub listed : Hold
  pub first : Bool
  pub catalog : TakesRecords first old known
  pub looks : Grew known listed
  pub own : Adds known.pass listed.pass []
  pub shelf : listed.shelf ≡ known.shelf
  pub logs : ((later : Bool) × LogRefreshes (locations_of listed.pass.seen) later listed new × (lacked ≡ (first || later))) ⊎ ((new ≡ listed) × (lacked ≡ true))
