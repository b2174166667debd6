-- What a refresh of the catalogue adds and says.
use Rattle.std.specs.Prelude.{◌≡◌, ◌⊎◌, ℕ, ◌≤◌, ◌<◌, Bool, true, false, List, [], Option, None, Result, Ok, Err, ⊤, IfSome, IsSome, length}
use Rattle.std.specs.FinMap as finmap
use mathlib.Core.List.{IsPrefix}
use Rattle.edge_core.specs.Objects.{Lacks, Objects}
use Rattle.log_store.specs.declared.refusal.LoadRefusal.TheVariants as load
use Rattle.catalog_log.specs.RecordNames.{record_name_of}
use Rattle.share_book.specs.declared.entry.Entry.{Entry}
use Rattle.share_book.specs.declared.entry.Act.TheVariants.{Abort}
use Rattle.share_book.specs.History.{edits}
use Rattle.hub_calls.specs.Calls.{Adds, P}
use Rattle.hub_catalog.specs.CatalogCalls.{Step, Stops}
use Rattle.hub_catalog.specs.Edits.{AreSteps, FewFound, LastIs, Ran, RefusesWith, failed_refusal}
use Rattle.hub_catalog.specs.declared.found.CatalogRefusal.{CatalogRefusal}
use Rattle.hub_catalog.specs.declared.found.CatalogRefusal.TheVariants as refusal
use Rattle.hub_catalog.specs.declared.refresh_catalog.Ahead.{Ahead}
use Rattle.hub_catalog.specs.declared.refresh_catalog.Ahead.TheVariants as ahead
use Rattle.hub_catalog.specs.declared.refresh_catalog.RefreshedCatalog.{RefreshedCatalog}

-- an object is there as the record of this number
abbrev pub IsThere : Option Objects → ℕ → Type 0
IsThere new n = IfSome new (λ os. IsSome (finmap.get os (record_name_of n)))

abbrev pub IsAhead : Ahead → ℕ → Option Objects → Type 0
IsAhead ahead.There n new = IsThere new n
IsAhead ahead.Absent n new = Lacks (record_name_of n) new
IsAhead (ahead.Failed r) n new = ⊤

abbrev pub failed_ahead : Ahead → Bool
failed_ahead (ahead.Failed load.StoreFault) = true
failed_ahead _ = false

abbrev pub failed_refresh : Result RefreshedCatalog CatalogRefusal → Bool
failed_refresh (Ok r) = false
failed_refresh (Err x) = failed_refusal x

-- what the answer says, where so many edits were found: fewer than 64 only where no further record was there
abbrev pub Tells : Result RefreshedCatalog CatalogRefusal → Option Objects → P → ℕ → Type 0
Tells (Ok r) new q m = (r.found ≡ m) × (m ≤ 64) × LastIs q Abort (λ es. r.edits ≡ length es) × (m < 64 → Lacks (record_name_of r.edits) new)
Tells (Err x) new q m = RefusesWith x new q × FewFound x m

abbrev pub RefreshesOn : Result RefreshedCatalog CatalogRefusal → Option Objects → Option Objects → P → P → Type 0
RefreshesOn r old new p q = (found : List Step) × Stops p q found None Abort × AreSteps old new (length (edits p.seen)) found × Tells r new q (length found)

-- what an answer before the Begin says
abbrev pub IsEarly : Result RefreshedCatalog CatalogRefusal → Option Objects → P → Type 0
IsEarly (Ok r) new q = (r.found ≡ 0) × (r.edits ≡ length (edits q.seen)) × Lacks (record_name_of r.edits) new
IsEarly (Err (refusal.Blocked n)) new q = ⊥
IsEarly (Err refusal.StoreFault) new q = ⊤
IsEarly (Err refusal.NoMemory) new q = ⊤

-- Begin, found edits with their logs, and Abort
abbrev pub Begun : Result RefreshedCatalog CatalogRefusal → Option Objects → Option Objects → P → P → Type 0
Begun r old new p q = (found : List Step) × Ran old new p q found None Abort × Tells r new q (length found)

abbrev pub RefreshesBegun : Result RefreshedCatalog CatalogRefusal → Option Objects → Option Objects → P → P → Type 0
RefreshesBegun r old new p q = (Adds p q [] × (r ≡ Err refusal.NoMemory)) ⊎ Begun r old new p q

-- the record after those that were known at some point of the call was there
abbrev pub HadNext : Option Objects → P → P → Type 0
HadNext new p q = (at : List Entry) × IsPrefix p.seen at × IsPrefix at q.seen × IsThere new (length (edits at))

-- Nothing was added; or a next record was there, and Begin, found edits and Abort were.
abbrev pub Refreshes : Result RefreshedCatalog CatalogRefusal → Option Objects → Option Objects → P → P → Type 0
Refreshes r old new p q = (Adds p q [] × IsEarly r new q) ⊎ (Begun r old new p q × HadNext new p q)
