-- What a hub is opened with.
use Rattle.std.specs.Prelude.{◌≡◌, ℕ, Bool, true, false, List, [], ◌∷◌, ◌++◌, Option, Some, Result, Ok, Err, ⊤, IfSome, length, map}
use Rattle.turn_cell.specs.Passes.{CellId}
use Rattle.edge_core.specs.Objects.{Lacks, Objects}
use Rattle.log_store.specs.declared.refusal.LoadRefusal.{LoadRefusal}
use Rattle.log_store.specs.declared.refusal.LoadRefusal.TheVariants as load
use Rattle.catalog_log.specs.RecordNames.{record_name_of}
use Rattle.share_catalog.specs.declared.edit.Edit.{Edit}
use Rattle.share_catalog.specs.Catalogue.{refusal_of}
use Rattle.std.specs.Global.{Vec}
use Rattle.turn_cell.specs.Passes.{AllFresh}
use Rattle.share_book.specs.BookView.{BookView}
use Rattle.share_book.specs.Books.{rests}
use Rattle.share_book.specs.declared.entry.Entry.{Entry}
use Rattle.share_book.specs.declared.entry.Act.TheVariants.{Begin, FoundEdit, Abort}
use Rattle.share_book.specs.History.{edits, entry}
use Rattle.hub_calls.specs.Calls.{P}
use Rattle.hub_catalog.specs.CatalogTurns.{loading}
use Rattle.hub_catalog.specs.CatalogCalls.{Step, edit_in, finds}
use Rattle.hub_catalog.specs.Records.{HasRecord, record_at}
use Rattle.hub_catalog.specs.Edits.{AreSteps, IsStep}
use Rattle.hub_catalog.specs.declared.open.Added.{Added}
use Rattle.hub_catalog.specs.declared.open.Added.TheVariants as added
use Rattle.hub_catalog.specs.declared.open.OpenRefusal.{OpenRefusal}
use Rattle.hub_catalog.specs.declared.open.OpenRefusal.TheVariants as refusal

-- the history with which a hub begins: caller 0 published the edits that the store had
abbrev pub first_history : List Step → List Entry
first_history found = entry 0 0 Begin ∷ finds 0 found ++ entry 0 0 Abort ∷ []

abbrev pub refusal_for : LoadRefusal → OpenRefusal
refusal_for load.StoreFault = refusal.StoreFault
refusal_for load.NoMemory = refusal.NoMemory

abbrev pub failed_open : {X : Type 0} → Result X OpenRefusal → Bool
failed_open (Err refusal.StoreFault) = true
failed_open _ = false

-- The record of that number is none, or the catalogue refuses its edit after those before it.
abbrev pub IsNoOpening : OpenRefusal → ℕ → Option Objects → List Edit → Type 0
IsNoOpening (refusal.Record n f) m new es = (n ≡ m) × IfSome new (λ os. record_at os n ≡ Some (Err f))
IsNoOpening (refusal.Edit n r) m new es = (n ≡ m) × ((e : Edit) × HasRecord new n e × (refusal_of es e ≡ Some r))
IsNoOpening refusal.StoreFault m new es = ⊤
IsNoOpening refusal.NoMemory m new es = ⊤

abbrev pub failed_added : Added → Bool
failed_added added.Found = false
failed_added added.Absent = false
failed_added (added.Failed r) = failed_open {X = ℕ} (Err r)

-- the book rests unless nothing more is done with it
abbrev pub RestsAfter : Added → BookView → Type 0
RestsAfter added.Found b = rests b ≡ true
RestsAfter added.Absent b = rests b ≡ true
RestsAfter (added.Failed r) b = ⊤

-- the edit was added after the log that it needs, or memory was wanting
abbrev pub PublishesIn : Added → Step → List Entry → List Entry → Type 0
PublishesIn added.Found x h h' = h' ≡ h ++ loading 0 x.load (FoundEdit x.edit)
PublishesIn added.Absent x h h' = ⊥
PublishesIn (added.Failed r) x h h' = r ≡ refusal.NoMemory

-- a further record's edit was added, or none was there, or why it wasn't added
abbrev pub AddsIn : Added → ℕ → Option Objects → Option Objects → List Entry → List Entry → Type 0
AddsIn added.Found n old new h h' = (x : Step) × (h' ≡ h ++ loading 0 x.load (FoundEdit x.edit)) × IsStep old new n x
AddsIn added.Absent n old new h h' = (h' ≡ h) × Lacks (record_name_of n) new
AddsIn (added.Failed r) n old new h h' = IsNoOpening r n new (edits h)

-- the edits are those of the records from 0 up to the first that is absent
abbrev pub ReadsBook : Result BookView OpenRefusal → Option Objects → Option Objects → Type 0
ReadsBook (Ok b) old new = (found : List Step) × (b.past.history ≡ first_history found) × AreSteps old new 0 found × Lacks (record_name_of (length found)) new
ReadsBook (Err r) old new = (found : List Step) × AreSteps old new 0 found × IsNoOpening r (length found) new (map edit_in found)

-- The passes have seen the history of the records' edits, up to the first record that is absent. A refusal tells of the first
-- record that is none, or whose edit the catalogue refuses after those of the records before it.
abbrev pub OpensAs : Result (CellId × Vec P) OpenRefusal → ℕ → Option Objects → Option Objects → Type 0
OpensAs (Ok made) callers old new = (length made.1.items ≡ callers) × ((found : List Step) × AllFresh made.0 (first_history found) 0 made.1.items × AreSteps old new 0 found × Lacks (record_name_of (length found)) new)
OpensAs (Err r) callers old new = (found : List Step) × AreSteps old new 0 found × IsNoOpening r (length found) new (map edit_in found)
