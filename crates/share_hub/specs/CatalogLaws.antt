-- What holds of the hub's calls on the catalogue, and which edits are recorded.
use Rattle.std.specs.Prelude.{◌≡◌, ◌⊎◌, ℕ, ◌+◌, ◌^◌, ◌≤◌, ◌<◌, Bool, true, List, Option, Some, None, Result, Ok, Err, IfOk, IfSome, All, length, slice_get}
use mathlib.Core.List.{IsPrefix}
use Rattle.std.specs.Global.{Vec}
use Rattle.turn_cell.specs.Passes.{CellId}
use Rattle.edge_core.specs.Faults.{Cause}
use Rattle.edge_core.specs.Objects.{Grows, Lacks, Objects}
use Rattle.log_actions.specs.declared.actions.Action.{Action}
use Rattle.log_store.specs.Backed.{IsBacked, WasPut}
use Rattle.catalog_log.specs.RecordNames.{record_name_of}
use Rattle.share_catalog.specs.declared.edit.Edit.{Edit}
use Rattle.share_catalog.specs.Catalogue.{refusal_of}
use Rattle.share_book.specs.declared.entry.Entry.{Entry}
use Rattle.share_book.specs.History.{edits, table_on}
use Rattle.share_book.specs.Legal.{IsKeptLog}
use Rattle.hub_calls.specs.Calls.{P}
use Rattle.hub_catalog.specs.Edits.{Edits, Leaves, OneMore, failed_edit}
use Rattle.hub_catalog.specs.Opens.{OpensAs}
use Rattle.hub_catalog.specs.Refreshes.{Refreshes}
use Rattle.hub_catalog.specs.declared.edit.EditEnd.{EditEnd}
use Rattle.hub_catalog.specs.declared.edit.EditEnd.TheVariants as end
use Rattle.hub_catalog.specs.declared.found.CatalogRefusal.{CatalogRefusal}
use Rattle.hub_catalog.specs.declared.refresh_catalog.RefreshedCatalog.{RefreshedCatalog}
use Rattle.share_hub.specs.Backing.{AddsStanding, AreRecorded, IsBegunOn, IsUnfailed}

-- ---- what was added stands

-- What an edit's call added stands in the store, whatever it answered, and whoever else writes.
abbrev pub EditsStand : Type 0
EditsStand = (r : Result ℕ EditEnd) (e : Edit) (old new : Option Objects) (was is : Bool) (p q : P) → Edits r e old new p q → Leaves r e old new was is q → AddsStanding p q new

-- And so does what a refresh added.
abbrev pub CatalogRefreshesStand : Type 0
CatalogRefreshesStand = (r : Result RefreshedCatalog CatalogRefusal) (old new : Option Objects) (p q : P) → Refreshes r old new p q → AddsStanding p q new

-- ---- what a hub that is opened finds

-- The catalogue of a hub that was opened over a store begins with all edits that the store has the records of.
abbrev pub OpensFindAll : Type 0
OpensFindAll =
    (made : CellId × Vec P) (callers : ℕ) (old : Option Objects) (new : Objects) (es : List Edit) → OpensAs (Ok made) callers old (Some new) → AreRecorded (Some new) es → All (λ p. IsPrefix es (edits p.seen)) made.1.items

-- the logs at a location begin with these commits
abbrev pub LogsBegin : List ℕ → List (List Action) → List Entry → Type 0
LogsBegin location log h = (j : ℕ) → IfSome (table_on j h) (λ t. t.location ≡ location → IsPrefix log t.commits)

-- Whatever a store got since, a hub that is opened over it finds each edit of a catalogue that the store had the records of, at its number, and
-- each log that the objects stood for, as far as it was kept.
pub record StoppedServersLoseNothing : Type 0 where
  pub edits : (made : CellId × Vec P) (callers : ℕ) (os new : Objects) (old : Option Objects) (es : List Edit) (n : ℕ) (e : Edit) → AreRecorded (Some os) es → slice_get es n ≡ Some e → Grows (Some os) (Some new)
      → OpensAs (Ok made) callers old (Some new) → All (λ p. slice_get (edits p.seen) n ≡ Some e) made.1.items
  pub logs : (made : CellId × Vec P) (callers : ℕ) (os new : Objects) (old : Option Objects) (location : List ℕ) (log : List (List Action)) → IsBacked location (Some os) log → IsKeptLog log → length log ≤ 2 ^ 63
      → Grows (Some os) old → OpensAs (Ok made) callers old (Some new) → All (λ p. LogsBegin location log p.seen) made.1.items

-- ---- which edits are recorded

-- the call's Begin on the catalogue stands right after this history
abbrev pub IsBegunAfter : P → P → List Entry → Type 0
IsBegunAfter p q from = IsBegunOn 0 p q from

-- Nothing is in the way of the edit after these: the catalogue takes it, and no object is there as the next record.
pub record IsClearEdit (e : Edit) (old : Objects) (es : List Edit) : Type 0 where
  pub free : refusal_of es e ≡ None
  pub absent : Lacks (record_name_of (length es)) (Some old)

-- Where nothing was in the way after the edits that the call's Begin found, nobody else writes the store, and it doesn't fail, the edit is recorded
-- under the next number; or memory was wanting, and nothing was stored.
abbrev pub EditsAreRecorded : Type 0
EditsAreRecorded =
    (r : Result ℕ EditEnd) (e : Edit) (old : Objects) (new : Option Objects) (is : Bool) (p q : P) (faults later : ℕ)
    → ((from : List Entry) → IsBegunAfter p q from → IsClearEdit e old (edits from)) → IfOk r (λ n. n < 2 ^ 64) → Edits r e (Some old) new p q → Leaves r e (Some old) new true is q → Cause faults later (failed_edit r) → IsUnfailed faults later
    → ((from : List Entry) × IsBegunAfter p q from × (r ≡ Ok (length (edits from)))) ⊎ ((r ≡ Err end.NoMemory) × (new ≡ Some old))

-- ---- what is put

-- one object more, the edit's record, under the number of the catalogue's last edit or the one after it
abbrev pub IsNextRecord : Edit → Objects → Option Objects → P → Type 0
IsNextRecord e old new q = (n : ℕ) × OneMore (Some old) new n e × ((n + 1 ≡ length (edits q.seen)) ⊎ (n ≡ length (edits q.seen)))

-- A store that nobody else writes has after an edit's call what it had, or that and one object more, the edit's record under the next number.
abbrev pub EditsPutOne : Type 0
EditsPutOne =
    (r : Result ℕ EditEnd) (e : Edit) (old : Objects) (new : Option Objects) (is : Bool) (p q : P) → Edits r e (Some old) new p q → Leaves r e (Some old) new true is q → (new ≡ Some old) ⊎ IsNextRecord e old new q

-- Of two puts of one name in a store that tells its objects none lies before the other, whatever the bytes, and by whatever servers.
abbrev pub NamesArePutOnce : Type 0
NamesArePutOnce =
    (a c : Objects) (b d : Option Objects) (name bytes others : List ℕ) (first : WasPut (Some a) b name bytes) (second : WasPut (Some c) d name others) → Grows first.after second.before ⊎ Grows second.after first.before → ⊥

-- So of two calls, one after the other, none acknowledges the other's number, whichever servers they are made at.
abbrev pub NumbersAreGivenOnce : Type 0
NumbersAreGivenOnce =
    (n : ℕ) (e f : Edit) (a c : Objects) (b d : Option Objects) (was is will are : Bool) (q s : P) → Leaves (Ok n) e (Some a) b was is q → Leaves (Ok n) f (Some c) d will are s → Grows b (Some c) → ⊥
