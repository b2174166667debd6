-- What edits of the catalogue add, say and store.
use Rattle.std.specs.Prelude.{◌≡◌, ◌⊎◌, ℕ, ◌+◌, ◌≤◌, ◌<◌, Bool, true, false, List, [], ◌∷◌, ◌++◌, Option, Some, None, Result, Ok, Err, ⊤, IfSome, IsSome, length, map}
use Rattle.std.specs.Bool.{OnTrue}
use Rattle.std.specs.FinMap as finmap
use mathlib.Core.List.{IsPrefix}
use Rattle.edge_core.specs.Objects.{Grows, Lacks, Objects, with_object}
use Rattle.log_store.specs.Backed.{WasPut}
use Rattle.log_store.specs.Loads.{Looked}
use Rattle.catalog_log.specs.Printing.{record_text}
use Rattle.catalog_log.specs.RecordNames.{record_name_of}
use Rattle.catalog_log.specs.declared.fault.RecordFault.{RecordFault}
use Rattle.share_catalog.specs.declared.edit.Edit.{Edit}
use Rattle.share_catalog.specs.Catalogue.{refusal_of}
use Rattle.share_book.specs.Legal.{There}
use Rattle.share_book.specs.declared.entry.Entry.{Entry}
use Rattle.share_book.specs.declared.entry.Act.{Act}
use Rattle.share_book.specs.declared.entry.LogStart.{LogStart}
use Rattle.share_book.specs.declared.entry.Act.TheVariants.{Begin, OwnEdit, Abort}
use Rattle.share_book.specs.History.{edits, entry}
use Rattle.hub_calls.specs.Calls.{Adds, P}
use Rattle.hub_catalog.specs.CatalogTurns.{LoadOf, loading}
use Rattle.hub_catalog.specs.CatalogCalls.{Step, edit_in, finds}
use Rattle.hub_catalog.specs.Records.{HasRecord, record_at}
use Rattle.hub_catalog.specs.declared.found.CatalogRefusal.{CatalogRefusal}
use Rattle.hub_catalog.specs.declared.found.CatalogRefusal.TheVariants as refusal
use Rattle.hub_catalog.specs.declared.edit.EditEnd.{EditEnd}
use Rattle.hub_catalog.specs.declared.edit.EditEnd.TheVariants as end

-- the last entry that was seen is the caller's act, and this holds of the edits before it
pub record LastIs (p : P) (a : Act) (Q : List Edit → Type 0) : Type 0 where
  pub before : List Entry
  pub last : p.seen ≡ before ++ entry p.number 0 a ∷ []
  pub told : Q (edits before)

-- A found edit is that of the record of this number, and its log is the store's at a moment.
abbrev pub IsStep : Option Objects → Option Objects → ℕ → Step → Type 0
IsStep old new n x = HasRecord new n x.edit × LoadOf old new x.edit x.load

-- found edits are those of the records from this number on
abbrev pub AreSteps : Option Objects → Option Objects → ℕ → List Step → Type 0
AreSteps old new n [] = ⊤
AreSteps old new n (x ∷ xs) = IsStep old new n x × AreSteps old new (n + 1) xs

-- What a call did that began on the catalogue, after `from`: it published edits that the store had, and ended with its own act.
pub record Ran (old new : Option Objects) (p q : P) (found : List Step) (l : Option LogStart) (a : Act) : Type 0 where
  pub from : List Entry
  pub after : IsPrefix p.seen from
  pub begun : IsPrefix (from ++ entry p.number 0 Begin ∷ []) q.seen
  pub added : Adds p q (entry p.number 0 Begin ∷ finds p.number found ++ loading p.number l a)
  pub before : List Entry
  pub last : q.seen ≡ before ++ entry p.number 0 a ∷ []
  pub steps : AreSteps old new (length (edits from)) found
  pub edits : edits before ≡ edits from ++ map edit_in found

-- what an object records isn't taken after these edits: it is no record, or the catalogue refuses its edit
abbrev pub IsNotTaken : List Edit → Result Edit RecordFault → Type 0
IsNotTaken es (Ok e) = IsSome (refusal_of es e)
IsNotTaken es (Err f) = ⊤

-- an object is there as the record of this number, and isn't taken after these edits
abbrev pub Blocks : Option Objects → ℕ → List Edit → Type 0
Blocks new n es = IfSome new (λ os. There (record_at os n) (IsNotTaken es))

-- the next record isn't taken
abbrev pub IsBlocked : ℕ → Option Objects → P → Type 0
IsBlocked n new q = LastIs q Abort (λ es. (n ≡ length es) × Blocks new n es)

abbrev pub RefusesWith : CatalogRefusal → Option Objects → P → Type 0
RefusesWith (refusal.Blocked n) new q = IsBlocked n new q
RefusesWith refusal.StoreFault new q = ⊤
RefusesWith refusal.NoMemory new q = ⊤

-- how many edits were found before such an end
abbrev pub FewFound : CatalogRefusal → ℕ → Type 0
FewFound (refusal.Blocked n) m = m < 64
FewFound refusal.StoreFault m = m < 64
FewFound refusal.NoMemory m = m ≤ 64

-- what the answer of an edit that wasn't made says, after so many found ones: Refused and Contended by the edits before the
-- last entry
abbrev pub EndsWith : EditEnd → Edit → Option Objects → Option Objects → P → ℕ → Type 0
EndsWith (end.CatalogBlocked n) e old new q m = IsBlocked n new q × (m < 64)
EndsWith end.Contended e old new q m = m ≡ 64
EndsWith (end.Refused r) e old new q m = LastIs q Abort (λ es. (refusal_of es e ≡ Some r) × Lacks (record_name_of (length es)) old) × (m < 64)
EndsWith end.StoreFault e old new q m = m < 64
EndsWith end.NoMemory e old new q m = m ≤ 64

-- What an edit's call added, and what its answer says of it. Want of memory may come before the Begin.
abbrev pub Edits : Result ℕ EditEnd → Edit → Option Objects → Option Objects → P → P → Type 0
Edits (Ok n) e old new p q = (found : List Step) × (l : Option LogStart) × Ran old new p q found l (OwnEdit e) × LoadOf old new e l × LastIs q (OwnEdit e) (λ es. n ≡ length es) × (length found < 64)
Edits (Err end.NoMemory) e old new p q = Adds p q [] ⊎ ((found : List Step) × Ran old new p q found None Abort × (length found ≤ 64))
Edits (Err x) e old new p q = (found : List Step) × Ran old new p q found None Abort × EndsWith x e old new q (length found)

abbrev pub failed_refusal : CatalogRefusal → Bool
failed_refusal (refusal.Blocked n) = false
failed_refusal refusal.StoreFault = true
failed_refusal refusal.NoMemory = false

abbrev pub failed_edit : Result ℕ EditEnd → Bool
failed_edit (Err end.StoreFault) = true
failed_edit _ = false

-- ---- the store

-- one object more, the text of the edit's record, under the name of this number, which no object had
abbrev pub OneMore : Option Objects → Option Objects → ℕ → Edit → Type 0
OneMore old new n e = Lacks (record_name_of n) old × (new ≡ with_object (record_name_of n) (record_text e) old)

-- The record of that number is the text of the edit, which was put, and is read as the edit. Nothing else is new in a store that nobody else
-- writes.
pub record Stored (old new : Option Objects) (was is : Bool) (n : ℕ) (e : Edit) : Type 0 where
  pub grows : Grows old new
  pub there : IfSome new (λ os. finmap.get os (record_name_of n) ≡ Some (record_text e))
  pub put : WasPut old new (record_name_of n) (record_text e)
  pub read : HasRecord new n e
  pub one : OnTrue was (OneMore old new n e)
  pub stays : OnTrue was (is ≡ true)

-- the store is as it was, or has the edit's record more, as the next
abbrev pub AtMostOne : Option Objects → Option Objects → Edit → P → Type 0
AtMostOne old new e q = (new ≡ old) ⊎ ((n : ℕ) × LastIs q Abort (λ es. n ≡ length es) × OneMore old new n e)

-- After a fault a store that nobody else writes has at most that record more.
pub record Perhaps (old new : Option Objects) (was is : Bool) (e : Edit) (q : P) : Type 0 where
  pub grows : Grows old new
  pub one : OnTrue was (AtMostOne old new e q)
  pub stays : OnTrue was (is ≡ true)

-- What an edit's call leaves in the store: after Ok the record of that number, after a fault perhaps the next one, else nothing.
abbrev pub Leaves : Result ℕ EditEnd → Edit → Option Objects → Option Objects → Bool → Bool → P → Type 0
Leaves (Ok n) e old new was is q = Stored old new was is n e
Leaves (Err end.StoreFault) e old new was is q = Perhaps old new was is e q
Leaves _ e old new was is q = Looked old new was is
