-- The logs that calls on the catalogue add are the store's.
use Rattle.std.proofs.Common.{inl, inr, ℕ, ◌+◌, List, [], ◌∷◌, ◌++◌, length, Option, Some, None, Result, Ok, Err}
use Rattle.std.specs.Prelude.{All}
use Rattle.std.proofs.lemmas.List.Elements.{All-append, All-cons, All-nil}
use Rattle.edge_core.specs.Objects.{Objects}
use Rattle.share_catalog.specs.declared.edit.Edit.{Edit}
use Rattle.share_book.specs.declared.entry.Entry.{Entry}
use Rattle.share_book.specs.declared.entry.Act.{Act}
use Rattle.share_book.specs.declared.entry.Act.TheVariants.{Abort, Begin, FoundEdit, Load, OwnEdit}
use Rattle.share_book.specs.declared.entry.LogStart.{LogStart}
use Rattle.share_book.specs.History.{edits, entry}
use Rattle.hub_calls.specs.Calls.{Adds, P}
use Rattle.hub_catalog.specs.CatalogCalls.{Step, finds}
use Rattle.hub_catalog.specs.CatalogTurns.{LoadOf, loading}
use Rattle.hub_catalog.specs.Edits.{AreSteps, Edits, Ran}
use Rattle.hub_catalog.specs.Refreshes.{Refreshes}
use Rattle.hub_catalog.specs.declared.edit.EditEnd.{EditEnd}
use Rattle.hub_catalog.specs.declared.found.CatalogRefusal.{CatalogRefusal}
use Rattle.hub_catalog.specs.declared.refresh_catalog.RefreshedCatalog.{RefreshedCatalog}
use Rattle.hub_catalog.specs.declared.edit.EditEnd.TheVariants as end
use Rattle.share_hub.specs.TableLaws.{IsLoadedAt, LoadsAreTheStores, LoadsFromStore}

module _ (old new : Option Objects) where
  abbrev Kept : List Entry → Type 0
  Kept es = All (λ e. IsLoadedAt old new e.act) es

  added_one : (x : Entry) (es : List Entry) → IsLoadedAt old new x.act → Kept es → Kept (x ∷ es)
  added_one x es w v = All-cons (λ e. IsLoadedAt old new e.act) x es w v

  loading_kept : (k : ℕ) (e : Edit) (l : Option LogStart) (a : Act) → IsLoadedAt old new a → LoadOf old new e l → Kept (loading k l a)
  loading_kept k e None a own w = added_one (entry k 0 a) [] own (All-nil _)
  loading_kept k e (Some s) a own w = added_one (entry k 0 (Load s)) (entry k 0 a ∷ []) w.1 (added_one (entry k 0 a) [] own (All-nil _))

  finds_kept : (k n : ℕ) (xs : List Step) → AreSteps old new n xs → Kept (finds k xs)
  finds_kept k n [] w = All-nil _
  finds_kept k n (x ∷ xs) w = All-append (λ e. IsLoadedAt old new e.act) (loading k x.load (FoundEdit x.edit)) (finds k xs) (loading_kept k x.edit x.load (FoundEdit x.edit) tt w.0.1) (finds_kept k (n + 1) xs w.1)

  ran_kept : (p q : P) (found : List Step) (e : Edit) (l : Option LogStart) (a : Act) → IsLoadedAt old new a → LoadOf old new e l → Ran old new p q found l a → LoadsFromStore p q old new
  ran_kept p q found e l a own w x = (
    entry p.number 0 Begin ∷ finds p.number found ++ loading p.number l a,
    x.added,
    added_one (entry p.number 0 Begin) (finds p.number found ++ loading p.number l a) tt
        (All-append (λ y. IsLoadedAt old new y.act) (finds p.number found) (loading p.number l a) (finds_kept p.number (length (edits x.from)) found x.steps) (loading_kept p.number e l a own w)),
  )

  aborted_kept : (p q : P) (found : List Step) → Ran old new p q found None Abort → LoadsFromStore p q old new
  aborted_kept p q found x = (
    entry p.number 0 Begin ∷ finds p.number found ++ loading p.number None Abort,
    x.added,
    added_one (entry p.number 0 Begin) (finds p.number found ++ loading p.number None Abort) tt
        (All-append (λ y. IsLoadedAt old new y.act) (finds p.number found) (loading p.number None Abort) (finds_kept p.number (length (edits x.from)) found x.steps) (added_one (entry p.number 0 Abort) [] tt (All-nil _))),
  )

  none_kept : (p q : P) → Adds p q [] → LoadsFromStore p q old new
  none_kept p q a = ([], a, All-nil _)

edited : (r : Result ℕ EditEnd) (e : Edit) (old new : Option Objects) (p q : P) → Edits r e old new p q → LoadsFromStore p q old new
edited (Ok n) e old new p q w = ran_kept old new p q w.0 e w.1 (OwnEdit e) tt w.3 w.2
edited (Err (end.CatalogBlocked n)) e old new p q w = aborted_kept old new p q w.0 w.1
edited (Err end.Contended) e old new p q w = aborted_kept old new p q w.0 w.1
edited (Err (end.Refused r)) e old new p q w = aborted_kept old new p q w.0 w.1
edited (Err end.StoreFault) e old new p q w = aborted_kept old new p q w.0 w.1
edited (Err end.NoMemory) e old new p q (inl a) = none_kept old new p q a
edited (Err end.NoMemory) e old new p q (inr w) = aborted_kept old new p q w.0 w.1

refreshed : (r : Result RefreshedCatalog CatalogRefusal) (old new : Option Objects) (p q : P) → Refreshes r old new p q → LoadsFromStore p q old new
refreshed r old new p q (inl w) = none_kept old new p q w.0
refreshed r old new p q (inr w) = aborted_kept old new p q w.0.0 w.0.1

pub loads : LoadsAreTheStores
loads = record { edits = edited; refreshes = refreshed }
