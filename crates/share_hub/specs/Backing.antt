-- What a call of the hub added stands in the store: each commit and each edit is what the object of its number is read as.
use Rattle.std.specs.Prelude.{◌≡◌, ℕ, ◌-◌, ◌^◌, ◌≤◌, ◌<◌, List, [], ◌∷◌, ◌++◌, Option, Some, ⊤, All, slice_get}
use mathlib.Core.List.{IsPrefix}
use Rattle.edge_core.specs.Objects.{Objects}
use Rattle.log_actions.specs.declared.actions.Action.{Action}
use Rattle.log_store.specs.Backed.{HasCommit}
use Rattle.share_catalog.specs.declared.edit.Edit.{Edit}
use Rattle.share_book.specs.declared.entry.Entry.{Entry}
use Rattle.share_book.specs.declared.entry.Act.{Act}
use Rattle.share_book.specs.declared.entry.Act.TheVariants.{Begin, Own, Found, OwnEdit, FoundEdit}
use Rattle.share_book.specs.History.{edits, entry, table_on}
use Rattle.share_book.specs.Legal.{There}
use Rattle.hub_calls.specs.Calls.{Adds, P}
use Rattle.hub_catalog.specs.Records.{HasRecord}

-- each edit is that of the record of its number
abbrev pub AreRecorded : Option Objects → List Edit → Type 0
AreRecorded objects es = (n : ℕ) (e : Edit) → slice_get es n ≡ Some e → HasRecord objects n e

-- the commit is in the history's log of this number, and is what the object of its version is read as
abbrev pub CommitStands : Option Objects → List Entry → ℕ → List Action → Type 0
CommitStands objects h j c = There (table_on j h) (λ t. (v : ℕ) × (slice_get t.commits v ≡ Some c) × HasCommit t.location objects v c)

-- the edit is the catalogue's, and is that of the record of its number
abbrev pub EditStands : Option Objects → List Entry → Edit → Type 0
EditStands objects h e = (n : ℕ) × (slice_get (edits h) n ≡ Some e) × HasRecord objects n e

abbrev pub ActStands : Option Objects → List Entry → ℕ → Act → Type 0
ActStands objects h j (Own c) = CommitStands objects h j c
ActStands objects h j (Found c) = CommitStands objects h j c
ActStands objects h j (OwnEdit e) = EditStands objects h e
ActStands objects h j (FoundEdit e) = EditStands objects h e
ActStands objects h j _ = ⊤

-- all that the caller added stands: in the history that its pass has seen, and in the store
abbrev pub AddsStanding : P → P → Option Objects → Type 0
AddsStanding p q objects = (own : List Entry) × Adds p q own × All (λ e. ActStands objects q.seen e.log e.act) own

-- the call's Begin on this log stands right after this history
pub record IsBegunOn (j : ℕ) (p q : P) (from : List Entry) : Type 0 where
  pub after : IsPrefix p.seen from
  pub begun : IsPrefix (from ++ entry p.number j Begin ∷ []) q.seen

-- no fault was counted between these two counts, and the count doesn't stand at its end
abbrev pub IsUnfailed : ℕ → ℕ → Type 0
IsUnfailed before now = (now ≤ before) × (now < 2 ^ 64 - 1)
