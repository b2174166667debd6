-- What holds of the hub's calls on tables' logs, and which offers are committed (Delta Lake PROTOCOL.md, "Delta Log Entries").
use Rattle.std.specs.Prelude.{◌≡◌, ◌⊎◌, ℕ, ◌+◌, ◌^◌, ◌≤◌, ◌<◌, Bool, true, List, [], ◌∷◌, ◌++◌, Option, Some, None, Result, Ok, Err, ⊤, All, IfOk, length}
use Rattle.edge_core.specs.Faults.{Cause}
use Rattle.edge_core.specs.Objects.{Between, Grows, Lacks, Objects}
use Rattle.log_actions.specs.declared.actions.Action.{Action}
use Rattle.log_actions.specs.CommitTexts.{printed_bytes}
use Rattle.log_commit.specs.Names.{commit_name}
use Rattle.commit_check.specs.Admission.{admitted}
use Rattle.commit_check.specs.declared.offer.Offer.{Offer}
use Rattle.share_catalog.specs.declared.edit.Edit.{Edit}
use Rattle.share_book.specs.declared.entry.Entry.{Entry}
use Rattle.share_book.specs.declared.entry.Act.{Act}
use Rattle.share_book.specs.declared.entry.Act.TheVariants.{Load}
use Rattle.share_book.specs.History.{table_on}
use Rattle.share_book.specs.Legal.{There}
use Rattle.share_book.specs.TableView.{TableLog}
use Rattle.hub_calls.specs.Calls.{Adds, P}
use Rattle.hub_catalog.specs.CatalogTurns.{start_from}
use Rattle.hub_catalog.specs.Edits.{Edits}
use Rattle.hub_catalog.specs.Refreshes as catalog
use Rattle.hub_catalog.specs.declared.edit.EditEnd.{EditEnd}
use Rattle.hub_catalog.specs.declared.found.CatalogRefusal.{CatalogRefusal}
use Rattle.hub_catalog.specs.declared.refresh_catalog.RefreshedCatalog.{RefreshedCatalog}
use Rattle.hub_tables.specs.Additions.{IsOneMore}
use Rattle.hub_tables.specs.Commits.{CommitLeaves, CommitRan, Commits, OnLog, failed_commit}
use Rattle.hub_tables.specs.LogRefreshes.{Refreshes}
use Rattle.hub_tables.specs.declared.commit.CommitRefusal.{CommitRefusal}
use Rattle.hub_tables.specs.declared.commit.CommitRefusal.TheVariants as refusal
use Rattle.hub_tables.specs.declared.refresh.Refreshed.{Refreshed}
use Rattle.hub_tables.specs.declared.refresh.RefreshRefusal.{RefreshRefusal}
use Rattle.share_hub.specs.Backing.{AddsStanding, IsUnfailed}

-- ---- what was added stands

-- What a commit's call added stands in the store, whatever it answered, and whoever else writes.
abbrev pub CommitsStand : Type 0
CommitsStand =
    (r : Result ℕ CommitRefusal) (now : ℕ) (o : Offer) (old new : Option Objects) (was is : Bool) (p q : P) → Commits r now o old new p q → CommitLeaves r now o old new was is q → AddsStanding p q new

-- And so does what a refresh added.
abbrev pub RefreshesStand : Type 0
RefreshesStand = (r : Result Refreshed RefreshRefusal) (location : List ℕ) (old new : Option Objects) (p q : P) → Refreshes r location old new p q → AddsStanding p q new

-- ---- what is loaded

-- a log is what the store has at a moment between these two
abbrev pub IsLoadedAt : Option Objects → Option Objects → Act → Type 0
IsLoadedAt old new (Load s) = Between old new (λ os. s ≡ start_from s.location os)
IsLoadedAt old new _ = ⊤

-- each log that the caller added is
abbrev pub LoadsFromStore : P → P → Option Objects → Option Objects → Type 0
LoadsFromStore p q old new = (own : List Entry) × Adds p q own × All (λ e. IsLoadedAt old new e.act) own

-- Each log that an edit or a refresh of the catalogue added is what its location has in the store at a moment of the call.
pub record LoadsAreTheStores : Type 0 where
  pub edits : (r : Result ℕ EditEnd) (e : Edit) (old new : Option Objects) (p q : P) → Edits r e old new p q → LoadsFromStore p q old new
  pub refreshes : (r : Result RefreshedCatalog CatalogRefusal) (old new : Option Objects) (p q : P) → catalog.Refreshes r old new p q → LoadsFromStore p q old new

-- ---- what is put

-- one object more, under the name of the log's last version or of the one after it
abbrev pub IsNextMore : Offer → Option Objects → Option Objects → P → Type 0
IsNextMore o old new q = OnLog o q (λ j. There (table_on j q.seen) (λ t. (v : ℕ) × (bytes : List ℕ) × IsOneMore old new (commit_name o.location v) bytes × ((v + 1 ≡ length t.commits) ⊎ (v ≡ length t.commits))))

-- A store that nobody else writes has after a commit's call what it had, or that and one object under the next version's name.
abbrev pub CommitsPutOne : Type 0
CommitsPutOne =
    (r : Result ℕ CommitRefusal) (now : ℕ) (o : Offer) (old : Objects) (new : Option Objects) (is : Bool) (p q : P)
    → Commits r now o (Some old) new p q → CommitLeaves r now o (Some old) new true is q → (new ≡ Some old) ⊎ IsNextMore o (Some old) new q

-- Of two calls, one after the other, none acknowledges the other's version of one table, whichever servers they are made at.
abbrev pub VersionsAreGivenOnce : Type 0
VersionsAreGivenOnce =
    (v now later : ℕ) (o u : Offer) (a c : Objects) (b d : Option Objects) (was is will are : Bool) (q s : P)
    → o.location ≡ u.location → CommitLeaves (Ok v) now o (Some a) b was is q → CommitLeaves (Ok v) later u (Some c) d will are s → Grows b (Some c) → ⊥

-- ---- which offers are committed

-- Nothing is in the way of the offer's commit after this log: it isn't blocked, admits the offer, has room for the commit, and no object has the
-- name of the next version.
pub record IsClear (now : ℕ) (o : Offer) (old : Objects) (t : TableLog) (c : List Action) : Type 0 where
  pub free : t.block ≡ None
  pub admitted : admitted t.commits now o ≡ Ok c
  pub fits : printed_bytes (t.commits ++ c ∷ []) ≤ 2 ^ 26
  pub absent : Lacks (commit_name o.location (length t.commits)) (Some old)

-- Where nothing was in the way after the log that the call's Begin found, nobody else writes the store, and it doesn't fail, the offer is
-- committed as the next version; or memory was wanting, and nothing was stored.
abbrev pub OffersAreCommitted : Type 0
OffersAreCommitted =
    (r : Result ℕ CommitRefusal) (now : ℕ) (o : Offer) (old : Objects) (new : Option Objects) (is : Bool) (p q : P) (j faults later : ℕ)
    (ran : CommitRan r now o (Some old) new p q j) (clear : There (table_on j ran.ran.from) (λ t. (c : List Action) × IsClear now o old t c))
    → IfOk r (λ v. v < 2 ^ 64) → CommitLeaves r now o (Some old) new true is q → Cause faults later (failed_commit r) → IsUnfailed faults later
    → There (table_on j ran.ran.from) (λ t. r ≡ Ok (length t.commits)) ⊎ ((r ≡ Err refusal.NoMemory) × (new ≡ Some old))
