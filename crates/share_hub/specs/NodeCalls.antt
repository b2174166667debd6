-- The hub's calls as steps of a node: one of several servers over one store. A table's log has commits (Delta Lake PROTOCOL.md, "Delta Log
-- Entries"), the catalogue's has edits.
use Rattle.std.specs.Prelude.{◌≡◌, ◌⊎◌, ℕ, Bool, true, false, List, [], ◌∷◌, ◌++◌, Option, Some, Result, Ok, Err, length, replicate}
use mathlib.Core.List.{IsPrefix}
use Rattle.edge_core.specs.Objects.{Objects}
use Rattle.log_actions.specs.declared.actions.Action.{Action}
use Rattle.log_actions.specs.CommitTexts.{commit_text}
use Rattle.log_commit.specs.Names.{commit_name}
use Rattle.commit_check.specs.declared.offer.Offer.{Offer}
use Rattle.share_catalog.specs.declared.edit.Edit.{Edit}
use Rattle.share_book.specs.declared.entry.Entry.{Entry}
use Rattle.share_book.specs.declared.entry.Act.{Act}
use Rattle.share_book.specs.declared.entry.Act.TheVariants.{Own}
use Rattle.share_book.specs.History.{edits, table_on}
use Rattle.share_book.specs.Legal.{There, log_at}
use Rattle.share_book.specs.TableView.{TableLog}
use Rattle.share_nodes.specs.Steps.{Place, Publish, Read, Step, World, fresh, node_at, world_of}
use Rattle.hub_calls.specs.Calls.{Adds, P}
use Rattle.hub_catalog.specs.Edits.{Edits, Leaves, OneMore}
use Rattle.hub_catalog.specs.Refreshes.{Refreshes}
use Rattle.hub_catalog.specs.declared.edit.EditEnd.{EditEnd}
use Rattle.hub_catalog.specs.declared.edit.EditEnd.TheVariants as end
use Rattle.hub_catalog.specs.declared.found.CatalogRefusal.{CatalogRefusal}
use Rattle.hub_catalog.specs.declared.refresh_catalog.RefreshedCatalog.{RefreshedCatalog}
use Rattle.hub_tables.specs.Additions.{IsOneMore}
use Rattle.hub_tables.specs.Commits.{CommitLeaves, CommitRan}
use Rattle.hub_tables.specs.declared.commit.CommitRefusal.{CommitRefusal}
use Rattle.hub_tables.specs.declared.commit.CommitRefusal.TheVariants as refusal
use Rattle.share_hub.specs.CatalogLaws.{IsBegunAfter}

-- a node takes over so many versions
abbrev pub reads : {C : Type 0} → ℕ → ℕ → List (Step C)
reads k n = replicate n (record { node = k; move = Read })

abbrev pub place : {C : Type 0} → ℕ → C → Step C
place k c = record { node = k; move = Place c }

-- it places each of these, and publishes and acknowledges it
abbrev pub puts : {C : Type 0} → ℕ → List C → List (Step C)
puts k [] = []
puts k (c ∷ cs) = place k c ∷ (record { node = k; move = Publish } ∷ puts k cs)

-- the versions that an answer acknowledges
abbrev pub acknowledged_by : {X : Type 0} → Result ℕ X → List ℕ
acknowledged_by (Ok v) = v ∷ []
acknowledged_by (Err x) = []

-- The node runs and has nothing pending, and this log is what it has published, a beginning of what is stored.
pub record IsAt {C : Type 0} (w : World C) (k : ℕ) (log : List C) : Type 0 where
  pub up : (node_at w k).up ≡ true
  pub idle : (node_at w k).pending ≡ false
  pub published : (node_at w k).published ≡ length log
  pub front : IsPrefix log w.store

-- Then it has published this log, which is all that is stored, and has acknowledged these versions more.
pub record Went {C : Type 0} (w later : World C) (k : ℕ) (log : List C) (more : List ℕ) : Type 0 where
  pub at : IsAt later k log
  pub all : later.store ≡ log
  pub acknowledged : (node_at later k).acknowledged ≡ (node_at w k).acknowledged ++ more

-- A new node that takes over this log and then places this, of which it publishes nothing, leaves it as the next version.
abbrev pub PlacesLate : {C : Type 0} → List (Step C) → List C → C → Type 0
PlacesLate steps log c = (m : ℕ) → node_at (world_of steps) m ≡ fresh → (world_of (steps ++ (reads m (length log) ++ place m c ∷ []))).store ≡ log ++ c ∷ []

-- ---- commits

-- the commits of its own with which a call ended
abbrev pub own_of : List Act → List (List Action)
own_of (Own c ∷ acts) = c ∷ []
own_of _ = []

-- a call that found so many commits, and then ended with these acts
abbrev pub call_steps : ℕ → ℕ → List Act → List (Step (List Action))
call_steps k found ends = reads k found ++ puts k (own_of ends)

-- A commit's call is a node's steps: where the node stands at the log that the Begin found, and others have placed what the call found, the node
-- takes that over; with Ok it places the call's commit as the next version, publishes it and acknowledges it, and with another answer does no more.
abbrev pub CallsAreSteps : Type 0
CallsAreSteps =
    (r : Result ℕ CommitRefusal) (now : ℕ) (o : Offer) (old new : Option Objects) (p q : P) (j : ℕ) (ran : CommitRan r now o old new p q j) (steps : List (Step (List Action))) (k : ℕ)
    → There (table_on j ran.ran.from) (λ t. IsAt (world_of steps) k t.commits × ((world_of steps).store ≡ t.commits ++ ran.found))
    → There (table_on j q.seen) (λ t. Went (world_of steps) (world_of (steps ++ call_steps k (length ran.found) ran.ends)) k t.commits (acknowledged_by r))

-- there is one object more, a commit under the next version's name, which is what a new node places that then takes no further step
abbrev pub IsPlacedLate : Offer → Option Objects → Option Objects → List (Step (List Action)) → TableLog → Type 0
IsPlacedLate o old new steps t = (c : List Action) × IsOneMore old new (commit_name o.location (length t.commits)) (commit_text c) × PlacesLate steps t.commits c

-- After a fault a store that nobody else writes is as it was, or has besides what such a node placed.
abbrev pub FaultsAreSteps : Type 0
FaultsAreSteps =
    (now : ℕ) (o : Offer) (old new : Option Objects) (is : Bool) (p q : P) (j : ℕ) (ran : CommitRan (Err refusal.StoreFault) now o old new p q j) (steps : List (Step (List Action))) (k : ℕ)
    → log_at q.seen o.location ≡ Some j → CommitLeaves (Err refusal.StoreFault) now o old new true is q
    → There (table_on j ran.ran.from) (λ t. IsAt (world_of steps) k t.commits × ((world_of steps).store ≡ t.commits ++ ran.found))
    → (new ≡ old) ⊎ There (table_on j q.seen) (IsPlacedLate o old new (steps ++ call_steps k (length ran.found) ran.ends))

-- ---- edits

-- The call began after this history and found these edits. Where a node stands at the catalogue that its Begin found, and others have placed what
-- the call found, it takes that over, places these of its own, and has then published the catalogue as the call left it.
pub record IsNodes (p q : P) (from : List Entry) (found own : List Edit) (more : List ℕ) : Type 0 where
  pub begun : IsBegunAfter p q from
  pub went : (steps : List (Step Edit)) (k : ℕ) → IsAt (world_of steps) k (edits from) → (world_of steps).store ≡ edits from ++ found → Went (world_of steps) (world_of (steps ++ (reads k (length found) ++ puts k own))) k (edits q.seen) more

-- the edits that a call with this answer placed
abbrev pub own_edits : Result ℕ EditEnd → Edit → List Edit
own_edits (Ok n) e = e ∷ []
own_edits (Err x) e = []

-- An edit's call is a node's steps: it takes over what others have placed; with Ok it places the edit as the next record, publishes and acknowledges
-- it, and with another answer does no more. For want of memory it may have added nothing.
abbrev pub EditsAreSteps : Type 0
EditsAreSteps =
    (r : Result ℕ EditEnd) (e : Edit) (old new : Option Objects) (p q : P) → Edits r e old new p q
    → ((r ≡ Err end.NoMemory) × Adds p q []) ⊎ ((from : List Entry) × (found : List Edit) × IsNodes p q from found (own_edits r e) (acknowledged_by r))

-- After a fault a store that nobody else writes is as it was, or has the edit's record besides, as the next, which is what a new node places that
-- then takes no further step, behind the steps of the call.
abbrev pub EditFaultsAreSteps : Type 0
EditFaultsAreSteps =
    (e : Edit) (old new : Option Objects) (is : Bool) (p q : P) → Edits (Err end.StoreFault) e old new p q → Leaves (Err end.StoreFault) e old new true is q
    → (new ≡ old) ⊎ (OneMore old new (length (edits q.seen)) e × ((steps : List (Step Edit)) → (world_of steps).store ≡ edits q.seen → PlacesLate steps (edits q.seen) e))

-- A refresh of the catalogue added nothing, or is a node's steps that take over what others have placed.
abbrev pub CatalogRefreshesAreSteps : Type 0
CatalogRefreshesAreSteps =
    (r : Result RefreshedCatalog CatalogRefusal) (old new : Option Objects) (p q : P) → Refreshes r old new p q → Adds p q [] ⊎ ((from : List Entry) × (found : List Edit) × IsNodes p q from found [] [])
