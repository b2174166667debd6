-- What calls on the catalogue leave: at most one record more, and what a node's steps leave.
use Rattle.std.proofs.Common.{◌≡◌, ◌⊎◌, inl, inr, ℕ, ◌+◌, List, [], ◌∷◌, ◌++◌, length, map, Bool, Option, Some, None, Result, Ok, Err, sym, refl, ap, ◌∙◌, subst, arith, length-append}
use Rattle.std.proofs.lemmas.List.{append-nil}
use Rattle.std.proofs.lemmas.List.Elements.{filter_map-append}
use Rattle.edge_core.specs.Objects.{Objects}
use Rattle.share_catalog.specs.declared.edit.Edit.{Edit}
use Rattle.share_book.specs.declared.entry.Entry.{Entry}
use Rattle.share_book.specs.declared.entry.Act.{Act}
use Rattle.share_book.specs.declared.entry.Act.TheVariants.{Abort, OwnEdit}
use Rattle.share_book.specs.declared.entry.LogStart.{LogStart}
use Rattle.share_book.specs.History.{edit_in as edit_said, edits, entry}
use Rattle.share_nodes.specs.Steps.{Step as NodeStep, World, world_from, world_of}
use Rattle.share_nodes.specs.Steps as steps_of_nodes
use Rattle.share_nodes.proofs.Worlds.{from_append}
use Rattle.hub_calls.specs.Calls.{P}
use Rattle.hub_catalog.specs.CatalogCalls.{Step, edit_in}
use Rattle.hub_catalog.specs.Edits.{LastIs, OneMore, Ran}
use Rattle.hub_catalog.specs.declared.edit.EditEnd.{EditEnd}
use Rattle.hub_catalog.specs.declared.edit.EditEnd.TheVariants as end
use Rattle.share_hub.specs.CatalogLaws.{EditsPutOne, IsNextRecord}
use Rattle.share_hub.specs.NodeCalls.{CatalogRefreshesAreSteps, EditFaultsAreSteps, EditsAreSteps, IsAt, IsNodes, PlacesLate, Went, puts, reads}
use Rattle.share_hub.proofs.NodeSteps.{call_world, placed_at, placed_late, read_at}

-- ---- the catalogue at a call's end

edits_last : (h before : List Entry) (k : ℕ) (a : Act) → h ≡ before ++ entry k 0 a ∷ [] → edits h ≡ edits before ++ edits (entry k 0 a ∷ [])
edits_last h before k a e = ap edits e ∙ filter_map-append edit_said before (entry k 0 a ∷ [])

-- the number behind the last edit
ended_at : (n : ℕ) (q : P) → LastIs q Abort (λ es. n ≡ length es) → n ≡ length (edits q.seen)
ended_at n q l = l.told ∙ ap (λ (es : List Edit). length es) (sym (edits_last q.seen l.before q.number Abort l.last ∙ append-nil (edits l.before)))

-- the number of the last edit
pub own_at : (n : ℕ) (e : Edit) (q : P) → LastIs q (OwnEdit e) (λ es. n ≡ length es) → n + 1 ≡ length (edits q.seen)
own_at n e q l =
    let all : length (edits q.seen) ≡ length (edits l.before ++ e ∷ []) = ap (λ (es : List Edit). length es) (edits_last q.seen l.before q.number (OwnEdit e) l.last) in
    let long = length-append (edits l.before) (e ∷ []) in
    let told : n ≡ length (edits l.before) = l.told in
    omega (arith, all, long, told)

-- ---- what is put

pub edits_once : EditsPutOne
edits_once (Ok n) e old new is p q w l = inr (n, l.one, inl (own_at n e q w.4))
edits_once (Err (end.CatalogBlocked n)) e old new is p q w l = inl l.same
edits_once (Err end.Contended) e old new is p q w l = inl l.same
edits_once (Err (end.Refused r)) e old new is p q w l = inl l.same
edits_once (Err end.StoreFault) e old new is p q w l = elim l.one as (λ x. (new ≡ Some old) ⊎ IsNextRecord e old new q) [
  | inl same ↦ inl same
  | inr more ↦ inr (more.0, more.2, inr (ended_at more.0 q more.1))
]
edits_once (Err end.NoMemory) e old new is p q w l = inl l.same

-- ---- steps

module _ (old new : Option Objects) (p q : P) (found : List Step) (l : Option LogStart) (a : Act) (ran : Ran old new p q found l a) where
  -- what was there, what was found, and what the last act adds
  pub all_edits : edits q.seen ≡ (edits ran.from ++ map edit_in found) ++ edits (entry p.number 0 a ∷ [])
  all_edits = edits_last q.seen ran.before p.number a ran.last ∙ ap (λ (es : List Edit). es ++ edits (entry p.number 0 a ∷ [])) ran.edits

  -- a call that placed these of its own
  nodes : (own : List Edit) (more : List ℕ)
      → ((w : World Edit) (k : ℕ) → IsAt w k (edits ran.from) → w.store ≡ edits ran.from ++ map edit_in found → Went w (world_from (world_from w (reads k (length (map edit_in found)))) (puts k own)) k (edits q.seen) more)
      → IsNodes p q ran.from (map edit_in found) own more
  nodes own more goes = record {
    begun = record { after = ran.after; begun = ran.begun };
    went = λ steps k at all.
        subst (λ (u : World Edit). Went (world_of steps) u k (edits q.seen) more)
        (sym (from_append steps_of_nodes.nothing steps (reads k (length (map edit_in found)) ++ puts k own) ∙ call_world (world_of steps) k (edits ran.from) (map edit_in found) at all own))
        (goes (world_of steps) k at all);
  }

-- nothing was placed
only_reads : (old new : Option Objects) (p q : P) (found : List Step) (ran : Ran old new p q found None Abort) → IsNodes p q ran.from (map edit_in found) [] []
only_reads old new p q found ran =
    nodes old new p q found None Abort ran [] [] (λ w k at all. read_at w k (edits ran.from) (map edit_in found) at all (edits q.seen) (all_edits old new p q found None Abort ran ∙ append-nil (edits ran.from ++ map edit_in found)))

-- the edit was
places_own : (n : ℕ) (e : Edit) (old new : Option Objects) (p q : P) (found : List Step) (l : Option LogStart) (ran : Ran old new p q found l (OwnEdit e)) → LastIs q (OwnEdit e) (λ es. n ≡ length es) → IsNodes p q ran.from (map edit_in found) (e ∷ []) (n ∷ [])
places_own n e old new p q found l ran last =
    let all : edits q.seen ≡ (edits ran.from ++ map edit_in found) ++ e ∷ [] = all_edits old new p q found l (OwnEdit e) ran in
    let at : n ≡ length (edits ran.from ++ map edit_in found) =
    omega (arith, own_at n e q last, ap (λ (es : List Edit). length es) all, length-append (edits ran.from ++ map edit_in found) (e ∷ [])) in
    nodes old new p q found l (OwnEdit e) ran (e ∷ []) (n ∷ []) (λ w k is has. placed_at w k (edits ran.from) (map edit_in found) is has n e (edits q.seen) at all)

abbrev Aborts : Option Objects → Option Objects → P → P → Type 0
Aborts old new p q = (from : List Entry) × (found : List Edit) × IsNodes p q from found [] []

aborts : (old new : Option Objects) (p q : P) (found : List Step) → Ran old new p q found None Abort → Aborts old new p q
aborts old new p q found ran = (ran.from, map edit_in found, only_reads old new p q found ran)

pub edits_steps : EditsAreSteps
edits_steps (Ok n) e old new p q w = inr (w.2.from, map edit_in w.0, places_own n e old new p q w.0 w.1 w.2 w.4)
edits_steps (Err (end.CatalogBlocked n)) e old new p q w = inr (aborts old new p q w.0 w.1)
edits_steps (Err end.Contended) e old new p q w = inr (aborts old new p q w.0 w.1)
edits_steps (Err (end.Refused r)) e old new p q w = inr (aborts old new p q w.0 w.1)
edits_steps (Err end.StoreFault) e old new p q w = inr (aborts old new p q w.0 w.1)
edits_steps (Err end.NoMemory) e old new p q (inl w) = inl (refl, w)
edits_steps (Err end.NoMemory) e old new p q (inr w) = inr (aborts old new p q w.0 w.1)

pub edit_faults_steps : EditFaultsAreSteps
edit_faults_steps e old new is p q w l = elim l.one as (λ x. (new ≡ old) ⊎ (OneMore old new (length (edits q.seen)) e × ((steps : List (NodeStep Edit)) → (world_of steps).store ≡ edits q.seen → PlacesLate steps (edits q.seen) e))) [
  | inl same ↦ inl same
  | inr more ↦ inr (subst (λ (n : ℕ). OneMore old new n e) (ended_at more.0 q more.1) more.2, λ steps all. placed_late steps (edits q.seen) e all)
]

pub refreshes_steps : CatalogRefreshesAreSteps
refreshes_steps r old new p q (inl w) = inl w.0
refreshes_steps r old new p q (inr w) = inr (aborts old new p q w.0.0 w.0.1)
