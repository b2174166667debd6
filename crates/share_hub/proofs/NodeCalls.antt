-- A commit's call is a node's steps.
use Rattle.std.proofs.Common.{◌≡◌, ◌⊎◌, inl, inr, ℕ, ◌-◌, List, [], ◌∷◌, ◌++◌, length, Option, Some, None, Result, Ok, Err, refl, sym, ap, ◌∙◌, subst, arith, append_assoc, length-append}
use Rattle.std.specs.List.{filter_map, slice_get}
use Rattle.std.specs.Option.{option_map}
use Rattle.std.proofs.lemmas.List.{append-nil}
use Rattle.std.proofs.lemmas.List.Elements.{filter_map-append}
use Rattle.edge_core.specs.Objects.{Objects}
use Rattle.log_actions.specs.declared.actions.Action.{Action}
use Rattle.commit_check.specs.declared.offer.Offer.{Offer}
use Rattle.share_book.specs.declared.entry.Entry.{Entry}
use Rattle.share_book.specs.declared.entry.Act.{Act}
use Rattle.share_book.specs.declared.entry.Act.TheVariants.{Own, Blocked, Abort}
use Rattle.share_book.specs.declared.entry.LogStart.{LogStart}
use Rattle.share_book.specs.History.{block_on, commit_on, entry, grown, start_in, starts, table_on}
use Rattle.share_book.specs.Legal.{There, log_at}
use Rattle.share_book.specs.TableView.{TableLog}
use Rattle.share_book.proofs.Bookkeeping.{nothing, there_from}
use Rattle.share_book.proofs.Pushes.{here}
use Rattle.share_book.proofs.Words.{loud, quiet}
use Rattle.share_nodes.specs.Steps.{Step, World, world_from, world_of}
use Rattle.share_nodes.specs.Steps as steps_of_nodes
use Rattle.share_nodes.proofs.Worlds.{from_append}
use Rattle.hub_tables.specs.Commits.{CommitEnds, HasNext}
use Rattle.hub_tables.specs.TableCalls.{acts_on, with_commits}
use Rattle.hub_tables.specs.declared.commit.CommitRefusal.{CommitRefusal}
use Rattle.hub_tables.specs.declared.commit.CommitRefusal.TheVariants as refusal
use Rattle.share_hub.specs.NodeCalls.{CallsAreSteps, FaultsAreSteps, IsAt, IsPlacedLate, Went, acknowledged_by, call_steps, own_of, puts, reads}
use Rattle.share_hub.proofs.NodeSteps.{call_world, placed_at, placed_late, read_at}

-- ---- the log as a call left it

-- the commits of a log after acts that end a call
pub record EndsAt (h : List Entry) (j : ℕ) (commits : List (List Action)) : Type 0 where
  pub log : TableLog
  pub is : table_on j h ≡ Some log
  pub has : log.commits ≡ commits

ends_at : (h es : List Entry) (j : ℕ) (t : TableLog) (own : List (List Action)) (o : Option LogStart) → slice_get (starts h) (j - 1) ≡ o → option_map (grown (filter_map (commit_on j) h) (filter_map (block_on j) h)) o ≡ Some t
    → starts es ≡ [] → filter_map (commit_on j) es ≡ own → EndsAt (h ++ es) j (t.commits ++ own)
ends_at h es j t own None is e none adds = absurd cc
ends_at h es j t own (Some s) is e none adds =
    let cs : List (List Action) = filter_map (commit_on j) h in
    let bs : List ℕ = filter_map (block_on j) (h ++ es) in
    let loads : starts (h ++ es) ≡ starts h = filter_map-append start_in h es ∙ ap (λ (l : List LogStart). starts h ++ l) none ∙ append-nil (starts h) in
    let there : slice_get (starts (h ++ es)) (j - 1) ≡ Some s = ap (λ (l : List LogStart). slice_get l (j - 1)) loads ∙ is in
    let more : filter_map (commit_on j) (h ++ es) ≡ cs ++ own = filter_map-append (commit_on j) h es ∙ ap (λ (l : List (List Action)). cs ++ l) adds in
    let same : grown cs (filter_map (block_on j) h) s ≡ t = cc in
    record {
      log = grown (filter_map (commit_on j) (h ++ es)) bs s;
      is = ap (option_map (grown (filter_map (commit_on j) (h ++ es)) bs)) there;
      has = ap (λ (l : List (List Action)). s.commits ++ l) more ∙ sym (append_assoc s.commits cs own) ∙ ap (λ (x : TableLog). x.commits ++ own) same;
    }

module _ (k j : ℕ) where
  abbrev AddsOwn : List Act → List (List Action) → Type 0
  AddsOwn ends own = (starts (acts_on k j ends) ≡ []) × (filter_map (commit_on j) (acts_on k j ends) ≡ own)

  aborts : (ends : List Act) → ends ≡ Abort ∷ [] → AddsOwn ends []
  aborts ends e = subst (λ (es : List Act). AddsOwn es []) (sym e) (refl, quiet (commit_on j) [] (entry k j Abort) (nothing j (entry k j Abort)))

  blocks : (n : ℕ) (ends : List Act) → ends ≡ Blocked n ∷ Abort ∷ [] → AddsOwn ends []
  blocks n ends e = subst (λ (es : List Act). AddsOwn es []) (sym e) (
    refl,
    quiet (commit_on j) (entry k j (Blocked n) ∷ []) (entry k j Abort) (nothing j (entry k j Abort)) ∙ quiet (commit_on j) [] (entry k j (Blocked n)) (nothing j (entry k j (Blocked n))),
  )

  owns : (c : List Action) (ends : List Act) → ends ≡ Own c ∷ [] → AddsOwn ends (c ∷ [])
  owns c ends e = subst (λ (es : List Act). AddsOwn es (c ∷ [])) (sym e) (refl, loud (commit_on j) [] (entry k j (Own c)) c (here (entry k j (Own c)) (Some c)))

-- ---- the node

abbrev W : Type 0
W = World (List Action)

module _ (now : ℕ) (o : Offer) (old new : Option Objects) (k j n : ℕ) (h : List Entry) (w : W) (found : List (List Action)) (ends : List Act) where
  abbrev Gone : Result ℕ CommitRefusal → List Entry → Type 0
  Gone r seen = There (table_on j seen) (λ t. Went w (world_from w (call_steps k (length found) ends)) k t.commits (acknowledged_by r))

  -- the steps of a call that ended with these of its own
  with_own : (own : List (List Action)) (t : TableLog) (more : List ℕ) → IsAt w k t.commits → w.store ≡ t.commits ++ found → own_of ends ≡ own → (log : List (List Action)) → Went w (world_from (world_from w (reads k (length found))) (puts k own)) k log more
      → Went w (world_from w (call_steps k (length found) ends)) k log more
  with_own own t more a all is log went = subst (λ (u : W). Went w u k log more) (sym (ap (λ (cs : List (List Action)). world_from w (reads k (length found) ++ puts k cs)) is ∙ call_world w k t.commits found a all own)) went

  only_read : (x : CommitRefusal) (t : TableLog) → IsAt w k t.commits → w.store ≡ t.commits ++ found → table_on j h ≡ Some (with_commits found t) → own_of ends ≡ [] → AddsOwn n j ends [] → Gone (Err x) (h ++ acts_on n j ends)
  only_read x t a all e quits none =
      let z = ends_at h (acts_on n j ends) j (with_commits found t) [] (slice_get (starts h) (j - 1)) refl e none.0 none.1 in
      there_from (table_on j (h ++ acts_on n j ends)) z.log (λ y. Went w (world_from w (call_steps k (length found) ends)) k y.commits []) z.is
      (with_own [] t [] a all quits z.log.commits (read_at w k t.commits found a all z.log.commits (z.has ∙ append-nil (t.commits ++ found))))

  aborted : (x : CommitRefusal) (t : TableLog) → IsAt w k t.commits → w.store ≡ t.commits ++ found → table_on j h ≡ Some (with_commits found t) → ends ≡ Abort ∷ [] → Gone (Err x) (h ++ acts_on n j ends)
  aborted x t a all e is = only_read x t a all e (ap own_of is) (aborts n j ends is)

  own : (v : ℕ) (t : TableLog) (c : List Action) → IsAt w k t.commits → w.store ≡ t.commits ++ found → table_on j h ≡ Some (with_commits found t) → ends ≡ Own c ∷ [] → v ≡ length (t.commits ++ found) → Gone (Ok v) (h ++ acts_on n j ends)
  own v t c a all e is at =
      let z = ends_at h (acts_on n j ends) j (with_commits found t) (c ∷ []) (slice_get (starts h) (j - 1)) refl e (owns n j c ends is).0 (owns n j c ends is).1 in
      there_from (table_on j (h ++ acts_on n j ends)) z.log (λ y. Went w (world_from w (call_steps k (length found) ends)) k y.commits (v ∷ [])) z.is
      (with_own (c ∷ []) t (v ∷ []) a all (ap own_of is) z.log.commits (placed_at w k t.commits found a all v c z.log.commits at z.has))

  went : (r : Result ℕ CommitRefusal) (b : Option TableLog) → table_on j h ≡ option_map (with_commits found) b → There b (λ t. IsAt w k t.commits × (w.store ≡ t.commits ++ found))
      → There b (λ t. CommitEnds r now o old new t.block (t.commits ++ found) (length found) ends) → Gone r (h ++ acts_on n j ends)
  went r None e a told = absurd told
  went (Ok v) (Some t) e a told = own v t told.1.0 a.0 a.1 e told.1.2 told.0
  went (Err refusal.NotLoaded) (Some t) e a told = absurd told
  went (Err (refusal.Blocked m)) (Some t) e a (inl told) = aborted (refusal.Blocked m) t a.0 a.1 e told.2
  went (Err (refusal.Blocked m)) (Some t) e a (inr told) = only_read (refusal.Blocked m) t a.0 a.1 e (ap own_of told.3) (blocks n j m ends told.3)
  went (Err refusal.Contended) (Some t) e a told = aborted refusal.Contended t a.0 a.1 e told.1
  went (Err (refusal.Conflict c)) (Some t) e a told = aborted (refusal.Conflict c) t a.0 a.1 e told.4
  went (Err refusal.Limit) (Some t) e a told = aborted refusal.Limit t a.0 a.1 e told.4
  went (Err refusal.StoreFault) (Some t) e a told = aborted refusal.StoreFault t a.0 a.1 e told.1
  went (Err refusal.NoMemory) (Some t) e a told = aborted refusal.NoMemory t a.0 a.1 e told.1

pub calls_steps : CallsAreSteps
calls_steps r now o old new p q j ran steps k a =
    subst (λ (h : List Entry). There (table_on j h) (λ t. Went (world_of steps) (world_of (steps ++ call_steps k (length ran.found) ran.ends)) k t.commits (acknowledged_by r))) (sym ran.ran.last)
    (subst (λ (u : W). There (table_on j (ran.ran.before ++ acts_on p.number j ran.ends)) (λ t. Went (world_of steps) u k t.commits (acknowledged_by r))) (sym (from_append steps_of_nodes.nothing steps (call_steps k (length ran.found) ran.ends)))
    (went now o old new k j p.number ran.ran.before (world_of steps) ran.found ran.ends r (table_on j ran.ran.from) ran.ran.table a ran.told))

-- ---- a fault

late_at : (o : Offer) (old new : Option Objects) (now k : ℕ) (w : W) (steps : List (Step (List Action))) (b : Option TableLog) → There b (λ t. Went w (world_of steps) k t.commits []) → There b (λ t. HasNext now o old new t.commits) → There b (IsPlacedLate o old new steps)
late_at o old new now k w steps None g m = absurd m
late_at o old new now k w steps (Some t) g m = (m.0, m.2, placed_late steps t.commits m.0 g.all)

same_log : (i j : ℕ) (a : Option ℕ) → a ≡ Some i → a ≡ Some j → i ≡ j
same_log i j a x y = let e : Some i ≡ Some j = sym x ∙ y in cc

pub faults_steps : FaultsAreSteps
faults_steps now o old new is p q j ran steps k at (inl l) a = absurd (let e = l.0 in cc)
faults_steps now o old new is p q j ran steps k at (inr (i, there, l)) a = elim l.one as (λ x. (new ≡ old) ⊎ There (table_on j q.seen) (IsPlacedLate o old new (steps ++ call_steps k (length ran.found) ran.ends))) [
  | inl e ↦ inl e
  | inr m ↦ inr (late_at o old new now k (world_of steps) (steps ++ call_steps k (length ran.found) ran.ends) (table_on j q.seen)
      (calls_steps (Err refusal.StoreFault) now o old new p q j ran steps k a)
      (subst (λ (n : ℕ). There (table_on n q.seen) (λ t. HasNext now o old new t.commits)) (same_log i j (log_at q.seen o.location) there at) m))
]
