-- Refreshes, from the calls of the hub.
use Rattle.std.proofs.Common.{◌≡◌, ◌⊎◌, inl, inr, ℕ, ◌+◌, ◌<◌, ◌≤◌, ◌||◌, List, [], ◌∷◌, ◌++◌, length, take, get_or, Result, Ok, Bool, true, false, refl, sym, ap, ◌∙◌, subst, arith}
use Rattle.std.proofs.Math.Bool.{or-false}
use Rattle.std.proofs.lemmas.List.{take_more}
use Rattle.edge_core.specs.Faults.{Cause}
use Rattle.log_store.specs.Loads.{Looked}
use Rattle.share_book.specs.Legal.{locations_of}
use Rattle.hub_calls.specs.Calls.{Adds, IsIdle, P}
use Rattle.hub_tables.specs.LogRefreshes.{Refreshes, failed_refresh}
use Rattle.hub_catalog.specs.Refreshes as catalog
use Rattle.hub_catalog.specs.declared.found.CatalogRefusal.{CatalogRefusal}
use Rattle.hub_tables.specs.declared.refresh.RefreshRefusal.{RefreshRefusal}
use Rattle.hub_tables.specs.declared.refresh.Refreshed.{Refreshed as LogState}
use Rattle.hub_catalog.specs.declared.refresh_catalog.RefreshedCatalog.{RefreshedCatalog}
use Rattle.share_serve.specs.Sides.{hold}
use Rattle.share_serve.specs.Turns.{Grew, Hold, Shelf}
use Rattle.share_serve.proofs.Holds.{grew_itself, grew_on, looked, replied}
use Rattle.share_pool.specs.Refreshing.{AllFull, CatalogRefresh, IsLast, LogRefresh, LogRefreshes, Refreshed, Repeats, TakesCommits, TakesRecords, lacks_commits, lacks_records}

-- what a call that stores nothing leaves
left : (p q : P) (s t : Shelf) (failed : Bool) → IsIdle p q → Looked s.objects t.objects s.alone t.alone → Cause s.faults t.faults failed → t.stored ≡ s.stored → Grew (hold p s) (hold q t)
left p q s t failed is look cause same = replied p q s t is (record { looked = look; stored = same }) cause.later

pub log_refresh : (location : List ℕ) (p q : P) (s t : Shelf) (r : Result LogState RefreshRefusal) → IsIdle p q → Refreshes r location s.objects t.objects p q → Looked s.objects t.objects s.alone t.alone
    → Cause s.faults t.faults (failed_refresh r) → t.stored ≡ s.stored → LogRefresh location r (hold p s) (hold q t)
log_refresh location p q s t r is entries look cause same = record { grew = left p q s t (failed_refresh r) is look cause same; sought = record { entries = entries; stored = look; cause = cause; puts = same } }

or_more : (x y z : Bool) → ((x || y) || z) ≡ (x || (y || z))
or_more true y z = refl
or_more false y z = refl

one_more : (ls : List (List ℕ)) (l : List ℕ) (was here : Bool) (a b c : Hold) → LogRefreshes ls was a b → TakesCommits l here b c → LogRefreshes (ls ++ l ∷ []) (was || here) a c
one_more [] l was here a b c r s = (c, here, false, subst (λ (z : Hold). TakesCommits l here z c) r.0 s, (refl, refl), ap (λ z. z || here) r.1 ∙ sym (or-false here))
one_more (x ∷ ls) l was here a b c r s = (r.0, r.1, r.2 || here, r.3, one_more ls l r.2 here r.0 b c r.4 s, ap (λ z. z || here) r.5 ∙ or_more r.1 r.2 here)

pub logs_more : (ls : List (List ℕ)) (i : ℕ) (l : List ℕ) (was here : Bool) (a b c : Hold) → i < length ls → l ≡ get_or ls i l → LogRefreshes (take i ls) was a b → TakesCommits l here b c → LogRefreshes (take (i + 1) ls) (was || here) a c
logs_more ls i l was here a b c lt is r s =
    subst (λ (z : List (List ℕ)). LogRefreshes z (was || here) a c) (ap (λ x. take i ls ++ x ∷ []) is ∙ sym (take_more ls i l lt)) (one_more (take i ls) l was here a b c r s)

pub catalog_refresh : (p q : P) (s t : Shelf) (r : Result RefreshedCatalog CatalogRefusal) → IsIdle p q → catalog.Refreshes r s.objects t.objects p q → Looked s.objects t.objects s.alone t.alone
    → Cause s.faults t.faults (catalog.failed_refresh r) → t.stored ≡ s.stored → CatalogRefresh r (hold p s) (hold q t)
catalog_refresh p q s t r is entries look cause same = record { grew = left p q s t (catalog.failed_refresh r) is look cause same; entries = entries; stored = look; cause = cause; puts = same }

-- the catalogue is refreshed, the locations are asked for, and the logs are refreshed or not
pub all_refreshed : (lacked first : Bool) (p q o : P) (s t : Shelf) (new : Hold) → TakesRecords first (hold p s) (hold q t) → IsIdle q o → Adds q o []
    → ((later : Bool) × LogRefreshes (locations_of o.seen) later (hold o t) new × (lacked ≡ (first || later))) ⊎ ((new ≡ hold o t) × (lacked ≡ true)) → Refreshed lacked (hold p s) new
all_refreshed lacked first p q o s t new takes is own logs = record { known = hold q t; listed = hold o t; first = first; catalog = takes; looks = looked q o t is; own = own; shelf = refl; logs = logs }

-- ---- repeated calls

module _ {R E : Type 0} (found : R → ℕ) (Call : Result R E → Hold → Hold → Type 0) where
  pub full_more : (hs : List Hold) (a b c : Hold) (r : R) → AllFull found Call hs a b → 64 ≤ found r → Call (Ok r) b c → AllFull found Call (hs ++ c ∷ []) a c
  full_more [] a b c r all most call = ((r, most, subst (λ (z : Hold). Call (Ok r) z c) all call), refl)
  full_more (h ∷ hs) a b c r all most call = (all.0, full_more hs h b c r all.1 most call)

  all_grew : ((x : Result R E) (a b : Hold) → Call x a b → Grew a b) → (hs : List Hold) (a b c : Hold) → Grew a b → AllFull found Call hs b c → Grew a c
  all_grew each [] a b c g all = subst (Grew a) (sym all) g
  all_grew each (h ∷ hs) a b c g all = all_grew each hs a h c (grew_on a b h g (each (Ok all.0.0) b h all.0.2)) all.1

  -- none more was made, or one
  left_or_called : (lacks : Result R E → Bool) (lacked : Bool) (n : ℕ) (b c : Hold) → ((n ≡ 1024) × (c ≡ b) × (lacked ≡ false)) ⊎ ((n < 1024) × ((answer : Result R E) × IsLast found Call answer × Call answer b c × (lacked ≡ lacks answer)))
      → ((n ≡ 1024) × (c ≡ b)) ⊎ ((answer : Result R E) × Call answer b c)
  left_or_called lacks lacked n b c (inl (most, same, none)) = inl (most, same)
  left_or_called lacks lacked n b c (inr (few, (answer, last, call, is))) = inr (answer, call)

  last_grew : ((x : Result R E) (a b : Hold) → Call x a b → Grew a b) → (n : ℕ) (a b c : Hold) → Grew a b → ((n ≡ 1024) × (c ≡ b)) ⊎ ((answer : Result R E) × Call answer b c) → Grew a c
  last_grew each n a b c g (inl (most, same)) = subst (Grew a) (sym same) g
  last_grew each n a b c g (inr (answer, call)) = grew_on a b c g (each answer b c call)

  ends_grew : ((x : Result R E) (a b : Hold) → Call x a b → Grew a b) → (hs : List Hold) (a b c : Hold) → AllFull found Call hs a b → ((length hs ≡ 1024) × (c ≡ b)) ⊎ ((answer : Result R E) × Call answer b c) → Grew a c
  ends_grew each [] a b c all (inl (none, same)) = absurd (omega (arith, none))
  ends_grew each [] a b c all (inr (answer, call)) = subst (λ (z : Hold). Grew z c) all (each answer b c call)
  ends_grew each (h ∷ hs) a b c all ends = last_grew each (length (h ∷ hs)) a b c (all_grew each hs a h b (each (Ok all.0.0) a h all.0.2) all.1) ends

  pub repeats_grew : ((x : Result R E) (a b : Hold) → Call x a b → Grew a b) → (lacks : Result R E → Bool) (lacked : Bool) (a b : Hold) → Repeats found Call lacks lacked a b → Grew a b
  repeats_grew each lacks lacked a b r = ends_grew each r.full a r.mid b r.calls (left_or_called lacks lacked (length r.full) r.mid b r.ends)

-- ---- what only grew

-- none was made, or some
pub catalog_grew : (hs : List Hold) (a b : Hold) → a.pass.holds ≡ false → AllFull (λ (r : RefreshedCatalog). r.found) CatalogRefresh hs a b → Grew a b
catalog_grew hs a b idle all = all_grew (λ (r : RefreshedCatalog). r.found) CatalogRefresh (λ x d e call. call.grew) hs a a b (grew_itself a idle) all

logs_grew : (ls : List (List ℕ)) (lacked : Bool) (a b c : Hold) → Grew a b → LogRefreshes ls lacked b c → Grew a c
logs_grew [] lacked a b c g r = subst (Grew a) (sym r.0) g
logs_grew (l ∷ ls) lacked a b c g r = logs_grew ls r.2 a r.0 c (grew_on a b r.0 g (repeats_grew (λ (s : LogState). s.found) (LogRefresh l) (λ x d e call. call.grew) lacks_commits r.1 b r.0 r.3)) r.4

pub grown : (lacked first : Bool) (a l b : Hold) → ((later : Bool) × LogRefreshes (locations_of l.pass.seen) later l b × (lacked ≡ (first || later))) ⊎ ((b ≡ l) × (lacked ≡ true)) → Grew a l → Grew a b
grown lacked first a l b (inl (later, logs, is)) g = logs_grew (locations_of l.pass.seen) later a l b g logs
grown lacked first a l b (inr (same, is)) g = subst (Grew a) (sym same) g

pub refreshed_grew : (lacked : Bool) (a b : Hold) → Refreshed lacked a b → Grew a b
refreshed_grew lacked a b r =
    grown lacked r.first a r.listed b r.logs (grew_on a r.known r.listed (repeats_grew (λ (s : RefreshedCatalog). s.found) CatalogRefresh (λ x d e call. call.grew) lacks_records r.first a r.known r.catalog) r.looks)
