-- What the refreshes and the sessions of a worker added stands.
use Rattle.std.proofs.Common.{◌≡◌, ⊎_elim, ℕ, Bool, List, [], ◌∷◌, Result, Ok, Err, sym, ap, subst}
use Rattle.share_hub.specs.CatalogLaws.{CatalogRefreshesStand}
use Rattle.share_hub.specs.TableLaws.{RefreshesStand}
use Rattle.share_hub.proofs.Standing.{adds_none}
use Rattle.hub_catalog.specs.declared.found.CatalogRefusal.{CatalogRefusal}
use Rattle.hub_catalog.specs.declared.refresh_catalog.RefreshedCatalog.{RefreshedCatalog}
use Rattle.hub_tables.specs.declared.refresh.RefreshRefusal.{RefreshRefusal}
use Rattle.hub_tables.specs.declared.refresh.Refreshed.{Refreshed as LogState}
use Rattle.share_serve.specs.Standing.{WhatIsAddedStands}
use Rattle.share_serve.specs.Turns.{Hold}
use Rattle.share_serve.specs.declared.server.Server.{Server}
use Rattle.share_serve.proofs.Added.{Stood, grown, stood_on, stood_still}
use Rattle.share_pool.specs.Posts.{Post}
use Rattle.share_pool.specs.Refreshing.{AllFull, CatalogRefresh, LogRefresh, LogRefreshes, Refreshed, Repeats}
use Rattle.share_pool.specs.Standing.{WhatWorkersAddStands}
use Rattle.share_pool.specs.Visits.{Attended, Visit}

-- ---- calls that are repeated

module _ {R E : Type 0} (found : R → ℕ) (Call : Result R E → Hold → Hold → Type 0) (stands : (answer : Result R E) (old new : Hold) → Call answer old new → Stood old new) where
  full : (hs : List Hold) (old new : Hold) → AllFull found Call hs old new → Stood old new
  full [] old new is = stood_still old new is
  full (h ∷ hs) old new is = stood_on old h new (stands (Ok is.0.0) old h is.0.2) (full hs h new is.1)

  repeated : (lacks : Result R E → Bool) (lacked : Bool) (old new : Hold) → Repeats found Call lacks lacked old new → Stood old new
  repeated lacks lacked old new is =
      stood_on old is.mid new (full is.full old is.mid is.calls) (⊎_elim (λ e. stood_still is.mid new e.1) (λ e. stands e.1.0 is.mid new e.1.2) is.ends)

-- ---- refreshes

catalog_stands : CatalogRefreshesStand → (answer : Result RefreshedCatalog CatalogRefusal) (old new : Hold) → CatalogRefresh answer old new → Stood old new
catalog_stands stands answer old new is = grown old new is.grew (stands answer old.shelf.objects new.shelf.objects old.pass new.pass is.entries)

log_stands : RefreshesStand → (location : List ℕ) (answer : Result LogState RefreshRefusal) (old new : Hold) → LogRefresh location answer old new → Stood old new
log_stands stands location answer old new is = grown old new is.grew (stands answer location old.shelf.objects new.shelf.objects old.pass new.pass is.sought.entries)

logs_stand : RefreshesStand → (locations : List (List ℕ)) (lacked : Bool) (old new : Hold) → LogRefreshes locations lacked old new → Stood old new
logs_stand stands [] lacked old new is = stood_still old new is.0
logs_stand stands (l ∷ ls) lacked old new is =
    stood_on old is.0 new (repeated (λ (r : LogState). r.found) (LogRefresh l) (log_stands stands l) _ is.1 old is.0 is.3) (logs_stand stands ls is.2 is.0 new is.4)

refreshed : CatalogRefreshesStand → RefreshesStand → (lacked : Bool) (old new : Hold) → Refreshed lacked old new → Stood old new
refreshed catalogs logs lacked old new is =
    let first = repeated (λ (r : RefreshedCatalog). r.found) CatalogRefresh (catalog_stands catalogs) _ is.first old is.known is.catalog in
    let second = grown is.known is.listed is.looks (adds_none is.known.pass is.listed.pass is.listed.shelf.objects is.own) in
    let third = ⊎_elim (λ l. logs_stand logs _ l.0 is.listed new l.1) (λ l. stood_still is.listed new l.0) is.logs in
    stood_on old is.known new first (stood_on is.known is.listed new second third)

-- ---- lines

attended : CatalogRefreshesStand → RefreshesStand → WhatIsAddedStands → (server : Server) (old new : Post) (visits : List Visit) → Attended server old visits new → Stood old.hold new.hold
attended catalogs logs sessions server old new [] is = stood_still old.hold new.hold (ap (λ (p : Post). p.hold) is)
attended catalogs logs sessions server old new (v ∷ visits) is =
    let there = is.1.0 in
    let serves = is.1.2 in
    let before : Stood there.hold v.before.hold = refreshed catalogs logs v.lacked there.hold v.before.hold serves.refreshed in
    let session : Stood v.before.hold v.after.hold = grown v.before.hold v.after.hold serves.grew (sessions server v.bytes v.left v.before v.after v.ended serves.session) in
    let here : Stood old.hold v.after.hold = subst (λ (h : Hold). Stood h v.after.hold) is.1.1.hold (stood_on there.hold v.before.hold v.after.hold before session) in
    let later : Stood v.after.hold new.hold = subst (λ (h : Hold). Stood h new.hold) serves.hold (attended catalogs logs sessions server is.0 new visits is.2) in
    stood_on old.hold v.after.hold new.hold here later

pub what_workers_add_stands : CatalogRefreshesStand → RefreshesStand → WhatIsAddedStands → WhatWorkersAddStands
what_workers_add_stands catalogs logs sessions server old new visits is = (attended catalogs logs sessions server old new visits is).added
