-- What a session begins with.
use Rattle.std.proofs.Common.{◌≡◌, ◌⊎◌, inl, inr, ℕ, ◌+◌, ◌*◌, ◌<◌, ◌≤◌, ◌||◌, List, [], ◌∷◌, ◌++◌, length, map, Option, Result, Ok, Err, Bool, true, false, true≢false, refl, sym, ap, ◌∙◌, subst, append_assoc, arith, length-append}
use Rattle.std.proofs.lemmas.List.{length-map}
use Rattle.std.proofs.lemmas.List.Elements.{filter_map-append}
use mathlib.Core.List.{IsPrefix}
use Rattle.edge_core.specs.Objects.{Lacks, Objects}
use Rattle.edge_core.proofs.Growth.{Grows-absent, Grows-on}
use Rattle.catalog_log.specs.RecordNames.{record_name_of}
use Rattle.share_book.specs.declared.entry.Entry.{Entry}
use Rattle.share_book.specs.History.{edit_in, edits}
use Rattle.share_book.specs.Legal.{locations_of}
use Rattle.hub_calls.specs.Calls.{P}
use Rattle.hub_catalog.specs.CatalogCalls as calls
use Rattle.hub_catalog.specs.Edits.{Blocks}
use Rattle.hub_catalog.specs.Refreshes as catalog
use Rattle.hub_catalog.specs.declared.found.CatalogRefusal.{CatalogRefusal}
use Rattle.hub_catalog.specs.declared.found.CatalogRefusal.TheVariants as refusal
use Rattle.hub_catalog.specs.declared.refresh_catalog.RefreshedCatalog.{RefreshedCatalog}
use Rattle.share_serve.specs.Turns.{Grew, Hold}
use Rattle.share_serve.specs.declared.server.Server.{Server}
use Rattle.share_pool.specs.Laws.{AreUpToDate, HasBlock, IsUpToDate}
use Rattle.share_pool.specs.Posts.{Post}
use Rattle.share_pool.specs.Refreshing.{AllFull, CatalogRefresh, IsLast, LogRefreshes, Refreshed, lacks_records}
use Rattle.share_pool.specs.Visits.{Attended, Visit, any_lacks, wants}
use Rattle.share_pool.proofs.Refreshes.{catalog_grew, grown}

-- ---- edits of a beginning

edits_prefix : (xs ys : List Entry) → IsPrefix xs ys → IsPrefix (edits xs) (edits ys)
edits_prefix xs ys p = (edits p.0, sym (filter_map-append edit_in xs p.0) ∙ ap edits p.1)

no_fewer : (xs ys : List Entry) → IsPrefix xs ys → length (edits xs) ≤ length (edits ys)
no_fewer xs ys p =
    let q = edits_prefix xs ys p in
    let n : length (edits xs ++ q.0) ≡ length (edits xs) + length q.0 = length-append (edits xs) q.0 in
    let m : length (edits xs ++ q.0) ≡ length (edits ys) = ap (λ es. length es) q.1 in omega arith

-- ---- one call

known_end : (r : RefreshedCatalog) (o n : Option Objects) (p q : P) → r.found < 64 → catalog.Refreshes (Ok r) o n p q → (r.edits ≤ length (edits q.seen)) × Lacks (record_name_of r.edits) n
known_end r o n p q few (inl (adds, (none, is, gone))) = (omega (arith, is), gone)
known_end r o n p q few (inr ((found, ran, (count, most, end, gone)), next)) =
    let e = no_fewer end.before q.seen (_, sym end.last) in
    let t = end.told in (omega (arith, e, t), gone (omega (arith, few, count)))

blocked_end : (k : ℕ) (o n : Option Objects) (p q : P) → catalog.Refreshes (Err (refusal.Blocked k)) o n p q → HasBlock n q.seen
blocked_end k o n p q (inl (adds, early)) = absurd early
blocked_end k o n p q (inr ((found, ran, (is, few)), next)) =
    (edits is.before, edits_prefix is.before q.seen (_, sym is.last), subst (λ (z : ℕ). Blocks n z (edits is.before)) is.told.0 is.told.1)

found_more : (r : RefreshedCatalog) (o n : Option Objects) (p q : P) → 64 ≤ r.found → catalog.Refreshes (Ok r) o n p q → length (edits p.seen) + 64 ≤ length (edits q.seen)
found_more r o n p q most (inl (adds, (none, is, gone))) = absurd (omega (arith, most, none))
found_more r o n p q most (inr ((found, ran, (count, few, end, gone)), next)) =
    let a = no_fewer p.seen ran.from ran.after in
    let b = no_fewer ran.before q.seen (_, sym ran.last) in
    let l : length (edits ran.before) ≡ length (edits ran.from ++ map calls.edit_in found) = ap (λ es. length es) ran.edits in
    let m : length (edits ran.from ++ map calls.edit_in found) ≡ length (edits ran.from) + length (map calls.edit_in found) = length-append (edits ran.from) (map calls.edit_in found) in
    let k : length (map calls.edit_in found) ≡ length found = length-map found calls.edit_in in omega (arith, most, count, a, b, l, m, k)

-- ---- the calls

all_more : (hs : List Hold) (a b : Hold) → AllFull (λ (r : RefreshedCatalog). r.found) CatalogRefresh hs a b → length (edits a.pass.seen) + 64 * length hs ≤ length (edits b.pass.seen)
all_more [] a b all = let e : length (edits b.pass.seen) ≡ length (edits a.pass.seen) = ap (λ (h : Hold). length (edits h.pass.seen)) all in omega (arith, e)
all_more (h ∷ hs) a b all =
    let x = found_more all.0.0 a.shelf.objects h.shelf.objects a.pass h.pass all.0.1 all.0.2.entries in
    let y = all_more hs h b all.1 in omega (arith, x, y)

last_up : (x : Result RefreshedCatalog CatalogRefusal) (a b c d : Hold) → lacks_records x ≡ false → IsLast (λ (r : RefreshedCatalog). r.found) CatalogRefresh x → CatalogRefresh x b c → Grew a b → Grew c d → IsUpToDate a d
last_up (Ok r) a b c d none last call g k =
    let e = known_end r b.shelf.objects c.shelf.objects b.pass c.pass last call.entries in
    let n = no_fewer c.pass.seen d.pass.seen k.pass.seen in
    let u = e.0 in inl (r.edits, omega (arith, u, n), Grows-absent a.shelf.objects c.shelf.objects (record_name_of r.edits) (Grows-on a.shelf.objects b.shelf.objects c.shelf.objects g.objects call.grew.objects) e.1)
last_up (Err (refusal.Blocked n)) a b c d none last call g k =
    let e = blocked_end n b.shelf.objects c.shelf.objects b.pass c.pass call.entries in
    let f = edits_prefix c.pass.seen d.pass.seen k.pass.seen in
    inr (inr (inl (c.shelf.objects, Grows-on a.shelf.objects b.shelf.objects c.shelf.objects g.objects call.grew.objects, (e.0, (e.1.0 ++ f.0, sym (append_assoc e.0 e.1.0 f.0) ∙ (ap (λ z. z ++ f.0) e.1.1 ∙ f.1)), e.2))))
last_up (Err refusal.StoreFault) a b c d none last call g k = let x = g.faults in let y = k.faults in let z = call.cause.rose in inr (inl (omega (arith, x, y, z)))
last_up (Err refusal.NoMemory) a b c d none last call g k = absurd (true≢false none)

ends_up : (lacked : Bool) (hs : List Hold) (a b c d : Hold) → lacked ≡ false → a.pass.holds ≡ false → AllFull (λ (r : RefreshedCatalog). r.found) CatalogRefresh hs a b
    → ((length hs ≡ 1024) × (c ≡ b) × (lacked ≡ false)) ⊎ ((length hs < 1024) × ((answer : Result RefreshedCatalog CatalogRefusal) × IsLast (λ (r : RefreshedCatalog). r.found) CatalogRefresh answer × CatalogRefresh answer b c × (lacked ≡ lacks_records answer)))
    → Grew c d → IsUpToDate a d
ends_up lacked hs a b c d none idle all (inl (most, same, is)) k =
    let x = all_more hs a b all in
    let y : length (edits c.pass.seen) ≡ length (edits b.pass.seen) = ap (λ (h : Hold). length (edits h.pass.seen)) same in
    let z = no_fewer c.pass.seen d.pass.seen k.pass.seen in inr (inr (inr (omega (arith, most, x, y, z))))
ends_up lacked hs a b c d none idle all (inr (few, (answer, last, call, is))) k = last_up answer a b c d (sym is ∙ none) last call (catalog_grew hs a b idle all) k

-- ---- a refresh, and all

left_false : (x y : Bool) → (x || y) ≡ false → x ≡ false
left_false true y e = e
left_false false y e = refl

right_false : (x y : Bool) → (x || y) ≡ false → y ≡ false
right_false true y e = absurd (true≢false e)
right_false false y e = e

first_false : (lacked first : Bool) (l b : Hold) → lacked ≡ false → ((later : Bool) × LogRefreshes (locations_of l.pass.seen) later l b × (lacked ≡ (first || later))) ⊎ ((b ≡ l) × (lacked ≡ true)) → first ≡ false
first_false lacked first l b none (inl (later, logs, is)) = left_false first later (sym is ∙ none)
first_false lacked first l b none (inr (same, is)) = absurd (true≢false (sym is ∙ none))

up_to_date : (lacked : Bool) (a b : Hold) → lacked ≡ false → a.pass.holds ≡ false → Refreshed lacked a b → IsUpToDate a b
up_to_date lacked a b none idle r =
    let t = r.catalog in ends_up r.first t.full a t.mid r.known b (first_false lacked r.first r.listed b none r.logs) idle t.calls t.ends (grown lacked r.first r.known r.listed b r.logs r.looks)

pub are_up_to_date : (server : Server) (old new : Post) (visits : List Visit) → old.hold.pass.holds ≡ false → Attended server old visits new → any_lacks visits ≡ false → AreUpToDate old.hold visits
are_up_to_date server old new [] idle r none = tt
are_up_to_date server old new (v ∷ visits) idle r none =
    let a = r.1.1 in
    let s = r.1.2 in
    let mine = left_false (wants v) (any_lacks visits) none in (
      up_to_date v.lacked old.hold v.before.hold (left_false v.lacked _ mine) idle (subst (λ (h : Hold). Refreshed v.lacked h v.before.hold) a.hold s.refreshed),
      subst (λ (h : Hold). AreUpToDate h visits) s.hold (are_up_to_date server r.0 new visits (ap (λ (h : Hold). h.pass.holds) s.hold ∙ s.grew.pass.holds) r.2 (right_false (wants v) (any_lacks visits) none)),
    )
