-- Where the catalogue takes a location of which no log was loaded, there are fewer than 32 logs.
use Rattle.std.proofs.Common.{◌≡◌, ◌⊎◌, ℕ, ◌+◌, ◌<◌, ◌≤◌, Bool, true, false, ◌||◌, ◌&&◌, not, cond, nat_le, List, [], ◌∷◌, ◌++◌, length, Option, Some, None, sym, refl, ap, ◌∙◌, subst, arith, append_assoc, length-append, bytes_eq, inl, inr, if◌then◌else◌}
use Rattle.std.specs.List.{list_any}
use Rattle.std.specs.Option.{IfSome, option_or}
use Rattle.std.proofs.lemmas.Bool.Decides.{leb_tells}
use Rattle.std.proofs.lemmas.List.{append-nil}
use Rattle.share_catalog.specs.declared.edit.Edit.{Edit}
use Rattle.share_catalog.specs.declared.edit.Edit.TheVariants as edit
use Rattle.share_catalog.specs.Catalogue.{bound_location, distinct, first_refusal, is_missing, is_table, is_taken, is_token_taken, limit_met, limit_passed, locations_bound, refusal_of, tables_bound}
use Rattle.share_catalog.proofs.KeyTests.{bytes_is, bytes_sym}
use Rattle.share_catalog.proofs.Words.{distinct_length}
use Rattle.share_book.specs.declared.entry.Entry.{Entry}
use Rattle.share_book.specs.declared.entry.LogStart.{LogStart}
use Rattle.share_book.specs.declared.entry.Act.{Act}
use Rattle.share_book.specs.declared.entry.Act.TheVariants.{Begin, Own, Found, OwnEdit, FoundEdit, Load, Blocked, Abort}
use Rattle.share_book.specs.History.{edit_in, edit_of, edits, pending, start_in, start_of, starts}
use Rattle.share_book.specs.Legal.{Fits, Follows, IsLegal, May, There, has_log, is_at}
use Rattle.share_book.proofs.Rests.{pending_push}
use Rattle.share_book.proofs.Words.{loud, quiet}

or_true : (a b : Bool) → (a || b) ≡ true → (a ≡ true) ⊎ (b ≡ true)
or_true true b e = inl refl
or_true false b e = inr e

or_right : (a b : Bool) → b ≡ true → (a || b) ≡ true
or_right true b e = refl
or_right false b e = e

or_left : (a b : Bool) → a ≡ true → (a || b) ≡ true
or_left true b e = refl
or_left false b e = absurd cc

any_last : {X : Type 0} (p : X → Bool) (xs : List X) (y : X) → list_any p (xs ++ y ∷ []) ≡ true → (list_any p xs ≡ true) ⊎ (p y ≡ true)
any_last p [] y e = elim (or_true (p y) false e) [ inl w ↦ inr w | inr w ↦ absurd (cc w) ]
any_last p (x ∷ xs) y e = elim (or_true (p x) (list_any p (xs ++ y ∷ [])) e) [ inl w ↦ inl (or_left (p x) (list_any p xs) w) | inr w ↦ elim (any_last p xs y w) [ inl v ↦ inl (or_right (p x) (list_any p xs) v) | inr v ↦ inr v ] ]

any_front : {X : Type 0} (p : X → Bool) (xs : List X) (y : X) → list_any p xs ≡ true → list_any p (xs ++ y ∷ []) ≡ true
any_front p [] y e = absurd cc
any_front p (x ∷ xs) y e = elim (or_true (p x) (list_any p xs) e) [ inl w ↦ or_left (p x) (list_any p (xs ++ y ∷ [])) w | inr w ↦ or_right (p x) (list_any p (xs ++ y ∷ [])) (any_front p xs y w) ]

pub any_end : {X : Type 0} (p : X → Bool) (xs : List X) (y : X) → p y ≡ true → list_any p (xs ++ y ∷ []) ≡ true
any_end p [] y e = or_left (p y) false e
any_end p (x ∷ xs) y e = or_right (p x) (list_any p (xs ++ y ∷ [])) (any_end p xs y e)

abbrev locations : List Entry → List (List ℕ)
locations h = locations_bound (edits h)

abbrev waits : Option LogStart → ℕ
waits None = 0
waits (Some s) = 1

-- each location that was bound has a log, and there are no more logs than such locations, but for one that is about to be bound
record Bounded (h : List Entry) : Type 0 where
  have : (l : List ℕ) → list_any (bytes_eq l) (locations h) ≡ true → has_log h l ≡ true
  count : length (starts h) ≤ length (distinct bytes_eq (locations h)) + waits (pending h)
  fresh : (s : LogStart) → pending h ≡ Some s → list_any (bytes_eq s.location) (locations h) ≡ false

load_new : (h : List Entry) (k j : ℕ) (a : Act) (s : LogStart) → start_of a ≡ Some s → Fits h k j a → (has_log h s.location ≡ false) × (edit_of a ≡ None)
load_new h k j Begin s is f = absurd cc
load_new h k j (Own c) s is f = absurd cc
load_new h k j (Found c) s is f = absurd cc
load_new h k j (OwnEdit e) s is f = absurd cc
load_new h k j (FoundEdit e) s is f = absurd cc
load_new h k j (Load t) s is f = let same : t ≡ s = cc is in (subst (λ (x : LogStart). has_log h x.location ≡ false) same f.1.2, refl)
load_new h k j (Blocked n) s is f = absurd cc
load_new h k j Abort s is f = absurd cc

edit_has : (h : List Entry) (k j : ℕ) (a : Act) (x : Edit) → edit_of a ≡ Some x → Fits h k j a → IfSome (bound_location x) (λ l. has_log h l ≡ true) × (start_of a ≡ None)
edit_has h k j Begin x is f = absurd cc
edit_has h k j (Own c) x is f = absurd cc
edit_has h k j (Found c) x is f = absurd cc
edit_has h k j (OwnEdit e) x is f = let same : e ≡ x = cc is in (subst (λ (y : Edit). IfSome (bound_location y) (λ l. has_log h l ≡ true)) same f.1.2, refl)
edit_has h k j (FoundEdit e) x is f = let same : e ≡ x = cc is in (subst (λ (y : Edit). IfSome (bound_location y) (λ l. has_log h l ≡ true)) same f.1.2, refl)
edit_has h k j (Load t) x is f = absurd cc
edit_has h k j (Blocked n) x is f = absurd cc
edit_has h k j Abort x is f = absurd cc

-- before an act that is no edit no load is pending
none_waits : (o : Option LogStart) (a : Act) → Follows o a → edit_of a ≡ None → o ≡ None
none_waits None a f n = refl
none_waits (Some s) a f n = absurd (subst (λ (e : Option Edit). There e (λ x. bound_location x ≡ Some s.location)) n f)

binds_it : (s : LogStart) (a : Act) (x : Edit) → Follows (Some s) a → edit_of a ≡ Some x → bound_location x ≡ Some s.location
binds_it s a x f n = subst (λ (e : Option Edit). There e (λ y. bound_location y ≡ Some s.location)) n f

-- an entry that is neither
bounded_quiet : (h : List Entry) (e : Entry) → May h e → Bounded h → start_in e ≡ None → edit_in e ≡ None → Bounded (h ++ e ∷ [])
bounded_quiet h e m b s n =
    let qe : edits (h ++ e ∷ []) ≡ edits h = quiet edit_in h e n in
    let qs : starts (h ++ e ∷ []) ≡ starts h = quiet start_in h e s in
    let qp : pending (h ++ e ∷ []) ≡ None = pending_push h e ∙ s in
    let w : waits (pending h) ≡ 0 = ap waits (none_waits (pending h) e.act m.0 n) in
    let c = b.count in
    record {
      have = λ l a. ap (λ (x : List LogStart). list_any (is_at l) x) qs ∙ b.have l (sym (ap (λ (x : List Edit). list_any (bytes_eq l) (locations_bound x)) qe) ∙ a);
      count = (let c0 : length (starts h) ≤ length (distinct bytes_eq (locations h)) + 0 = subst (λ (i : ℕ). length (starts h) ≤ length (distinct bytes_eq (locations h)) + i) w c in rw (qs, qe, qp) c0);
      fresh = λ t q. absurd (cc (qp, q));
    }

false_of : (b : Bool) → (b ≡ true → ⊥) → b ≡ false
false_of true f = absurd (f refl)
false_of false f = refl

-- an entry that loads a log
bounded_load : (h : List Entry) (e : Entry) (s : LogStart) → May h e → Bounded h → start_in e ≡ Some s → Bounded (h ++ e ∷ [])
bounded_load h e s m b is =
    let new = load_new h e.caller e.log e.act s is m.1 in
    let qe : edits (h ++ e ∷ []) ≡ edits h = quiet edit_in h e new.1 in
    let qs : starts (h ++ e ∷ []) ≡ starts h ++ s ∷ [] = loud start_in h e s is in
    let qp : pending (h ++ e ∷ []) ≡ Some s = pending_push h e ∙ is in
    let w : waits (pending h) ≡ 0 = ap waits (none_waits (pending h) e.act m.0 new.1) in
    let n : length (starts h ++ s ∷ []) ≡ length (starts h) + 1 = length-append (starts h) (s ∷ []) in
    let c = b.count in
    record {
      have = λ l a. ap (λ (x : List LogStart). list_any (is_at l) x) qs ∙ any_front (is_at l) (starts h) s (b.have l (sym (ap (λ (x : List Edit). list_any (bytes_eq l) (locations_bound x)) qe) ∙ a));
      count = (let c0 : length (starts h ++ s ∷ []) ≤ length (distinct bytes_eq (locations h)) + 1 = omega arith in rw (qs, qe, qp) c0);
      fresh = λ t q. (let same : s ≡ t = cc (qp, q) in
          ap (λ (x : List Edit). list_any (bytes_eq t.location) (locations_bound x)) qe ∙ false_of _ (λ a. cc (new.0, ap (λ (x : LogStart). has_log h x.location) same ∙ b.have t.location a)));
    }

cond_least : (b : Bool) (n : ℕ) → n ≤ cond b n (n + 1)
cond_least true n = omega arith
cond_least false n = omega arith

count_bound : (xs : List (List ℕ)) (l : List ℕ) (n : ℕ) (o : Option LogStart) → n ≤ length (distinct bytes_eq xs) + waits o → ((s : LogStart) → o ≡ Some s → list_any (bytes_eq l) xs ≡ false) → n ≤ length (distinct bytes_eq (xs ++ l ∷ []))
count_bound xs l n None c f = let d = distinct_length bytes_eq bytes_sym xs l in let m = cond_least (list_any (bytes_eq l) xs) (length (distinct bytes_eq xs)) in omega arith
count_bound xs l n (Some s) c f =
    let d : length (distinct bytes_eq (xs ++ l ∷ [])) ≡ length (distinct bytes_eq xs) + 1 = distinct_length bytes_eq bytes_sym xs l ∙ ap (λ (b : Bool). cond b (length (distinct bytes_eq xs)) (length (distinct bytes_eq xs) + 1)) (f s refl) in
    omega arith

-- an edit
bounded_edit : (h : List Entry) (e : Entry) (x : Edit) → May h e → Bounded h → edit_in e ≡ Some x → (o : Option (List ℕ)) → bound_location x ≡ o → Bounded (h ++ e ∷ [])
bounded_edit h e x m b is None q =
    let has = edit_has h e.caller e.log e.act x is m.1 in
    let qe : locations (h ++ e ∷ []) ≡ locations h = ap locations_bound (loud edit_in h e x is) ∙ quiet bound_location (edits h) x q in
    let qs : starts (h ++ e ∷ []) ≡ starts h = quiet start_in h e has.1 in
    let qp : pending (h ++ e ∷ []) ≡ None = pending_push h e ∙ has.1 in
    let w : pending h ≡ None = none_bound (pending h) e.act x m.0 is q in
    let c0 : length (starts h) ≤ length (distinct bytes_eq (locations h)) + 0 = subst (λ (i : Option LogStart). length (starts h) ≤ length (distinct bytes_eq (locations h)) + waits i) w b.count in
    record {
      have = λ l a. ap (λ (y : List LogStart). list_any (is_at l) y) qs ∙ b.have l (sym (ap (λ (y : List (List ℕ)). list_any (bytes_eq l) y) qe) ∙ a);
      count = rw (qs, qe, qp) c0;
      fresh = λ t r. absurd (cc (qp, r));
    }
  where
    none_bound : (o : Option LogStart) (a : Act) (y : Edit) → Follows o a → edit_of a ≡ Some y → bound_location y ≡ None → o ≡ None
    none_bound None a y f i n = refl
    none_bound (Some s) a y f i n = absurd (cc (n, binds_it s a y f i))
bounded_edit h e x m b is (Some l) q =
    let has = edit_has h e.caller e.log e.act x is m.1 in
    let logged : has_log h l ≡ true = subst (λ (o : Option (List ℕ)). IfSome o (λ y. has_log h y ≡ true)) q has.0 in
    let qe : locations (h ++ e ∷ []) ≡ locations h ++ l ∷ [] = ap locations_bound (loud edit_in h e x is) ∙ loud bound_location (edits h) x l q in
    let qs : starts (h ++ e ∷ []) ≡ starts h = quiet start_in h e has.1 in
    let qp : pending (h ++ e ∷ []) ≡ None = pending_push h e ∙ has.1 in
    let c0 : length (starts h) ≤ length (distinct bytes_eq (locations h ++ l ∷ [])) =
    count_bound (locations h) l (length (starts h)) (pending h) b.count (λ s r. (let same : Some l ≡ Some s.location = sym q ∙ binds_it s e.act x (subst (λ (o : Option LogStart). Follows o e.act) r m.0) is in let one : s.location ≡ l = cc same in subst (λ (y : List ℕ). list_any (bytes_eq y) (locations h) ≡ false) one (b.fresh s r))) in
    let c1 : length (starts h) ≤ length (distinct bytes_eq (locations h ++ l ∷ [])) + 0 = omega arith in
    record {
      have = λ y a. ap (λ (z : List LogStart). list_any (is_at y) z) qs
          ∙ elim (any_last (bytes_eq y) (locations h) l (sym (ap (λ (z : List (List ℕ)). list_any (bytes_eq y) z) qe) ∙ a)) [ inl w ↦ b.have y w | inr w ↦ subst (λ (z : List ℕ). has_log h z ≡ true) (sym (bytes_is y l w)) logged ];
      count = rw (qs, qe, qp) c1;
      fresh = λ t r. absurd (cc (qp, r));
    }

bounded_more : (h : List Entry) (e : Entry) → May h e → Bounded h → (o : Option LogStart) → start_in e ≡ o → (x : Option Edit) → edit_in e ≡ x → Bounded (h ++ e ∷ [])
bounded_more h e m b (Some s) is x n = bounded_load h e s m b is
bounded_more h e m b None is None n = bounded_quiet h e m b is n
bounded_more h e m b None is (Some x) n = bounded_edit h e x m b n (bound_location x) refl

bounded_by : (h front rest : List Entry) → h ≡ front ++ rest → IsLegal h → Bounded front → Bounded h
bounded_by h front [] is legal b = subst Bounded (sym (is ∙ append-nil front)) b
bounded_by h front (e ∷ rest) is legal b = bounded_by h (front ++ e ∷ []) rest (is ∙ sym (append_assoc front (e ∷ []) rest)) legal (bounded_more front e (legal front e rest is) b (start_in e) refl (edit_in e) refl)

bounded : (h : List Entry) → IsLegal h → Bounded h
bounded h legal = bounded_by h [] h refl legal (record { have = λ l a. absurd cc; count = omega arith; fresh = λ s q. absurd cc })

no_full : (m k t : Bool) (f : Option ℕ) → first_refusal m k t f ≡ None → f ≡ None
no_full true k t f e = absurd cc
no_full false true t f e = absurd cc
no_full false false true f e = absurd cc
no_full false false false None e = refl
no_full false false false (Some n) e = absurd cc

neither : (a b : Option ℕ) → option_or a b ≡ None → b ≡ None
neither None b e = e
neither (Some n) b e = absurd cc

not_met : (b : Bool) (n : ℕ) → b ≡ false → if◌then◌else◌ {A = Option ℕ} (not b && nat_le 32 n) (Some 32) None ≡ None → n < 32
not_met true n b e = absurd cc
not_met false n b e = elim (leb_tells 32 n) [ inl w ↦ absurd (cc (e, w.0)) | inr w ↦ (let w1 = w.1 in omega arith) ]

few_bound : (es : List Edit) (x : Edit) (l : List ℕ) → bound_location x ≡ Some l → refusal_of es x ≡ None → list_any (bytes_eq l) (locations_bound es) ≡ false → length (distinct bytes_eq (locations_bound es)) < 32
few_bound es (edit.NewShare n) l is r f = absurd cc
few_bound es (edit.DropShare n) l is r f = absurd cc
few_bound es (edit.Bind t b) l is r f =
    let same : b.location ≡ l = cc is in
    let none = neither (limit_met is_table 4096 t (tables_bound es)) (limit_met bytes_eq 32 b.location (locations_bound es)) (no_full (is_missing es (edit.Bind t b)) (is_taken es (edit.Bind t b)) (is_token_taken es (edit.Bind t b)) (limit_passed es (edit.Bind t b)) r) in
    not_met (list_any (bytes_eq b.location) (locations_bound es)) (length (distinct bytes_eq (locations_bound es))) (ap (λ (y : List ℕ). list_any (bytes_eq y) (locations_bound es)) same ∙ f) none
few_bound es (edit.Unbind t) l is r f = absurd cc
few_bound es (edit.NewRecipient n c) l is r f = absurd cc
few_bound es (edit.Rotate n c) l is r f = absurd cc
few_bound es (edit.DropRecipient n) l is r f = absurd cc
few_bound es (edit.Grant n m) l is r f = absurd cc
few_bound es (edit.Revoke n m) l is r f = absurd cc

pub room_for_log : (h : List Entry) (x : Edit) (l : List ℕ) → IsLegal h → pending h ≡ None → refusal_of (edits h) x ≡ None → bound_location x ≡ Some l → has_log h l ≡ false → length (starts h) < 32
room_for_log h x l legal p r is f =
    let b = bounded h legal in
    let new : list_any (bytes_eq l) (locations h) ≡ false = false_of _ (λ a. cc (f, b.have l a)) in
    let few = few_bound (edits h) x l is r new in
    let c : length (starts h) ≤ length (distinct bytes_eq (locations h)) + 0 = subst (λ (o : Option LogStart). length (starts h) ≤ length (distinct bytes_eq (locations h)) + waits o) p b.count in
    omega arith
