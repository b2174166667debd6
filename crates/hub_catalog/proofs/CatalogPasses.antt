-- What a turn on the catalogue does to a pass.
use Rattle.std.proofs.Common.{◌≡◌, ℕ, List, [], ◌∷◌, ◌++◌, length, Option, Some, None, sym, refl, ap, ◌∙◌, subst, append_assoc}
use Rattle.std.specs.List.{list_any}
use Rattle.std.proofs.lemmas.List.{append-nil}
use Rattle.share_catalog.specs.declared.edit.Edit.{Edit}
use Rattle.share_catalog.specs.Catalogue.{bound_location}
use Rattle.share_book.specs.declared.entry.Entry.{Entry}
use Rattle.share_book.specs.declared.entry.LogStart.{LogStart}
use Rattle.share_book.specs.declared.entry.Act.{Act}
use Rattle.share_book.specs.declared.entry.Act.TheVariants.{Begin, FoundEdit, Load, Abort}
use Rattle.share_book.specs.History.{caller_of, edit_in, edits, entry, open_on, starts}
use Rattle.share_book.specs.Legal.{IsLegal, is_at}
use Rattle.share_book.proofs.Words.{loud, open_same, open_turned, quiet}
use Rattle.turn_cell.specs.Entries.{AllBy, Extends}
use Rattle.hub_catalog.specs.declared.catalog_turns.Opened.{Opened}
use Rattle.hub_catalog.specs.declared.catalog_turns.Opened.TheVariants as opened
use Rattle.hub_catalog.specs.declared.catalog_turns.Published.{Published}
use Rattle.hub_catalog.specs.declared.catalog_turns.Published.TheVariants as published
use Rattle.hub_catalog.specs.CatalogTurns.{LoadFits, Opens, Publishes, load_entries, loading, located_by}
use Rattle.hub_calls.specs.Calls.{IsIdle, P}
use Rattle.hub_catalog.specs.CatalogCalls.{Begins, Finds, Goes, Stops}
use Rattle.hub_calls.proofs.Passes.{Gave, Took, adds, idle, stands}
use Rattle.hub_catalog.proofs.Loads.{loaded_then}

opened_by : (r : Opened) (k : ℕ) (h h' : List Entry) → Opens r k h h' → (own : List Entry) × (h' ≡ h ++ own)
opened_by (opened.Open n) k h h' o = (entry k 0 Begin ∷ [], o.0)
opened_by opened.Held k h h' o = ([], o.0 ∙ sym (append-nil h))
opened_by opened.NoMemory k h h' o = ([], o ∙ sym (append-nil h))

pub begins_idle : (r : Opened) (p t q : P) (k : ℕ) (h h' : List Entry) → Opens r k h h' → h ≡ t.seen → Took p t → Gave t q h' → IsIdle p q
begins_idle r p t q k h h' o s a b = let w = opened_by r k h h' o in idle p t q h' w.0 a b (w.1 ∙ ap (λ l. l ++ w.0) s)

pub begins : (r : Opened) (p t q : P) (k : ℕ) (h h' : List Entry) → k ≡ p.number → Opens r k h h' → h ≡ t.seen → Took p t → Gave t q h' → Begins r p q
begins (opened.Open n) p t q k h h' m o s a b =
    let e : h' ≡ t.seen ++ entry p.number 0 Begin ∷ [] = o.0 ∙ (λ i. s i ++ entry (m i) 0 Begin ∷ []) in
    let same : edits q.seen ≡ edits t.seen = ap edits (b.seen ∙ e) ∙ quiet edit_in t.seen (entry p.number 0 Begin) refl in (
      t.seen,
      record {
        after = a.seen;
        last = b.seen ∙ e;
        added = adds p t q h' (entry p.number 0 Begin ∷ []) a b e;
        begun = record {
          holder = ap (open_on 0) (b.seen ∙ e) ∙ (open_turned 0 t.seen (entry p.number 0 Begin) (Some p.number) refl ∙ ap (λ (i : ℕ). Some i) (sym (b.same.1 ∙ a.same.1)));
          count = o.1 ∙ ap (λ (l : List Entry). length (edits l)) s ∙ ap (λ (l : List Edit). length l) (sym same);
        };
        edits = same;
      },
    )
begins opened.Held p t q k h h' m o s a b = adds p t q h' [] a b (o.0 ∙ (s ∙ sym (append-nil _)))
begins opened.NoMemory p t q k h h' m o s a b = adds p t q h' [] a b (o ∙ (s ∙ sym (append-nil _)))

edits_load : (h : List Entry) (k : ℕ) (l : Option LogStart) → edits (h ++ load_entries k l) ≡ edits h
edits_load h k None = ap edits (append-nil h)
edits_load h k (Some s) = quiet edit_in h (entry k 0 (Load s)) refl

open_load : (h : List Entry) (k : ℕ) (l : Option LogStart) → open_on 0 (h ++ load_entries k l) ≡ open_on 0 h
open_load h k None = ap (open_on 0) (append-nil h)
open_load h k (Some s) = open_same 0 h (entry k 0 (Load s)) refl

pub edits_found : (h : List Entry) (k : ℕ) (l : Option LogStart) (x : Edit) → edits (h ++ loading k l (FoundEdit x)) ≡ edits h ++ x ∷ []
edits_found h k l x = ap edits (sym (loaded_then h k l (FoundEdit x))) ∙ (loud edit_in (h ++ load_entries k l) (entry k 0 (FoundEdit x)) x refl ∙ ap (λ (y : List Edit). y ++ x ∷ []) (edits_load h k l))

pub open_found : (h : List Entry) (k : ℕ) (l : Option LogStart) (x : Edit) → open_on 0 (h ++ loading k l (FoundEdit x)) ≡ open_on 0 h
open_found h k l x = ap (open_on 0) (sym (loaded_then h k l (FoundEdit x))) ∙ (open_same 0 (h ++ load_entries k l) (entry k 0 (FoundEdit x)) refl ∙ open_load h k l)

-- the entry that ends what the caller began, perhaps after a log
pub stops : (p t q : P) (h : List Entry) (l : Option LogStart) (x : Act) → Took p t → Gave t q h → IsLegal t.seen → open_on 0 p.seen ≡ Some p.number → (k : ℕ) → k ≡ p.number → h ≡ t.seen ++ loading k l x → Stops p q [] l x
stops p t q h l x a b legal o k n e =
    let e' : h ≡ t.seen ++ loading p.number l x = e ∙ ap (λ (i : ℕ). t.seen ++ loading i l x) n in
    record {
      added = adds p t q h (loading p.number l x) a b e';
      before = t.seen ++ load_entries p.number l;
      last = b.seen ∙ (e' ∙ sym (loaded_then t.seen p.number l x));
      edits = edits_load t.seen p.number l ∙ ((stands p t a legal o).edits ∙ sym (append-nil _));
    }

-- a turn in which nothing is added
pub goes : (p t q : P) (h : List Entry) → Took p t → Gave t q h → IsLegal t.seen → open_on 0 p.seen ≡ Some p.number → h ≡ t.seen → Goes p q []
goes p t q h a b legal o e =
    let s = stands p t a legal o in
    record {
      added = adds p t q h [] a b (e ∙ sym (append-nil _));
      holder = ap (open_on 0) (b.seen ∙ e) ∙ (s.holder ∙ ap (λ (i : ℕ). Some i) (sym (b.same.1 ∙ a.same.1)));
      edits = ap edits (b.seen ∙ e) ∙ (s.edits ∙ sym (append-nil _));
    }

published_by : (r : Published) (k : ℕ) (x : Edit) (l : Option LogStart) (h h' : List Entry) → Publishes r k x l h h' → (own : List Entry) × (h' ≡ h ++ own)
published_by (published.Open n) k x l h h' o = (loading k l (FoundEdit x), o.0)
published_by published.NoMemory k x l h h' o = (loading k l (FoundEdit x) ++ entry k 0 Abort ∷ [], o)

-- what a published edit leaves
pub publishes_idle : (r : Published) (p t q : P) (k : ℕ) (x : Edit) (l : Option LogStart) (h h' : List Entry) → Publishes r k x l h h' → h ≡ t.seen → Took p t → Gave t q h' → IsIdle p q
publishes_idle r p t q k x l h h' o s a b = let w = published_by r k x l h h' o in idle p t q h' w.0 a b (w.1 ∙ ap (λ y. y ++ w.0) s)

pub publishes : (r : Published) (p t q : P) (k : ℕ) (x : Edit) (l : Option LogStart) (h h' : List Entry) → k ≡ p.number → Publishes r k x l h h' → h ≡ t.seen → Took p t → Gave t q h' → IsLegal t.seen → open_on 0 p.seen ≡ Some p.number → Finds r (record { load = l; edit = x }) p q
publishes (published.Open n) p t q k x l h h' m o s a b legal w =
    let e : h' ≡ t.seen ++ loading p.number l (FoundEdit x) = o.0 ∙ (λ i. s i ++ loading (m i) l (FoundEdit x)) in
    let z = stands p t a legal w in (
      record {
        added = adds p t q h' (loading p.number l (FoundEdit x) ++ []) a b (e ∙ ap (λ (y : List Entry). t.seen ++ y) (sym (append-nil (loading p.number l (FoundEdit x)))));
        holder = ap (open_on 0) (b.seen ∙ e) ∙ (open_found t.seen p.number l x ∙ (z.holder ∙ ap (λ (i : ℕ). Some i) (sym (b.same.1 ∙ a.same.1))));
        edits = ap edits (b.seen ∙ e) ∙ (edits_found t.seen p.number l x ∙ ap (λ (y : List Edit). y ++ x ∷ []) z.edits);
      },
      o.1 ∙ ap (λ (y : List Entry). length (edits y)) (sym b.seen),
    )
publishes published.NoMemory p t q k x l h h' m o s a b legal w =
    let e : h' ≡ t.seen ++ (loading p.number l (FoundEdit x) ++ entry p.number 0 Abort ∷ []) = o ∙ (λ i. s i ++ (loading (m i) l (FoundEdit x) ++ entry (m i) 0 Abort ∷ [])) in
    let z = stands p t a legal w in
    let own : List Entry = loading p.number l (FoundEdit x) in
    record {
      added = adds p t q h' ((own ++ []) ++ entry p.number 0 Abort ∷ []) a b (e ∙ ap (λ (y : List Entry). t.seen ++ (y ++ entry p.number 0 Abort ∷ [])) (sym (append-nil own)));
      before = t.seen ++ own;
      last = b.seen ∙ (e ∙ sym (append_assoc t.seen own (entry p.number 0 Abort ∷ [])));
      edits = edits_found t.seen p.number l x ∙ ap (λ (y : List Edit). y ++ x ∷ []) z.edits;
    }

located_by_same : (h h' : List Entry) (o : Option (List ℕ)) → starts h' ≡ starts h → located_by h' o ≡ located_by h o
located_by_same h h' None s = refl
located_by_same h h' (Some l) s = ap (λ (x : List LogStart). list_any (is_at l) x) s

-- the log that an edit needs is the same where the same logs are there
pub fits_same : (h h' : List Entry) (x : Edit) (l : Option LogStart) → starts h' ≡ starts h → LoadFits h x l → LoadFits h' x l
fits_same h h' x None s f = located_by_same h h' (bound_location x) s ∙ f
fits_same h h' x (Some t) s f = (f.0, ap (λ (y : List LogStart). list_any (is_at t.location) y) s ∙ f.1, f.2)

-- what the caller added is its own
pub own_loading : (k i : ℕ) (l : Option LogStart) (x : Act) (ys : List Entry) → i ≡ k → AllBy caller_of k ys → AllBy caller_of k (loading i l x ++ ys)
own_loading k i None x ys n a = (n, a)
own_loading k i (Some s) x ys n a = (n, (n, a))

pub publishes_own : (r : Published) (p t : P) (k : ℕ) (x : Edit) (l : Option LogStart) (h h' : List Entry) → Publishes r k x l h h' → h ≡ t.seen → t.number ≡ p.number → k ≡ p.number → Extends caller_of t.number t.seen h'
publishes_own (published.Open n) p t k x l h h' o s m n' = (loading k l (FoundEdit x), o.0 ∙ ap (λ (y : List Entry). y ++ loading k l (FoundEdit x)) s, subst (AllBy caller_of t.number) (append-nil (loading k l (FoundEdit x))) (own_loading t.number k l (FoundEdit x) [] (n' ∙ sym m) tt))
publishes_own published.NoMemory p t k x l h h' o s m n' = (loading k l (FoundEdit x) ++ entry k 0 Abort ∷ [], o ∙ ap (λ (y : List Entry). y ++ (loading k l (FoundEdit x) ++ entry k 0 Abort ∷ [])) s, own_loading t.number k l (FoundEdit x) (entry k 0 Abort ∷ []) (n' ∙ sym m) (n' ∙ sym m, tt))

pub owns : (p t : P) (k : ℕ) (x : Act) (l : Option LogStart) (h h' : List Entry) → h' ≡ h ++ loading k l x → h ≡ t.seen → t.number ≡ p.number → k ≡ p.number → Extends caller_of t.number t.seen h'
owns p t k x l h h' o s m n = (loading k l x, o ∙ ap (λ (y : List Entry). y ++ loading k l x) s, subst (AllBy caller_of t.number) (append-nil (loading k l x)) (own_loading t.number k l x [] (n ∙ sym m) tt))

pub owns_idle : (p t q : P) (k : ℕ) (x : Act) (l : Option LogStart) (h h' : List Entry) → h' ≡ h ++ loading k l x → h ≡ t.seen → Took p t → Gave t q h' → IsIdle p q
owns_idle p t q k x l h h' o s a b = idle p t q h' (loading k l x) a b (o ∙ ap (λ (y : List Entry). y ++ loading k l x) s)
