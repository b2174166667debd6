-- Memory that is taken for a table's log.
use Rattle.std.proofs.Common.{◌≡◌, ℕ, ◌-◌, ◌<◌, ◌≤◌, List, length, get_or, set, map, sym, refl, ap, ◌∙◌, subst, arith, inl, inr, length-set}
use Rattle.std.specs.List.{filter_map, slice_get}
use Rattle.std.specs.Option.{option_map}
use Rattle.std.proofs.lemmas.Bool.Decides.{eqb_tells}
use Rattle.std.proofs.lemmas.List.{get_or-map, get_or-set_same, get_or-set_other, length-map, map-set}
use Rattle.std.proofs.lemmas.Option.{slice_get-map}
use Rattle.std.proofs.Math.Seq.{map-set_same}
use Rattle.share_catalog.specs.declared.edit.Edit.{Edit}
use Rattle.share_book.specs.declared.entry.Entry.{Entry}
use Rattle.share_book.specs.History.{block_on, commit_on, edits, open_on, starts, table_on}
use Rattle.share_book.specs.TableView.{TableLog, TableView}
use Rattle.share_book.specs.PastView.{PastView}
use Rattle.share_book.specs.BookView.{BookView}
use Rattle.share_book.specs.Pasts.{Raised}
use Rattle.share_book.specs.Books.{IsBook, OthersRest, room_left}
use Rattle.share_book.proofs.Bookkeeping.{rests_same}

-- nothing was taken
pub raised_self : (j : ℕ) (p : PastView) → Raised j p p
raised_self j p = record { history = refl; count = refl; room = omega arith; others = λ i n. refl }

module _ (tables : List TableView) (k : ℕ) (t t' : TableView) where
  logs_same : t ≡ get_or tables k t → t'.log ≡ t.log → (i : ℕ) → option_map (λ (x : TableView). x.log) (slice_get (set tables k t') i) ≡ option_map (λ (x : TableView). x.log) (slice_get tables i)
  logs_same is same i =
      sym (slice_get-map (λ (x : TableView). x.log) (set tables k t') i)
      ∙ ap (λ (l : List TableLog). slice_get l i) (map-set_same (λ (x : TableView). x.log) tables k t' t (same ∙ ap (λ (x : TableView). x.log) is))
      ∙ slice_get-map (λ (x : TableView). x.log) tables i

  rooms_are : map room_left (set tables k t') ≡ set (map room_left tables) k t'.room
  rooms_are = map-set room_left tables k t'

  within : k < length tables → k < length (map room_left tables)
  within lt = subst (λ (n : ℕ). k < n) (sym (length-map tables room_left)) lt

  pub room_here : k < length tables → get_or (map room_left (set tables k t')) k 0 ≡ t'.room
  room_here lt = ap (λ (l : List ℕ). get_or l k 0) rooms_are ∙ get_or-set_same (map room_left tables) k t'.room 0 (within lt)

  pub room_there : (i : ℕ) → (i ≡ k → ⊥) → get_or (map room_left (set tables k t')) i 0 ≡ get_or (map room_left tables) i 0
  room_there i n = ap (λ (l : List ℕ). get_or l i 0) rooms_are ∙ get_or-set_other (map room_left tables) k i t'.room 0 n

  pub rooms_more : k < length tables → t ≡ get_or tables k t → t.room ≤ t'.room → (i : ℕ) → get_or (map room_left tables) i 0 ≤ get_or (map room_left (set tables k t')) i 0
  rooms_more lt is more i = elim (eqb_tells i k) [
    | inl w ↦
        (let old : get_or (map room_left tables) k 0 ≡ t.room = get_or-map room_left tables k t 0 lt ∙ ap room_left (sym is) in
        let new = room_here lt in
        let here : get_or (map room_left tables) k 0 ≤ get_or (map room_left (set tables k t')) k 0 = omega (arith, old, new, more) in
        subst (λ (n : ℕ). get_or (map room_left tables) n 0 ≤ get_or (map room_left (set tables k t')) n 0) (sym w.1) here)
    | inr w ↦ (let there = room_there i w.1 in omega (arith, there))
  ]

module _ (p p' : PastView) (es : List Edit) (tables : List TableView) (tl tc j : ℕ) (t t' : TableView) where
  -- the book is as it was
  pub book_raised : Raised j p p' → p'.log_room ≡ p.log_room → t ≡ get_or tables (j - 1) t → t'.log ≡ t.log → IsBook p es tables tl tc → IsBook p' es (set tables (j - 1) t') tl tc
  book_raised r l is same b = record {
    catalogue = b.catalogue ∙ ap edits (sym r.history);
    count = length-set tables (j - 1) t' ∙ b.count ∙ ap (λ (h : List Entry). length (starts h)) (sym r.history);
    logs = λ i lt. logs_same tables (j - 1) t t' is same (i - 1) ∙ b.logs i lt ∙ ap (table_on i) (sym r.history);
    beyond = λ i lt. let m = b.beyond i (subst (λ (h : List Entry). length (starts h) < i) r.history lt) in
        (ap (λ (h : List Entry). filter_map (commit_on i) h) r.history ∙ m.0, ap (λ (h : List Entry). filter_map (block_on i) h) r.history ∙ m.1);
    fits = (let f = b.fits in omega (arith, f, l));
  }

module _ (b b' : BookView) (j : ℕ) where
  -- the other logs rest as before
  pub others_raised : Raised j b.past b'.past → b'.past.log_room ≡ b.past.log_room → b'.edit_room ≡ b.edit_room → ((i : ℕ) → (i ≡ j - 1 → ⊥) → get_or b'.commit_rooms i 0 ≡ get_or b.commit_rooms i 0) → 0 < j → OthersRest j b → OthersRest j b'
  others_raised r l e c pos o = λ i lt n.
      let k : i < length b.past.rooms = subst (λ (m : ℕ). i < m) r.count lt in
      rests_same b b' i (ap (open_on i) r.history) (r.others i n) (ap (table_on i) r.history) (λ z. c (i - 1) (λ q. n (omega (arith, pos, q, z)))) (λ z. (e, l)) ∙ o i k n
