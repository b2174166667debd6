-- When a book may be left for the next caller, by what stands on a table's log.
use Rattle.std.proofs.Common.{◌≡◌, ℕ, ◌-◌, ◌<◌, ◌≤◌, ◌||◌, Bool, true, false, List, [], ◌∷◌, ◌++◌, length, get_or, nat_le, Option, Some, None, sym, refl, ap, ◌∙◌, subst, arith, inl, inr, append_assoc}
use Rattle.std.specs.Option.{is_none, is_some}
use Rattle.std.proofs.lemmas.Bool.{ne_eqb}
use Rattle.std.proofs.lemmas.Bool.Decides.{leb_tells}
use Rattle.std.proofs.lemmas.List.{get_or-set_same}
use Rattle.log_actions.specs.declared.actions.Action.{Action}
use Rattle.share_book.specs.declared.entry.Entry.{Entry}
use Rattle.share_book.specs.declared.entry.Act.TheVariants.{Begin, Found, Own, Blocked, Abort}
use Rattle.share_book.specs.BookView.{BookView}
use Rattle.share_book.specs.TableView.{TableLog}
use Rattle.share_book.specs.Pasts.{Raised}
use Rattle.share_book.specs.Books.{OthersRest, added, committed, has_commit_room, has_room, is_blocked, rests, rests_at}
use Rattle.share_book.specs.History.{entry, open_on, pending, start_in, starts, table_on}
use Rattle.share_book.specs.Legal.{IsKeptLog, TakesCommit, There}
use Rattle.share_book.proofs.Rests.{and_both, both_and, closed, others, pending_push, rests_by, rests_on, settled}
use Rattle.share_book.proofs.Words.{open_same, open_turned, quiet}
use Rattle.share_book.proofs.Bookkeeping.{nothing}
use Rattle.share_book.proofs.Pushes.{here}

le_true : (a b : ℕ) → a ≤ b → nat_le a b ≡ true
le_true a b l = elim (leb_tells a b) [ inl w ↦ w.0 | inr w ↦ (let w1 = w.1 in absurd (omega arith)) ]

le_of : (a b : ℕ) → nat_le a b ≡ true → a ≤ b
le_of a b e = elim (leb_tells a b) [ inl w ↦ w.1 | inr w ↦ absurd (cc (w.0, e)) ]

or_right : (a b : Bool) → b ≡ true → (a || b) ≡ true
or_right true b e = refl
or_right false b e = e

or_left : (a b : Bool) → a ≡ false → (a || b) ≡ true → b ≡ true
or_left true b e f = absurd cc
or_left false b e f = f

positive : (j : ℕ) → 0 < j → j ≡ 0 → ⊥
positive j p e = omega (arith, p, e)

table_room : (b : BookView) (j : ℕ) → 0 < j → has_room b j ≡ has_commit_room b j
table_room b j p = rw (ne_eqb j 0 (positive j p)) refl

opened : (o : Option ℕ) (k : ℕ) (b : Bool) → o ≡ Some k → (is_none o || b) ≡ true → b ≡ true
opened None k b e f = absurd cc
opened (Some x) k b e f = f

-- what a book that rests has for the one who has begun on a table's log
pub has_begun_on : (b : BookView) (j k : ℕ) → 0 < j → rests b ≡ true → j < length b.past.rooms → open_on j b.past.history ≡ Some k → (2 ≤ get_or b.past.rooms j 0) × (is_blocked (table_on j b.past.history) ≡ false → 1 ≤ get_or b.commit_rooms (j - 1) 0)
has_begun_on b j k p r n o =
    let h = and_both (nat_le 2 (get_or b.past.rooms j 0)) _ (sym (table_room b j p) ∙ opened _ k (has_room b j) o (rests_on b r j n)) in
    (le_of 2 _ h.0, λ u. le_of 1 _ (or_left _ _ u h.1))

room_on : (b : BookView) (j : ℕ) → 0 < j → 2 ≤ get_or b.past.rooms j 0 → 1 ≤ get_or b.commit_rooms (j - 1) 0 → rests_at b j ≡ true
room_on b j p r e = or_right (is_none (open_on j b.past.history)) (has_room b j) (table_room b j p ∙ both_and _ _ (le_true 2 _ r) (or_right _ _ (le_true 1 _ e)))

-- what is ready on a table's log rests
pub ready_rests_on : (b : BookView) (j : ℕ) → 0 < j → 2 ≤ get_or b.past.rooms j 0 → 1 ≤ get_or b.commit_rooms (j - 1) 0 → pending b.past.history ≡ None → OthersRest j b → rests b ≡ true
ready_rests_on b j p r e s o = rests_by b j s o (room_on b j p r e)

-- the room on a log after one entry
pub room_after : (b b' : BookView) (e : Entry) → b' ≡ added b e → e.log < length b.past.rooms → get_or b'.past.rooms e.log 0 ≡ get_or b.past.rooms e.log 0 - 1
room_after b b' e q n = ap (λ (x : BookView). get_or x.past.rooms e.log 0) q ∙ get_or-set_same b.past.rooms e.log (get_or b.past.rooms e.log 0 - 1) 0 n

module _ (b b' : BookView) (j : ℕ) where
  kept_at : 0 < j → Raised j b.past b'.past → ((i : ℕ) → get_or b.commit_rooms i 0 ≤ get_or b'.commit_rooms i 0) → rests_at b j ≡ true → (o : Option ℕ) → open_on j b.past.history ≡ o → rests_at b' j ≡ true
  kept_at p r l s None q = closed b' j (ap (open_on j) r.history ∙ q)
  kept_at p r l s (Some k) q = or_right (is_none (open_on j b'.past.history)) (has_room b' j) (table_room b' j p ∙
      (let h = and_both (nat_le 2 (get_or b.past.rooms j 0)) _ (sym (table_room b j p) ∙ opened _ k (has_room b j) q s) in
      let two = le_of 2 _ h.0 in let more = r.room in
      both_and _ _ (le_true 2 _ (omega arith)) (widened (is_blocked (table_on j b.past.history)) _ _ _ (ap (λ (x : List Entry). is_blocked (table_on j x)) r.history) (l (j - 1)) h.1)))
    where
      widened : (u v : Bool) (x y : ℕ) → v ≡ u → x ≤ y → (u || nat_le 1 x) ≡ true → (v || nat_le 1 y) ≡ true
      widened true v x y e m f = rw e refl
      widened false v x y e m f = let one = le_of 1 x f in or_right v (nat_le 1 y) (le_true 1 y (omega arith))

  -- a book rests also when memory was taken
  pub kept_on : 0 < j → Raised j b.past b'.past → ((i : ℕ) → get_or b.commit_rooms i 0 ≤ get_or b'.commit_rooms i 0) → (OthersRest j b → OthersRest j b') → j < length b.past.rooms → rests b ≡ true → rests b' ≡ true
  kept_on p r l o n s = rests_by b' j (ap pending r.history ∙ settled b s) (o (others b j s)) (kept_at p r l (rests_on b s j n) (open_on j b.past.history) refl)

  pub begun_rests_on : (k : ℕ) → 0 < j → (4 ≤ get_or b.past.rooms j 0) × (1 ≤ get_or b.commit_rooms (j - 1) 0) → j < length b.past.rooms → b' ≡ added b (entry k j Begin) → OthersRest j b' → rests b' ≡ true
  begun_rests_on k p r n q o =
      let room = room_after b b' (entry k j Begin) q n in
      let r0 = r.0 in
      rests_by b' j (ap (λ (x : BookView). pending x.past.history) q ∙ pending_push b.past.history (entry k j Begin)) o
      (room_on b' j p (omega arith) (subst (λ (x : BookView). 1 ≤ get_or x.commit_rooms (j - 1) 0) (sym q) r.1))

  pub aborted_rests_on : (k : ℕ) → b' ≡ added b (entry k j Abort) → OthersRest j b' → rests b' ≡ true
  aborted_rests_on k q o = rests_by b' j (ap (λ (x : BookView). pending x.past.history) q ∙ pending_push b.past.history (entry k j Abort)) o
      (closed b' j (ap (λ (x : BookView). open_on j x.past.history) q ∙ open_turned j b.past.history (entry k j Abort) None (here (entry k j Abort) (Some None))))

  pub own_rests_on : (k : ℕ) (c : List Action) → b' ≡ committed b k j true c → OthersRest j b' → rests b' ≡ true
  own_rests_on k c q o = rests_by b' j (ap (λ (x : BookView). pending x.past.history) q ∙ pending_push b.past.history (entry k j (Own c))) o
      (closed b' j (ap (λ (x : BookView). open_on j x.past.history) q ∙ open_turned j b.past.history (entry k j (Own c)) None (here (entry k j (Own c)) (Some None))))

-- what is left for the one who has begun, after an entry that doesn't end it
pub record Leaves (b b' : BookView) (j : ℕ) : Type 0 where
  pub room : 1 ≤ get_or b'.past.rooms j 0
  pub holder : open_on j b'.past.history ≡ open_on j b.past.history
  pub settled : pending b'.past.history ≡ None
  pub starts : starts b'.past.history ≡ starts b.past.history

pub found_leaves_on : (b b' : BookView) (k j : ℕ) (c : List Action) → 2 ≤ get_or b.past.rooms j 0 → j < length b.past.rooms → b' ≡ committed b k j false c → Leaves b b' j
found_leaves_on b b' k j c r n q =
    let e : Entry = entry k j (Found c) in
    let room : get_or b'.past.rooms j 0 ≡ get_or b.past.rooms j 0 - 1 = ap (λ (x : BookView). get_or x.past.rooms j 0) q ∙ get_or-set_same b.past.rooms j (get_or b.past.rooms j 0 - 1) 0 n in
    record {
      room = omega arith;
      holder = ap (λ (x : BookView). open_on j x.past.history) q ∙ open_same j b.past.history e (nothing j e);
      settled = ap (λ (x : BookView). pending x.past.history) q ∙ pending_push b.past.history e;
      starts = ap (λ (x : BookView). starts x.past.history) q ∙ quiet start_in b.past.history e refl;
    }

pub block_leaves : (b b' : BookView) (k j : ℕ) → 2 ≤ get_or b.past.rooms j 0 → j < length b.past.rooms → There (table_on j b.past.history) (λ t. b' ≡ added b (entry k j (Blocked (length t.commits)))) → Leaves b b' j
block_leaves b b' k j r n w = by_table (table_on j b.past.history) w
  where
    by_table : (o : Option TableLog) → There o (λ t. b' ≡ added b (entry k j (Blocked (length t.commits)))) → Leaves b b' j
    by_table None w = absurd w
    by_table (Some t) q =
        let e : Entry = entry k j (Blocked (length t.commits)) in
        let room = room_after b b' e q n in
        record {
          room = omega arith;
          holder = ap (λ (x : BookView). open_on j x.past.history) q ∙ open_same j b.past.history e (nothing j e);
          settled = ap (λ (x : BookView). pending x.past.history) q ∙ pending_push b.past.history e;
          starts = ap (λ (x : BookView). starts x.past.history) q ∙ quiet start_in b.past.history e refl;
        }

-- the block, and then the Abort
pub blocked_then : (b b' : BookView) (h : List Entry) (k j : ℕ) → There (table_on j b.past.history) (λ t. b' ≡ added b (entry k j (Blocked (length t.commits)))) → h ≡ b'.past.history ++ entry k j Abort ∷ []
    → There (table_on j b.past.history) (λ t. h ≡ b.past.history ++ entry k j (Blocked (length t.commits)) ∷ entry k j Abort ∷ [])
blocked_then b b' h k j w e = by_table (table_on j b.past.history) w
  where
    by_table : (o : Option TableLog) → There o (λ t. b' ≡ added b (entry k j (Blocked (length t.commits)))) → There o (λ t. h ≡ b.past.history ++ entry k j (Blocked (length t.commits)) ∷ entry k j Abort ∷ [])
    by_table None w = absurd w
    by_table (Some t) q = e ∙ (ap (λ (x : BookView). x.past.history ++ entry k j Abort ∷ []) q ∙ append_assoc b.past.history (entry k j (Blocked (length t.commits)) ∷ []) (entry k j Abort ∷ []))

takes_free : (o : Option TableLog) (c : List Action) → There o (λ t. (t.block ≡ None) × IsKeptLog (t.commits ++ c ∷ [])) → is_blocked o ≡ false
takes_free None c w = refl
takes_free (Some t) c w = ap is_some w.0

-- a log that takes a commit isn't blocked
pub takes_unblocked : (h : List Entry) (j : ℕ) (c : List Action) → TakesCommit h j c → is_blocked (table_on j h) ≡ false
takes_unblocked h j c w = takes_free (table_on j h) c w.1
