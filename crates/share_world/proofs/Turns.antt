-- A turn of the machine on one log of the book.
use Rattle.std.proofs.Common.{◌≡◌, ℕ, ◌-◌, ◌<◌, ◌≤◌, true, false, List, [], ◌∷◌, ◌++◌, length, get_or, set, Option, Some, None, Result, Err, sym, refl, ap, ◌∙◌, subst, arith, length-set}
use Rattle.std.specs.List.{list_any}
use Rattle.std.specs.Option.{IfSome}
use Rattle.std.specs.Prelude.{IsSome}
use Rattle.std.proofs.lemmas.List.{get_or_append_left, get_or-set_same}
use Rattle.log_actions.specs.declared.actions.Action.{Action}
use Rattle.share_catalog.specs.declared.edit.Edit.{Edit}
use Rattle.share_catalog.specs.Catalogue.{bound_location, refusal_of}
use Rattle.share_catalog.specs.CatalogState.{unless}
use Rattle.share_catalog.specs.declared.edit.EditRefusal.{EditRefusal}
use Rattle.share_catalog.proofs.KeyTests.{bytes_refl}
use Rattle.share_book.specs.BookView.{BookView}
use Rattle.share_book.specs.Books.{HasRooms, added, committed, edited, loaded}
use Rattle.share_book.specs.History as history
use Rattle.share_book.specs.History.{edit_in, entry, open_on, pending, start_in, starts, table_on}
use Rattle.share_book.specs.Legal.{Follows, IsKeptLog, TakesCommit, There, has_log, is_at}
use Rattle.share_book.specs.TableView.{TableLog}
use Rattle.share_book.specs.declared.entry.Act.TheVariants.{Begin, Found, Load, OwnEdit}
use Rattle.share_book.specs.declared.entry.Entry.{Entry}
use Rattle.share_book.specs.declared.entry.LogStart.{LogStart}
use Rattle.share_book.proofs.Bookkeeping.{nothing, table_same}
use Rattle.share_book.proofs.Pushes.{here}
use Rattle.share_book.proofs.Rests.{follows_none, pending_push}
use Rattle.share_book.proofs.Words.{loud, open_same, open_turned, quiet}
use Rattle.share_world.specs.Standing.{IsIdle, LoadFits, edited_history, loaded_by}
use Rattle.share_world.proofs.Positions.{any_end}

-- the machine has begun on a log, and there is room for so many entries more
pub record Holds (b : BookView) (j n : ℕ) : Type 0 where
  pub there : j < length b.past.rooms
  pub room : n ≤ get_or b.past.rooms j 0
  pub settled : pending b.past.history ≡ None
  pub holder : open_on j b.past.history ≡ Some 0

-- after the Begin
pub begun : (b b' : BookView) (j : ℕ) → j < length b.past.rooms → 4 ≤ get_or b.past.rooms j 0 → b' ≡ added b (entry 0 j Begin) → Holds b' j 3
begun b b' j there room is =
    let rooms : b'.past.rooms ≡ set b.past.rooms j (get_or b.past.rooms j 0 - 1) = ap (λ (x : BookView). x.past.rooms) is in
    let count : length b'.past.rooms ≡ length b.past.rooms = ap (λ (x : List ℕ). length x) rooms ∙ length-set b.past.rooms j (get_or b.past.rooms j 0 - 1) in
    let left : get_or b'.past.rooms j 0 ≡ get_or b.past.rooms j 0 - 1 = ap (λ (x : List ℕ). get_or x j 0) rooms ∙ get_or-set_same b.past.rooms j (get_or b.past.rooms j 0 - 1) 0 there in
    record {
      there = omega arith;
      room = omega arith;
      settled = ap (λ (x : BookView). pending x.past.history) is ∙ pending_push b.past.history (entry 0 j Begin);
      holder = ap (λ (x : BookView). open_on j x.past.history) is ∙ open_turned j b.past.history (entry 0 j Begin) (Some 0) (here (entry 0 j Begin) (Some (Some 0)));
    }

-- after a commit that was found
pub with_found : (b b' : BookView) (j : ℕ) (c : List Action) → Holds b j 3 → b' ≡ committed b 0 j false c → Holds b' j 2
with_found b b' j c w is =
    let there = w.there in
    let room = w.room in
    let rooms : b'.past.rooms ≡ set b.past.rooms j (get_or b.past.rooms j 0 - 1) = ap (λ (x : BookView). x.past.rooms) is in
    let count : length b'.past.rooms ≡ length b.past.rooms = ap (λ (x : List ℕ). length x) rooms ∙ length-set b.past.rooms j (get_or b.past.rooms j 0 - 1) in
    let left : get_or b'.past.rooms j 0 ≡ get_or b.past.rooms j 0 - 1 = ap (λ (x : List ℕ). get_or x j 0) rooms ∙ get_or-set_same b.past.rooms j (get_or b.past.rooms j 0 - 1) 0 there in
    record {
      there = omega arith;
      room = omega arith;
      settled = ap (λ (x : BookView). pending x.past.history) is ∙ pending_push b.past.history (entry 0 j (Found c));
      holder = ap (λ (x : BookView). open_on j x.past.history) is ∙ open_same j b.past.history (entry 0 j (Found c)) (nothing j (entry 0 j (Found c))) ∙ w.holder;
    }

-- none was open
pub not_held : (h h' : List Entry) (j : ℕ) → IsIdle h → h' ≡ h → IsSome (open_on j h') → ⊥
not_held h h' j idle same held = let none : IsSome {T = ℕ} None = subst (λ (o : Option ℕ). IsSome o) (ap (open_on j) same ∙ idle.closed j) held in cc none

there_same : (o o' : Option TableLog) (c : List Action) → o' ≡ o → There o (λ t. (t.block ≡ None) × IsKeptLog (t.commits ++ c ∷ [])) → There o' (λ t. (t.block ≡ None) × IsKeptLog (t.commits ++ c ∷ []))
there_same o o' c same w = subst (λ (x : Option TableLog). There x (λ t. (t.block ≡ None) × IsKeptLog (t.commits ++ c ∷ []))) (sym same) w

-- the log still takes the commit after the Begin
pub takes_begun : (h h' : List Entry) (j : ℕ) (c : List Action) → h' ≡ h ++ entry 0 j Begin ∷ [] → TakesCommit h j c → TakesCommit h' j c
takes_begun h h' j c is w = (w.0, there_same (table_on j h) (table_on j h') c (ap (table_on j) is ∙ table_same j h (entry 0 j Begin) refl (nothing j (entry 0 j Begin)) (nothing j (entry 0 j Begin))) w.1)

-- ---- an edit

-- the machine has begun on the catalogue, which takes the edit
pub record Ready (b : BookView) (h : List Entry) (e : Edit) : Type 0 where
  pub room : 0 < get_or b.past.rooms 0 0
  pub spare : 1 ≤ b.edit_room
  pub holder : open_on 0 b.past.history ≡ Some 0
  pub located : IfSome (bound_location e) (λ l. has_log b.past.history l ≡ true)
  pub follows : Follows (pending b.past.history) (OwnEdit e)
  pub edits : history.edits b.past.history ≡ history.edits h

located_none : (h h' : List Entry) (o : Option (List ℕ)) → starts h' ≡ starts h → LoadFits h o None → IfSome o (λ l. has_log h' l ≡ true)
located_none h h' None same fits = tt
located_none h h' (Some l) same fits = ap (λ (x : List LogStart). list_any (is_at l) x) same ∙ fits

pub ready_none : (h : List Entry) (b : BookView) (e : Edit) → Holds b 0 3 → 1 ≤ b.edit_room → b.past.history ≡ h ++ entry 0 0 Begin ∷ [] → LoadFits h (bound_location e) None → Ready b h e
ready_none h b e w spare is fits =
    let room = w.room in
    record {
      room = omega arith;
      spare = spare;
      holder = w.holder;
      located = located_none h b.past.history (bound_location e) (ap starts is ∙ quiet start_in h (entry 0 0 Begin) refl) fits;
      follows = follows_none (pending b.past.history) (OwnEdit e) w.settled;
      edits = ap history.edits is ∙ quiet edit_in h (entry 0 0 Begin) refl;
    }

located_some : (h' : List Entry) (o : Option (List ℕ)) (l : List ℕ) → o ≡ Some l → has_log h' l ≡ true → IfSome o (λ x. has_log h' x ≡ true)
located_some h' None l is has = tt
located_some h' (Some m) l is has = let same : m ≡ l = cc is in ap (has_log h') same ∙ has

binds_it : (o : Option (List ℕ)) (h : List Entry) (s : LogStart) → LoadFits h o (Some s) → o ≡ Some s.location
binds_it None h s fits = fits.0
binds_it (Some l) h s fits = fits.0

follows_load : (o : Option LogStart) (s : LogStart) (e : Edit) → o ≡ Some s → bound_location e ≡ Some s.location → Follows o (OwnEdit e)
follows_load None s e is binds = absurd (cc is)
follows_load (Some x) s e is binds = let same : x ≡ s = cc is in binds ∙ ap (λ (y : LogStart). Some y.location) (sym same)

pub ready_some : (h : List Entry) (b b' : BookView) (e : Edit) (s : LogStart) → Holds b 0 3 → 1 ≤ b.edit_room → b.past.history ≡ h ++ entry 0 0 Begin ∷ [] → LoadFits h (bound_location e) (Some s) → b' ≡ loaded b 0 s → Ready b' h e
ready_some h b b' e s w spare is fits loads =
    let front = b.past.history in
    let there = w.there in
    let room = w.room in
    let binds = binds_it (bound_location e) h s fits in
    let qh : b'.past.history ≡ front ++ entry 0 0 (Load s) ∷ [] = ap (λ (x : BookView). x.past.history) loads in
    let less : List ℕ = set b.past.rooms 0 (get_or b.past.rooms 0 0 - 1) in
    let rooms : b'.past.rooms ≡ less ++ 0 ∷ [] = ap (λ (x : BookView). x.past.rooms) loads in
    let count : length less ≡ length b.past.rooms = length-set b.past.rooms 0 (get_or b.past.rooms 0 0 - 1) in
    let left : get_or b'.past.rooms 0 0 ≡ get_or b.past.rooms 0 0 - 1 = ap (λ (x : List ℕ). get_or x 0 0) rooms ∙ get_or_append_left less (0 ∷ []) 0 0 (omega arith) ∙ get_or-set_same b.past.rooms 0 (get_or b.past.rooms 0 0 - 1) 0 there in
    record {
      room = omega arith;
      spare = subst (λ (x : BookView). 1 ≤ x.edit_room) (sym loads) spare;
      holder = ap (open_on 0) qh ∙ open_same 0 front (entry 0 0 (Load s)) refl ∙ w.holder;
      located = located_some b'.past.history (bound_location e) s.location binds
          (ap (λ (x : List Entry). has_log x s.location) qh ∙ ap (λ (x : List LogStart). list_any (is_at s.location) x) (loud start_in front (entry 0 0 (Load s)) s refl) ∙ any_end (is_at s.location) (starts front) s (bytes_refl s.location));
      follows = follows_load (pending b'.past.history) s e (ap pending qh ∙ pending_push front (entry 0 0 (Load s))) binds;
      edits = ap history.edits qh ∙ quiet edit_in front (entry 0 0 (Load s)) refl ∙ ap history.edits is ∙ quiet edit_in h (entry 0 0 Begin) refl;
    }

-- the machine has begun on the catalogue
pub record Begun (b : BookView) (h : List Entry) : Type 0 where
  pub holds : Holds b 0 3
  pub spare : 1 ≤ b.edit_room
  pub line : 1 ≤ b.past.log_room
  pub history : b.past.history ≡ h ++ entry 0 0 Begin ∷ []

pub begun_edit : (b b' : BookView) (h : List Entry) → 0 < length b.past.rooms → HasRooms b → b.past.history ≡ h → b' ≡ added b (entry 0 0 Begin) → Begun b' h
begun_edit b b' h there rooms same is = record {
  holds = begun b b' 0 there rooms.entries is;
  spare = subst (λ (x : BookView). 1 ≤ x.edit_room) (sym is) rooms.edit;
  line = subst (λ (x : BookView). 1 ≤ x.past.log_room) (sym is) rooms.log;
  history = ap (λ (x : BookView). x.past.history) is ∙ ap (λ (l : List Entry). l ++ entry 0 0 Begin ∷ []) same;
}

-- with the log that the edit needs
pub ready_by : (h : List Entry) (b b' : BookView) (e : Edit) (load : Option LogStart) → Begun b h → LoadFits h (bound_location e) load → b' ≡ loaded_by load b → Ready b' h e
ready_by h b b' e None w fits is = subst (λ (x : BookView). Ready x h e) (sym is) (ready_none h b e w.holds w.spare w.history fits)
ready_by h b b' e (Some s) w fits is = ready_some h b b' e s w.holds w.spare w.history fits is

-- the catalogue takes the edit
pub accepted : (h : List Entry) (b : BookView) (e : Edit) (r : Result (Unit {0}) EditRefusal) (x : EditRefusal) → Ready b h e → refusal_of (history.edits h) e ≡ None → r ≡ unless (refusal_of (history.edits b.past.history) e) → r ≡ Err x → ⊥
accepted h b e r x w admitted answer is =
    let q : unless (Some x) ≡ unless None = sym is ∙ answer ∙ ap (λ (es : List Edit). unless (refusal_of es e)) w.edits ∙ ap unless admitted in
    cc q

pub edited_is : (h : List Entry) (b b' b'' : BookView) (load : Option LogStart) (e : Edit) → b.past.history ≡ h ++ entry 0 0 Begin ∷ [] → b' ≡ loaded_by load b → b'' ≡ edited b' 0 true e → b''.past.history ≡ edited_history h load e
edited_is h b b' b'' None e is loads edits =
    ap (λ (x : BookView). x.past.history) edits ∙ ap (λ (x : BookView). x.past.history ++ entry 0 0 (OwnEdit e) ∷ []) loads ∙ ap (λ (l : List Entry). l ++ entry 0 0 (OwnEdit e) ∷ []) is
edited_is h b b' b'' (Some s) e is loads edits =
    ap (λ (x : BookView). x.past.history) edits ∙ ap (λ (x : BookView). x.past.history ++ entry 0 0 (OwnEdit e) ∷ []) loads ∙ ap (λ (l : List Entry). (l ++ entry 0 0 (Load s) ∷ []) ++ entry 0 0 (OwnEdit e) ∷ []) is
