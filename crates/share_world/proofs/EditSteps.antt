-- An edit that the catalogue takes, and the log that is loaded for it.
use Rattle.std.proofs.Common.{◌≡◌, ℕ, ◌+◌, ◌-◌, ◌<◌, ◌≤◌, ◌==◌, ◌||◌, Bool, true, false, cond, List, [], ◌∷◌, ◌++◌, length, Option, Some, None, sym, refl, ap, ◌∙◌, subst, arith, bytes_eq, length-append}
use Rattle.std.specs.Prelude.{IfSome, is_some}
use Rattle.std.specs.List.{filter_map, list_any, position, slice_get}
use Rattle.std.specs.Option.{option_map}
use Rattle.std.proofs.lemmas.Bool.{eqb-true, eqb-false}
use Rattle.std.proofs.lemmas.List.{append-nil}
use Rattle.log_actions.specs.declared.actions.Action.{Action}
use Rattle.share_catalog.specs.Catalogue.{bound_location, distinct, locations_bound, refusal_of}
use Rattle.share_catalog.specs.declared.edit.Edit.{Edit}
use Rattle.share_catalog.proofs.KeyTests.{bytes_is, bytes_sym}
use Rattle.share_catalog.proofs.Words.{distinct_length}
use Rattle.share_book.specs.History as history
use Rattle.share_book.specs.History.{block_on, commit_on, edit_in, entry, first_block, grown, open_on, start_in, starts, table_on}
use Rattle.share_book.specs.Legal.{IsKeptLog, TakesLog, has_log, is_at}
use Rattle.share_book.specs.Views.{log_at, seen_log, whole_log}
use Rattle.share_book.specs.declared.entry.Act.TheVariants.{Begin, Load, OwnEdit}
use Rattle.share_book.specs.declared.entry.Entry.{Entry}
use Rattle.share_book.specs.declared.entry.LogStart.{LogStart}
use Rattle.share_book.proofs.Bookkeeping.{nothing, slice_get_left}
use Rattle.share_book.proofs.Growth.{position_goes_on}
use Rattle.share_book.proofs.Logs.{position_less}
use Rattle.share_book.proofs.Pushes.{here}
use Rattle.share_book.proofs.Rests.{pending_push}
use Rattle.share_book.proofs.Words.{loud, open_turned, quiet}
use Rattle.share_world.specs.Standing.{IsIdle, LoadFits, Stands, edited_history, start_of}
use Rattle.share_world.specs.Worlds.{commits_of, commits_with, edits_of, edits_with, log_of}
use Rattle.share_world.specs.declared.event.Event.{Event}
use Rattle.share_world.proofs.Few.{few_bound}
use Rattle.share_world.proofs.Histories.{log_placed, open_elsewhere, other_log, three_quiet, two_quiet}
use Rattle.share_world.proofs.Lists.{commits_more, edits_more}
use Rattle.share_world.proofs.Positions.{any_more, has_place, position_end}

abbrev starts_with : List Entry → Option LogStart → List LogStart
starts_with h None = starts h
starts_with h (Some s) = starts h ++ s ∷ []

-- ---- what the entries say

module _ (h : List Entry) (e : Edit) where
  starts_after : (load : Option LogStart) → starts (edited_history h load e) ≡ starts_with h load
  starts_after None = two_quiet start_in h (entry 0 0 Begin) (entry 0 0 (OwnEdit e)) refl refl
  starts_after (Some s) =
      quiet start_in ((h ++ entry 0 0 Begin ∷ []) ++ entry 0 0 (Load s) ∷ []) (entry 0 0 (OwnEdit e)) refl
      ∙ loud start_in (h ++ entry 0 0 Begin ∷ []) (entry 0 0 (Load s)) s refl
      ∙ ap (λ (l : List LogStart). l ++ s ∷ []) (quiet start_in h (entry 0 0 Begin) refl)

  edits_after : (load : Option LogStart) → history.edits (edited_history h load e) ≡ history.edits h ++ e ∷ []
  edits_after None = loud edit_in (h ++ entry 0 0 Begin ∷ []) (entry 0 0 (OwnEdit e)) e refl ∙ ap (λ (l : List Edit). l ++ e ∷ []) (quiet edit_in h (entry 0 0 Begin) refl)
  edits_after (Some s) =
      loud edit_in ((h ++ entry 0 0 Begin ∷ []) ++ entry 0 0 (Load s) ∷ []) (entry 0 0 (OwnEdit e)) e refl
      ∙ ap (λ (l : List Edit). l ++ e ∷ []) (two_quiet edit_in h (entry 0 0 Begin) (entry 0 0 (Load s)) refl refl)

  commits_after : (load : Option LogStart) (i : ℕ) → filter_map (commit_on i) (edited_history h load e) ≡ filter_map (commit_on i) h
  commits_after None i = two_quiet (commit_on i) h (entry 0 0 Begin) (entry 0 0 (OwnEdit e)) (nothing i (entry 0 0 Begin)) (nothing i (entry 0 0 (OwnEdit e)))
  commits_after (Some s) i = three_quiet (commit_on i) h (entry 0 0 Begin) (entry 0 0 (Load s)) (entry 0 0 (OwnEdit e)) (nothing i (entry 0 0 Begin)) (nothing i (entry 0 0 (Load s))) (nothing i (entry 0 0 (OwnEdit e)))

  blocks_after : (load : Option LogStart) (i : ℕ) → filter_map (block_on i) (edited_history h load e) ≡ filter_map (block_on i) h
  blocks_after None i = two_quiet (block_on i) h (entry 0 0 Begin) (entry 0 0 (OwnEdit e)) (nothing i (entry 0 0 Begin)) (nothing i (entry 0 0 (OwnEdit e)))
  blocks_after (Some s) i = three_quiet (block_on i) h (entry 0 0 Begin) (entry 0 0 (Load s)) (entry 0 0 (OwnEdit e)) (nothing i (entry 0 0 Begin)) (nothing i (entry 0 0 (Load s))) (nothing i (entry 0 0 (OwnEdit e)))

  ended : (front : List Entry) → open_on 0 (front ++ entry 0 0 (OwnEdit e) ∷ []) ≡ None
  ended front = open_turned 0 front (entry 0 0 (OwnEdit e)) None (here (entry 0 0 (OwnEdit e)) (Some None))

  closed_by : (load : Option LogStart) (i : ℕ) (b : Bool) → (i == 0) ≡ b → open_on i h ≡ None → open_on i (edited_history h load e) ≡ None
  closed_by None i true is none = subst (λ (n : ℕ). open_on n (edited_history h None e) ≡ None) (sym (eqb-true i 0 is)) (ended (h ++ entry 0 0 Begin ∷ []))
  closed_by (Some s) i true is none = subst (λ (n : ℕ). open_on n (edited_history h (Some s) e) ≡ None) (sym (eqb-true i 0 is)) (ended ((h ++ entry 0 0 Begin ∷ []) ++ entry 0 0 (Load s) ∷ []))
  closed_by None i false is none =
      let other = other_log i 0 (eqb-false i 0 is) in
      open_elsewhere i (h ++ entry 0 0 Begin ∷ []) (entry 0 0 (OwnEdit e)) other ∙ open_elsewhere i h (entry 0 0 Begin) other ∙ none
  closed_by (Some s) i false is none =
      let other = other_log i 0 (eqb-false i 0 is) in
      open_elsewhere i ((h ++ entry 0 0 Begin ∷ []) ++ entry 0 0 (Load s) ∷ []) (entry 0 0 (OwnEdit e)) other
      ∙ open_elsewhere i (h ++ entry 0 0 Begin ∷ []) (entry 0 0 (Load s)) other ∙ open_elsewhere i h (entry 0 0 Begin) other ∙ none

  settled_after : (load : Option LogStart) → history.pending (edited_history h load e) ≡ None
  settled_after None = pending_push (h ++ entry 0 0 Begin ∷ []) (entry 0 0 (OwnEdit e))
  settled_after (Some s) = pending_push ((h ++ entry 0 0 Begin ∷ []) ++ entry 0 0 (Load s) ∷ []) (entry 0 0 (OwnEdit e))

-- ---- the locations that are bound

-- how many logs there are with the load's
more_logs : (h : List Entry) (load : Option LogStart) → length (starts h) ≤ length (starts_with h load)
more_logs h None = omega arith
more_logs h (Some s) = let n : length (starts h ++ s ∷ []) ≡ length (starts h) + 1 = length-append (starts h) (s ∷ []) in omega arith

located_same : (p q : Bool) → (q ≡ true → p ≡ true) → (p || q) ≡ p
located_same true q f = refl
located_same false true f = absurd (cc (f refl))
located_same false false f = refl

module _ (h : List Entry) (e : Edit) (idle : IsIdle h) where
  bound_after : (o : Option (List ℕ)) → bound_location e ≡ o → (load : Option LogStart) → LoadFits h o load → (l : List ℕ) → list_any (is_at l) (starts_with h load) ≡ list_any (bytes_eq l) (locations_bound (history.edits h ++ e ∷ []))
  bound_after None is None fits l = idle.bound l ∙ ap (list_any (bytes_eq l)) (sym (quiet bound_location (history.edits h) e is))
  bound_after None is (Some s) fits l = absurd (cc fits.0)
  bound_after (Some place) is None fits l =
      let more : list_any (bytes_eq l) (locations_bound (history.edits h ++ e ∷ [])) ≡ (list_any (bytes_eq l) (locations_bound (history.edits h)) || bytes_eq l place) =
      ap (list_any (bytes_eq l)) (loud bound_location (history.edits h) e place is) ∙ any_more (bytes_eq l) (locations_bound (history.edits h)) place in
      let there : bytes_eq l place ≡ true → list_any (bytes_eq l) (locations_bound (history.edits h)) ≡ true = λ q. sym (idle.bound l) ∙ ap (has_log h) (bytes_is l place q) ∙ fits in
      idle.bound l ∙ sym (located_same (list_any (bytes_eq l) (locations_bound (history.edits h))) (bytes_eq l place) there) ∙ sym more
  bound_after (Some place) is (Some s) fits l =
      let one : place ≡ s.location = cc fits.0 in
      let more : list_any (bytes_eq l) (locations_bound (history.edits h ++ e ∷ [])) ≡ (list_any (bytes_eq l) (locations_bound (history.edits h)) || bytes_eq l place) =
      ap (list_any (bytes_eq l)) (loud bound_location (history.edits h) e place is) ∙ any_more (bytes_eq l) (locations_bound (history.edits h)) place in
      let same : bytes_eq s.location l ≡ bytes_eq l place = bytes_sym s.location l ∙ ap (bytes_eq l) (sym one) in
      let was : list_any (is_at l) (starts h) ≡ list_any (bytes_eq l) (locations_bound (history.edits h)) = idle.bound l in
      any_more (is_at l) (starts h) s ∙ (λ i. was i || same i) ∙ sym more

  count_after : (o : Option (List ℕ)) → bound_location e ≡ o → (load : Option LogStart) → LoadFits h o load → length (starts_with h load) ≡ length (distinct bytes_eq (locations_bound (history.edits h ++ e ∷ [])))
  count_after None is None fits = idle.count ∙ ap (λ (x : List (List ℕ)). length (distinct bytes_eq x)) (sym (quiet bound_location (history.edits h) e is))
  count_after None is (Some s) fits = absurd (cc fits.0)
  count_after (Some place) is None fits =
      let xs = locations_bound (history.edits h) in
      let known : list_any (bytes_eq place) xs ≡ true = sym (idle.bound place) ∙ fits in
      let n : length (distinct bytes_eq (xs ++ place ∷ [])) ≡ length (distinct bytes_eq xs) = distinct_length bytes_eq bytes_sym xs place ∙ ap (λ (b : Bool). cond b (length (distinct bytes_eq xs)) (length (distinct bytes_eq xs) + 1)) known in
      idle.count ∙ sym n ∙ ap (λ (x : List (List ℕ)). length (distinct bytes_eq x)) (sym (loud bound_location (history.edits h) e place is))
  count_after (Some place) is (Some s) fits =
      let xs = locations_bound (history.edits h) in
      let one : place ≡ s.location = cc fits.0 in
      let new : list_any (bytes_eq place) xs ≡ false = sym (idle.bound place) ∙ ap (has_log h) one ∙ fits.1 in
      let n : length (distinct bytes_eq (xs ++ place ∷ [])) ≡ length (distinct bytes_eq xs) + 1 = distinct_length bytes_eq bytes_sym xs place ∙ ap (λ (b : Bool). cond b (length (distinct bytes_eq xs)) (length (distinct bytes_eq xs) + 1)) new in
      length-append (starts h) (s ∷ []) ∙ ap (λ (k : ℕ). k + 1) idle.count ∙ sym n ∙ ap (λ (x : List (List ℕ)). length (distinct bytes_eq x)) (sym (loud bound_location (history.edits h) e place is))

  idle_after : (load : Option LogStart) → LoadFits h (bound_location e) load → IsIdle (edited_history h load e)
  idle_after load fits = record {
    settled = settled_after h e load;
    closed = λ i. closed_by h e load i (i == 0) refl (idle.closed i);
    beyond = λ i less.
        (let less' : length (starts_with h load) < i = subst (λ (l : List LogStart). length l < i) (starts_after h e load) less in
        let few = more_logs h load in
        let none = idle.beyond i (omega (arith, few, less')) in
        (commits_after h e load i ∙ none.0, blocks_after h e load i ∙ none.1));
    bound = λ l. ap (λ (x : List LogStart). list_any (is_at l) x) (starts_after h e load) ∙ bound_after (bound_location e) refl load fits l ∙ ap (λ (x : List Edit). list_any (bytes_eq l) (locations_bound x)) (sym (edits_after h e load));
    count = ap (λ (x : List LogStart). length x) (starts_after h e load) ∙ count_after (bound_location e) refl load fits ∙ ap (λ (x : List Edit). length (distinct bytes_eq (locations_bound x))) (sym (edits_after h e load));
  }

-- ---- the log that is loaded

fits_some : (h : List Entry) (o : Option (List ℕ)) (s : LogStart) → LoadFits h o (Some s) → (o ≡ Some s.location) × (has_log h s.location ≡ false) × IsKeptLog s.commits
fits_some h None s f = f
fits_some h (Some l) s f = f

-- after the Begin the book takes the log
pub takes_load : (h : List Entry) (e : Edit) (s : LogStart) → IsIdle h → refusal_of (history.edits h) e ≡ None → LoadFits h (bound_location e) (Some s) → TakesLog (h ++ entry 0 0 Begin ∷ []) 0 s
takes_load h e s idle admitted fits =
    let f = fits_some h (bound_location e) s fits in
    let qs : starts (h ++ entry 0 0 Begin ∷ []) ≡ starts h = quiet start_in h (entry 0 0 Begin) refl in
    let new : list_any (bytes_eq s.location) (locations_bound (history.edits h)) ≡ false = sym (idle.bound s.location) ∙ f.1 in
    let few : length (distinct bytes_eq (locations_bound (history.edits h))) < 32 = few_bound (history.edits h) e s.location f.0 admitted new in
    let less : length (starts h) < 32 = subst (λ (n : ℕ). n < 32) (sym idle.count) few in (
      refl,
      subst (λ (l : List LogStart). length l < 32) (sym qs) less,
      ap (λ (l : List LogStart). list_any (is_at s.location) l) qs ∙ f.1,
      f.2,
    )

pub takes_loads : (h h' : List Entry) (e : Edit) (load : Option LogStart) → IsIdle h → refusal_of (history.edits h) e ≡ None → LoadFits h (bound_location e) load → h' ≡ h ++ entry 0 0 Begin ∷ [] → IfSome load (TakesLog h' 0)
takes_loads h h' e None idle admitted fits is = tt
takes_loads h h' e (Some s) idle admitted fits is = subst (λ (x : List Entry). TakesLog x 0 s) (sym is) (takes_load h e s idle admitted fits)

-- ---- the logs

-- a log that was there is as it was
log_stays : (h : List Entry) (e : Edit) (load : Option LogStart) (l : List ℕ) (i : ℕ) → position (is_at l) (starts h) ≡ Some i → log_at (edited_history h load e) l ≡ log_at h l
log_stays h e None l i is =
    let qc = commits_after h e None (i + 1) in
    let qb = blocks_after h e None (i + 1) in
    let qs = starts_after h e None in
    log_placed (edited_history h None e) l (Some i) (ap (position (is_at l)) qs ∙ is) ∙ (λ k. seen_log (option_map (grown (qc k) (qb k)) (slice_get (qs k) (i + 1 - 1)))) ∙ sym (log_placed h l (Some i) is)
log_stays h e (Some s) l i is =
    let qc = commits_after h e (Some s) (i + 1) in
    let qb = blocks_after h e (Some s) (i + 1) in
    let qs = starts_after h e (Some s) in
    let less : i < length (starts h) = position_less (is_at l) (starts h) i is in
    let start : slice_get (starts (edited_history h (Some s) e)) (i + 1 - 1) ≡ slice_get (starts h) (i + 1 - 1) = ap (λ (x : List LogStart). slice_get x (i + 1 - 1)) qs ∙ slice_get_left (starts h) (s ∷ []) (i + 1 - 1) (omega (arith, less)) in
    log_placed (edited_history h (Some s) e) l (Some i) (ap (position (is_at l)) qs ∙ position_goes_on (is_at l) (starts h) (s ∷ []) i is)
    ∙ (λ k. seen_log (option_map (grown (qc k) (qb k)) (start k))) ∙ sym (log_placed h l (Some i) is)

at_end : (xs : List LogStart) (s : LogStart) → slice_get (xs ++ s ∷ []) (length xs) ≡ Some s
at_end [] s = refl
at_end (x ∷ xs) s = at_end xs s

-- the log that is loaded is as it was given
log_loaded : (h : List Entry) (e : Edit) (s : LogStart) (l : List ℕ) → IsIdle h → s.block ≡ None → position (is_at l) (starts h) ≡ None → is_at l s ≡ true → log_at (edited_history h (Some s) e) l ≡ whole_log s.commits false
log_loaded h e s l idle free none is =
    let n = length (starts h) in
    let qs = starts_after h e (Some s) in
    let beyond = idle.beyond (n + 1) (omega arith) in
    let qc : filter_map (commit_on (n + 1)) (edited_history h (Some s) e) ≡ [] = commits_after h e (Some s) (n + 1) ∙ beyond.0 in
    let qb : filter_map (block_on (n + 1)) (edited_history h (Some s) e) ≡ [] = blocks_after h e (Some s) (n + 1) ∙ beyond.1 in
    let number : n + 1 - 1 ≡ n = omega arith in
    let start : slice_get (starts (edited_history h (Some s) e)) (n + 1 - 1) ≡ Some s = ap (λ (x : List LogStart). slice_get x (n + 1 - 1)) qs ∙ ap (slice_get (starts h ++ s ∷ [])) number ∙ at_end (starts h) s in
    let commits : s.commits ++ [] ≡ s.commits = append-nil s.commits in
    let blocked : is_some (first_block s.block []) ≡ false = ap (λ (o : Option ℕ). is_some (first_block o [])) free in
    log_placed (edited_history h (Some s) e) l (Some n) (ap (position (is_at l)) qs ∙ position_end (is_at l) (starts h) s none is)
    ∙ (λ k. seen_log (option_map (grown (qc k) (qb k)) (start k))) ∙ (λ k. whole_log (commits k) (blocked k))

module _ (h : List Entry) (before : List Event) (ev : Event) (e : Edit) (s : Stands h before) (same : (log : List (List Action)) (l : List ℕ) → commits_with l log ev ≡ log) where
  was_log : (l : List ℕ) → log_of before l ≡ log_of (before ++ ev ∷ []) l
  was_log l = λ k. whole_log (sym (commits_more before ev l ∙ same (commits_of before l) l) k) false

  log_after : (load : Option LogStart) → ((x : LogStart) → load ≡ Some x → x ≡ start_of before x.location) → (l : List ℕ) (o : Option ℕ) → position (is_at l) (starts h) ≡ o → list_any (is_at l) (starts_with h load) ≡ true
      → log_at (edited_history h load e) l ≡ log_of (before ++ ev ∷ []) l
  log_after load given l (Some i) is has = log_stays h e load l i is ∙ s.logs l (has_place h l (Some i) is) ∙ was_log l
  log_after None given l None is has = absurd (cc (has_place h l None is, has))
  log_after (Some x) given l None is has =
      let none : list_any (is_at l) (starts h) ≡ false = has_place h l None is in
      let at : is_at l x ≡ true = sym (ap (λ (b : Bool). b || is_at l x) none) ∙ sym (any_more (is_at l) (starts h) x) ∙ has in
      let loaded : x ≡ start_of before x.location = given x refl in
      let free : x.block ≡ None = ap (λ (y : LogStart). y.block) loaded in
      let place : x.location ≡ l = bytes_is x.location l at in
      let commits : x.commits ≡ commits_of before l = ap (λ (y : LogStart). y.commits) loaded ∙ ap (commits_of before) place in
      log_loaded h e x l s.idle free is at ∙ (λ k. whole_log (commits k) false) ∙ was_log l

  pub edited_stands : (load : Option LogStart) → edits_with (edits_of before) ev ≡ edits_of before ++ e ∷ [] → LoadFits h (bound_location e) load → ((x : LogStart) → load ≡ Some x → x ≡ start_of before x.location) → Stands (edited_history h load e) (before ++ ev ∷ [])
  edited_stands load kept fits given = record {
    idle = idle_after h e s.idle load fits;
    edits = edits_after h e load ∙ ap (λ (x : List Edit). x ++ e ∷ []) s.edits ∙ sym (edits_more before ev ∙ kept);
    logs = λ l has. log_after load given l (position (is_at l) (starts h)) refl (sym (ap (λ (x : List LogStart). list_any (is_at l) x) (starts_after h e load)) ∙ has);
  }
