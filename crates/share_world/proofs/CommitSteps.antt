-- A commit, and the log that it stands on.
use Rattle.std.proofs.Common.{◌≡◌, ◌≢◌, ℕ, ◌+◌, ◌-◌, ◌<◌, ◌≤◌, ◌==◌, Bool, true, false, List, [], ◌∷◌, ◌++◌, length, get_or, Option, Some, None, sym, refl, ap, ◌∙◌, subst, arith, append_assoc, bytes_eq, if◌then◌else◌}
use Rattle.std.specs.Prelude.{is_some}
use Rattle.std.specs.List.{filter_map, list_any, position, slice_get}
use Rattle.std.specs.Option.{option_map}
use Rattle.std.proofs.lemmas.Bool.{eqb-true, eqb-false}
use Rattle.std.proofs.lemmas.List.Quantifiers.{position-Some}
use Rattle.log_actions.specs.declared.actions.Action.{Action}
use Rattle.share_catalog.specs.Catalogue.{distinct, locations_bound}
use Rattle.share_catalog.specs.declared.edit.Edit.{Edit}
use Rattle.share_catalog.proofs.KeyTests.{bytes_is, bytes_refl}
use Rattle.share_book.specs.History as history
use Rattle.share_book.specs.History.{block_on, commit_on, edit_in, entry, grown, open_on, pending, start_in, starts, table_on}
use Rattle.share_book.specs.Legal.{has_log, is_at}
use Rattle.share_book.specs.TableView.{TableLog}
use Rattle.share_book.specs.Views.{Log, log_at, seen_log, whole_log}
use Rattle.share_book.specs.declared.entry.Act.TheVariants.{Abort, Begin, Found}
use Rattle.share_book.specs.declared.entry.Entry.{Entry}
use Rattle.share_book.specs.declared.entry.LogStart.{LogStart}
use Rattle.share_book.proofs.Bookkeeping.{nothing}
use Rattle.share_book.proofs.Pushes.{here}
use Rattle.share_book.proofs.Rests.{pending_push}
use Rattle.share_book.proofs.Words.{loud, open_turned, quiet}
use Rattle.share_world.specs.Standing.{IsIdle, Stands, committed_history}
use Rattle.share_world.specs.Worlds.{commits_of, commits_with, edits_of, edits_with, log_of, takes, with_commit}
use Rattle.share_world.specs.declared.event.Event.{Event}
use Rattle.share_world.proofs.Choices.{by_false, by_true}
use Rattle.share_world.proofs.Histories.{commit_elsewhere, log_placed, open_elsewhere, other_log, three_quiet}
use Rattle.share_world.proofs.Lists.{commits_more, edits_more}
use Rattle.share_world.proofs.Positions.{has_place, no_place}

-- ---- what is passed over

-- an event that changes neither edits nor a log that is there
pub passed_over : (h : List Entry) (before : List Event) (e : Event) → Stands h before → edits_with (edits_of before) e ≡ edits_of before → ((l : List ℕ) → has_log h l ≡ true → commits_with l (commits_of before l) e ≡ commits_of before l) → Stands h (before ++ e ∷ [])
passed_over h before e s same logs = record {
  idle = s.idle;
  edits = s.edits ∙ sym (edits_more before e ∙ same);
  logs = λ l has. s.logs l has ∙ (λ i. whole_log (sym (commits_more before e l ∙ logs l has) i) false);
}

abbrev pub event_at : List ℕ → List Action → Event → Type 0
event_at place c e = (log : List (List Action)) (l : List ℕ) → commits_with l log e ≡ (if bytes_eq place l then with_commit log c else log)

not_there : (h : List Entry) (place l : List ℕ) (b : Bool) → bytes_eq place l ≡ b → has_log h place ≡ false → has_log h l ≡ true → b ≡ false
not_there h place l true is none has = absurd (cc (none, has, ap (has_log h) (bytes_is place l is)))
not_there h place l false is none has = refl

-- a commit to a location of which no log is there
pub unloaded : (h : List Entry) (before : List Event) (e : Event) (place : List ℕ) (c : List Action) → Stands h before → edits_with (edits_of before) e ≡ edits_of before → event_at place c e
    → option_map (λ i. i + 1) (position (is_at place) (starts h)) ≡ None → Stands h (before ++ e ∷ [])
unloaded h before e place c s same at none =
    let gone : has_log h place ≡ false = has_place h place None (no_place (position (is_at place) (starts h)) none) in
    passed_over h before e s same (λ l has. at (commits_of before l) l ∙ by_false (bytes_eq place l) (with_commit (commits_of before l) c) (commits_of before l) (not_there h place l (bytes_eq place l) refl gone has))

-- a commit that its log doesn't take
not_taken_by : (before : List Event) (place l : List ℕ) (c : List Action) (b : Bool) → bytes_eq place l ≡ b → takes (commits_of before place) c ≡ false → (if b then with_commit (commits_of before l) c else commits_of before l) ≡ commits_of before l
not_taken_by before place l c true is refused = by_false (takes (commits_of before l) c) (commits_of before l ++ c ∷ []) (commits_of before l) (ap (λ (x : List ℕ). takes (commits_of before x) c) (sym (bytes_is place l is)) ∙ refused)
not_taken_by before place l c false is refused = refl

pub not_taken : (h : List Entry) (before : List Event) (e : Event) (place : List ℕ) (c : List Action) → Stands h before → edits_with (edits_of before) e ≡ edits_of before → event_at place c e → takes (commits_of before place) c ≡ false → Stands h (before ++ e ∷ [])
not_taken h before e place c s same at refused = passed_over h before e s same (λ l has. at (commits_of before l) l ∙ not_taken_by before place l c (bytes_eq place l) refl refused)

-- ---- a commit that is taken

module _ (h : List Entry) (j : ℕ) (c : List Action) where
  starts_same : starts (committed_history h j c) ≡ starts h
  starts_same = three_quiet start_in h (entry 0 j Begin) (entry 0 j (Found c)) (entry 0 j Abort) refl refl refl

  edits_same : history.edits (committed_history h j c) ≡ history.edits h
  edits_same = three_quiet edit_in h (entry 0 j Begin) (entry 0 j (Found c)) (entry 0 j Abort) refl refl refl

  commits_other : (i : ℕ) → i ≢ j → filter_map (commit_on i) (committed_history h j c) ≡ filter_map (commit_on i) h
  commits_other i apart =
      let other = other_log i j apart in
      three_quiet (commit_on i) h (entry 0 j Begin) (entry 0 j (Found c)) (entry 0 j Abort) (commit_elsewhere i (entry 0 j Begin) other) (commit_elsewhere i (entry 0 j (Found c)) other) (commit_elsewhere i (entry 0 j Abort) other)

  blocks_same : (i : ℕ) → filter_map (block_on i) (committed_history h j c) ≡ filter_map (block_on i) h
  blocks_same i = three_quiet (block_on i) h (entry 0 j Begin) (entry 0 j (Found c)) (entry 0 j Abort) (nothing i (entry 0 j Begin)) (nothing i (entry 0 j (Found c))) (nothing i (entry 0 j Abort))

  table_other : (i : ℕ) → i ≢ j → table_on i (committed_history h j c) ≡ table_on i h
  table_other i apart = let qc = commits_other i apart in let qb = blocks_same i in λ k. option_map (grown (qc k) (qb k)) (slice_get (starts_same k) (i - 1))

  commits_here : filter_map (commit_on j) (committed_history h j c) ≡ filter_map (commit_on j) h ++ c ∷ []
  commits_here =
      quiet (commit_on j) ((h ++ entry 0 j Begin ∷ []) ++ entry 0 j (Found c) ∷ []) (entry 0 j Abort) (nothing j (entry 0 j Abort))
      ∙ loud (commit_on j) (h ++ entry 0 j Begin ∷ []) (entry 0 j (Found c)) c (here (entry 0 j (Found c)) (Some c))
      ∙ ap (λ (l : List (List Action)). l ++ c ∷ []) (quiet (commit_on j) h (entry 0 j Begin) (nothing j (entry 0 j Begin)))

  more : (cs : List (List Action)) (bs : List ℕ) (o : Option LogStart) (t : TableLog) → option_map (grown cs bs) o ≡ Some t → seen_log (option_map (grown (cs ++ c ∷ []) bs) o) ≡ whole_log (t.commits ++ c ∷ []) (is_some t.block)
  more cs bs None t e = absurd (cc e)
  more cs bs (Some s) t e =
      let g : grown cs bs s ≡ t = cc e in
      let qc : s.commits ++ (cs ++ c ∷ []) ≡ t.commits ++ c ∷ [] = sym (append_assoc s.commits cs (c ∷ [])) ∙ ap (λ (x : TableLog). x.commits ++ c ∷ []) g in
      let qb : is_some (grown cs bs s).block ≡ is_some t.block = ap (λ (x : TableLog). is_some x.block) g in
      λ k. whole_log (qc k) (qb k)

  table_here : (t : TableLog) → table_on j h ≡ Some t → seen_log (table_on j (committed_history h j c)) ≡ whole_log (t.commits ++ c ∷ []) (is_some t.block)
  table_here t is =
      let qb = blocks_same j in
      (λ k. seen_log (option_map (grown (commits_here k) (qb k)) (slice_get (starts_same k) (j - 1)))) ∙ more (filter_map (commit_on j) h) (filter_map (block_on j) h) (slice_get (starts h) (j - 1)) t is

  closed_by : (i : ℕ) (b : Bool) → (i == j) ≡ b → open_on i h ≡ None → open_on i (committed_history h j c) ≡ None
  closed_by i true is none = subst (λ (n : ℕ). open_on n (committed_history h j c) ≡ None) (sym (eqb-true i j is)) (open_turned j ((h ++ entry 0 j Begin ∷ []) ++ entry 0 j (Found c) ∷ []) (entry 0 j Abort) None (here (entry 0 j Abort) (Some None)))
  closed_by i false is none =
      let other = other_log i j (eqb-false i j is) in
      open_elsewhere i ((h ++ entry 0 j Begin ∷ []) ++ entry 0 j (Found c) ∷ []) (entry 0 j Abort) other ∙ open_elsewhere i (h ++ entry 0 j Begin ∷ []) (entry 0 j (Found c)) other ∙ open_elsewhere i h (entry 0 j Begin) other ∙ none

  idle_after : j ≤ length (starts h) → IsIdle h → IsIdle (committed_history h j c)
  idle_after there idle = record {
    settled = pending_push ((h ++ entry 0 j Begin ∷ []) ++ entry 0 j (Found c) ∷ []) (entry 0 j Abort);
    closed = λ i. closed_by i (i == j) refl (idle.closed i);
    beyond = λ i less.
        (let less' : length (starts h) < i = subst (λ (l : List LogStart). length l < i) starts_same less in
        let apart : i ≢ j = λ e. omega (arith, less', there, e) in
        let none = idle.beyond i less' in
        (commits_other i apart ∙ none.0, blocks_same i ∙ none.1));
    bound = λ l. ap (λ (x : List LogStart). list_any (is_at l) x) starts_same ∙ idle.bound l ∙ ap (λ (x : List Edit). list_any (bytes_eq l) (locations_bound x)) (sym edits_same);
    count = ap (λ (x : List LogStart). length x) starts_same ∙ idle.count ∙ ap (λ (x : List Edit). length (distinct bytes_eq (locations_bound x))) (sym edits_same);
  }

-- two locations at one place are one
one_place : (xs : List LogStart) (a b : List ℕ) (i n : ℕ) → position (is_at a) xs ≡ Some i → position (is_at b) xs ≡ Some n → i ≡ n → bytes_eq a b ≡ true
one_place xs a b i n p q e =
    let x = position-Some (is_at a) xs i (record { location = []; commits = []; block = None }) p in
    let y = position-Some (is_at b) xs n (record { location = []; commits = []; block = None }) q in
    let at_a : (get_or xs i (record { location = []; commits = []; block = None })).location ≡ a = bytes_is _ a x.1 in
    let at_b : (get_or xs n (record { location = []; commits = []; block = None })).location ≡ b = bytes_is _ b y.1 in
    let same : a ≡ b = sym at_a ∙ ap (λ (k : ℕ). (get_or xs k (record { location = []; commits = []; block = None })).location) e ∙ at_b in
    subst (λ (z : List ℕ). bytes_eq a z ≡ true) same (bytes_refl a)

module _ (h : List Entry) (before : List Event) (e : Event) (place : List ℕ) (c : List Action) (i : ℕ) (s : Stands h before) (at : event_at place c e) (placed : position (is_at place) (starts h) ≡ Some i) (taken : takes (commits_of before place) c ≡ true) where
  place_of : (l : List ℕ) (o : Option ℕ) → position (is_at l) (starts h) ≡ o → has_log h l ≡ true → (n : ℕ) × (position (is_at l) (starts h) ≡ Some n)
  place_of l None is has = absurd (cc (has_place h l None is, has))
  place_of l (Some n) is has = (n, is)

  here_log : (t : TableLog) → table_on (i + 1) h ≡ Some t → log_at (committed_history h (i + 1) c) place ≡ whole_log (commits_of before place ++ c ∷ []) false
  here_log t is =
      let qs = starts_same h (i + 1) c in
      let was : seen_log (Some t) ≡ log_of before place = ap seen_log (sym is) ∙ sym (log_placed h place (Some i) placed) ∙ s.logs place (has_place h place (Some i) placed) in
      let qc : t.commits ++ c ∷ [] ≡ commits_of before place ++ c ∷ [] = ap (λ (x : Log). x.commits ++ c ∷ []) was in
      let qb : is_some t.block ≡ false = ap (λ (x : Log). x.blocked) was in
      log_placed (committed_history h (i + 1) c) place (Some i) (ap (position (is_at place)) qs ∙ placed) ∙ table_here h (i + 1) c t is ∙ (λ k. whole_log (qc k) (qb k))

  log_after : (t : TableLog) → table_on (i + 1) h ≡ Some t → (l : List ℕ) (b : Bool) → bytes_eq place l ≡ b → has_log h l ≡ true → log_at (committed_history h (i + 1) c) l ≡ whole_log (if b then with_commit (commits_of before l) c else commits_of before l) false
  log_after t is l true same has =
      let one : place ≡ l = bytes_is place l same in
      let more : commits_of before place ++ c ∷ [] ≡ with_commit (commits_of before l) c =
      sym (by_true (takes (commits_of before place) c) (commits_of before place ++ c ∷ []) (commits_of before place) taken) ∙ ap (λ (x : List ℕ). with_commit (commits_of before x) c) one in
      ap (log_at (committed_history h (i + 1) c)) (sym one) ∙ here_log t is ∙ (λ k. whole_log (more k) false)
  log_after t is l false apart has =
      let qs = starts_same h (i + 1) c in
      let there = place_of l (position (is_at l) (starts h)) refl has in
      let n = there.0 in
      let off : n + 1 ≢ i + 1 = λ q. (let e : i ≡ n = omega (arith, q) in absurd (cc (apart, one_place (starts h) place l i n placed there.1 e))) in
      log_placed (committed_history h (i + 1) c) l (Some n) (ap (position (is_at l)) qs ∙ there.1) ∙ ap seen_log (table_other h (i + 1) c (n + 1) off) ∙ sym (log_placed h l (Some n) there.1) ∙ s.logs l has

  pub taken_stands : edits_with (edits_of before) e ≡ edits_of before → i + 1 ≤ length (starts h) → (t : TableLog) → table_on (i + 1) h ≡ Some t → Stands (committed_history h (i + 1) c) (before ++ e ∷ [])
  taken_stands same there t is = record {
    idle = idle_after h (i + 1) c there s.idle;
    edits = edits_same h (i + 1) c ∙ s.edits ∙ sym (edits_more before e ∙ same);
    logs = λ l has.
        (let had : has_log h l ≡ true = sym (ap (λ (x : List LogStart). list_any (is_at l) x) (starts_same h (i + 1) c)) ∙ has in
        let commits : (if bytes_eq place l then with_commit (commits_of before l) c else commits_of before l) ≡ commits_of (before ++ e ∷ []) l = sym (at (commits_of before l) l) ∙ sym (commits_more before e l) in
        log_after t is l (bytes_eq place l) refl had ∙ (λ k. whole_log (commits k) false));
  }
