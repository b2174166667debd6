-- An event, taken.
use Rattle.std.proofs.Common.{◌≡◌, ℕ, ◌+◌, Bool, true, false, List, [], ◌∷◌, ◌++◌, Option, Some, None, option_map, sym, refl, ap, ◌∙◌, subst, arith}
use Rattle.std.specs.Prelude.{IfSome, is_none, is_some}
use Rattle.std.specs.List.{position}
use Rattle.log_actions.specs.declared.actions.Action.{Action}
use Rattle.share_catalog.specs.Catalogue.{bound_location, refusal_of}
use Rattle.share_catalog.specs.declared.edit.Edit.{Edit}
use Rattle.share_book.specs.History as history
use Rattle.share_book.specs.History.{starts, table_on}
use Rattle.share_book.specs.Legal.{IsKeptLog, TakesCommit, There, is_at}
use Rattle.share_book.specs.Legal as legal
use Rattle.share_book.specs.TableView.{TableLog}
use Rattle.share_book.specs.Views.{Log, seen_log}
use Rattle.share_book.specs.declared.entry.Entry.{Entry}
use Rattle.share_book.specs.declared.entry.LogStart.{LogStart}
use Rattle.share_book.proofs.Bookkeeping.{there_from}
use Rattle.share_book.proofs.Logs.{position_less}
use Rattle.share_world.specs.Standing.{LoadFits, Stands, committed_history, edited_history, start_of}
use Rattle.share_world.specs.Worlds.{commits_of, edits_of, edits_with, log_of, takes}
use Rattle.share_world.specs.declared.event.Event.{Event}
use Rattle.share_world.specs.declared.event.Event.TheVariants as event
use Rattle.share_world.proofs.Choices.{by_false, by_true}
use Rattle.share_world.proofs.CommitSteps.{event_at, not_taken, passed_over, taken_stands}
use Rattle.share_world.proofs.EditSteps.{edited_stands}
use Rattle.share_world.proofs.Histories.{log_placed}
use Rattle.share_world.proofs.Positions.{has_place, number_place}
use Rattle.share_world.proofs.Taking.{takes_kept}

there_is : (o : Option TableLog) (P : TableLog → Type 0) → There o P → (t : TableLog) × (o ≡ Some t) × P t
there_is None P w = absurd w
there_is (Some t) P w = (t, refl, w)

none_is : {X : Type 0} (o : Option X) → is_some o ≡ false → o ≡ None
none_is None e = refl
none_is (Some x) e = absurd (cc e)

-- ---- a commit

-- where its log stands
pub placed_at : (h : List Entry) (text place : List ℕ) (o p : Option ℕ) → o ≡ legal.log_at h text → text ≡ place → o ≡ p → option_map (λ i. i + 1) (position (is_at place) (starts h)) ≡ p
placed_at h text place o p is same value = sym (is ∙ ap (legal.log_at h) same) ∙ value

pub test_of : (o : Option TableLog) (a b : Bool) (c d : List Action) → There o (λ t. a ≡ takes t.commits c) → c ≡ d → a ≡ b → There o (λ t. b ≡ takes t.commits d)
test_of None a b c d w same value = w
test_of (Some t) a b c d w same value = sym value ∙ w ∙ ap (takes t.commits) same

module _ (h : List Entry) (before : List Event) (place : List ℕ) (c : List Action) (j : ℕ) (b : Bool) (s : Stands h before) (number : option_map (λ i. i + 1) (position (is_at place) (starts h)) ≡ Some j) (w : There (table_on j h) (λ t. b ≡ takes t.commits c)) where
  known : (t : TableLog) → table_on j h ≡ Some t → (t.commits ≡ commits_of before place) × (t.block ≡ None)
  known t is =
      let p = number_place (position (is_at place) (starts h)) j number in
      let at : table_on (p.0 + 1) h ≡ Some t = ap (λ (n : ℕ). table_on n h) p.2 ∙ is in
      let was : seen_log (Some t) ≡ log_of before place = ap seen_log (sym at) ∙ sym (log_placed h place (Some p.0) p.1) ∙ s.logs place (has_place h place (Some p.0) p.1) in
      (ap (λ (x : Log). x.commits) was, none_is t.block (ap (λ (x : Log). x.blocked) was))

  test_is : takes (commits_of before place) c ≡ b
  test_is =
      let t = there_is (table_on j h) (λ t. b ≡ takes t.commits c) w in
      let k = known t.0 t.1 in
      ap (λ (x : List (List Action)). takes x c) (sym k.0) ∙ sym t.2

  -- a commit that the log takes
  pub takes_it : b ≡ true → TakesCommit h j c
  takes_it holds =
      let t = there_is (table_on j h) (λ t. b ≡ takes t.commits c) w in
      let k = known t.0 t.1 in
      let p = number_place (position (is_at place) (starts h)) j number in
      let one = p.2 in
      (omega (arith, one), there_from (table_on j h) t.0 (λ t. (t.block ≡ None) × IsKeptLog (t.commits ++ c ∷ [])) t.1 (k.1, takes_kept t.0.commits c (sym t.2 ∙ holds)))

  pub commit_stands : (e : Event) → edits_with (edits_of before) e ≡ edits_of before → event_at place c e → b ≡ true → Stands (committed_history h j c) (before ++ e ∷ [])
  commit_stands e same at holds =
      let t = there_is (table_on j h) (λ t. b ≡ takes t.commits c) w in
      let p = number_place (position (is_at place) (starts h)) j number in
      let is : table_on (p.0 + 1) h ≡ Some t.0 = ap (λ (n : ℕ). table_on n h) p.2 ∙ t.1 in
      let less = position_less (is_at place) (starts h) p.0 p.1 in
      subst (λ (n : ℕ). Stands (committed_history h n c) (before ++ e ∷ [])) p.2 (taken_stands h before e place c p.0 s at p.1 (test_is ∙ holds) same (omega (arith, less)) t.0 is)

  -- one that it doesn't
  pub commit_passed : (e : Event) → edits_with (edits_of before) e ≡ edits_of before → event_at place c e → b ≡ false → Stands h (before ++ e ∷ [])
  commit_passed e same at refused = not_taken h before e place c s same at (test_is ∙ refused)

-- ---- an edit

kept_by : (es kept : List Edit) (e : Edit) (b : Bool) → es ≡ kept → is_none (refusal_of es e) ≡ b → is_none (refusal_of kept e) ≡ b
kept_by es kept e b is test = ap (λ (x : List Edit). is_none (refusal_of x e)) (sym is) ∙ test

pub edit_passed : (h : List Entry) (before : List Event) (e : Edit) → Stands h before → is_none (refusal_of (history.edits h) e) ≡ false → Stands h (before ++ event.Edit e ∷ [])
edit_passed h before e s refused = passed_over h before (event.Edit e) s (by_false (is_none (refusal_of (edits_of before) e)) (edits_of before ++ e ∷ []) (edits_of before) (kept_by (history.edits h) (edits_of before) e false s.edits refused)) (λ l has. refl)

pub edit_taken : (h h' : List Entry) (before : List Event) (e : Edit) (load : Option LogStart) → Stands h before → is_none (refusal_of (history.edits h) e) ≡ true → LoadFits h (bound_location e) load → ((x : LogStart) → load ≡ Some x → x ≡ start_of before x.location)
    → h' ≡ edited_history h load e → Stands h' (before ++ event.Edit e ∷ [])
edit_taken h h' before e load s holds fits given is =
    subst (λ (x : List Entry). Stands x (before ++ event.Edit e ∷ [])) (sym is)
    (edited_stands h before (event.Edit e) e s (λ log l. refl) load (by_true (is_none (refusal_of (edits_of before) e)) (edits_of before ++ e ∷ []) (edits_of before) (kept_by (history.edits h) (edits_of before) e true s.edits holds)) fits given)

pub given_of : (o : Option LogStart) (P : LogStart → Type 0) → IfSome o P → (x : LogStart) → o ≡ Some x → P x
given_of None P w x is = absurd (cc is)
given_of (Some y) P w x is = let same : y ≡ x = cc is in subst P same w
