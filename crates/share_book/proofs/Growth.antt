-- What a history keeps as it goes on.
use Rattle.std.proofs.Common.{◌≡◌, ℕ, ◌+◌, ◌-◌, ◌<◌, ◌≤◌, List, [], ◌∷◌, ◌++◌, Bool, true, false, cond, Option, Some, None, zero, suc, refl, sym, ap, ◌∙◌, subst, append_assoc, length, length-append, take, arith}
use Rattle.std.specs.List.{filter_map, position, position_from, slice_get}
use Rattle.std.specs.Option.{option_and_then, option_map}
use Rattle.std.proofs.lemmas.List.{append-nil, take-append-le}
use Rattle.std.proofs.lemmas.Iterator.Adapters.{position_from-zero}
use Rattle.std.proofs.lemmas.List.Elements.{filter_map-append}
use Rattle.log_actions.specs.declared.actions.Action.{Action}
use Rattle.log_replay.specs.State.{state_of}
use Rattle.share_catalog.specs.Catalogue.{binding_edition, grant_edition}
use Rattle.share_catalog.specs.declared.edit.Edit.{Edit}
use Rattle.share_catalog.specs.declared.table_name.TableName.{TableName}
use Rattle.share_catalog.proofs.LawProofs.{editions_rise}
use Rattle.share_book.specs.History.{block_on, commit_on, edit_in, edits, grown, start_in, starts, table_on}
use Rattle.share_book.specs.Laws.{EditionsRise, FrontsAreLegal, LogsGrow, OthersLeaveCatalogue, OthersLeaveLogs}
use Rattle.share_book.specs.Legal.{is_at}
use Rattle.share_book.specs.Parts.{state_at}
use Rattle.share_book.specs.Views.{Log, log_at, seen_log}
use Rattle.share_book.specs.declared.entry.Entry.{Entry}
use Rattle.share_book.specs.declared.entry.LogStart.{LogStart}
use Rattle.share_book.proofs.Still.{still_by, still_on_by}
use Rattle.share_book.proofs.Versions.{seen_whole, shown_stays, state_whole, states_whole}
use Rattle.share_book.proofs.Words.{legal_front}

-- ---- the first that passes

pub position_is : {X : Type 0} (p : X → Bool) (xs : List X) → position p xs ≡ position_from p 0 xs
position_is p xs = position_from-zero p xs

from_goes_on : {X : Type 0} (p : X → Bool) (i : ℕ) (xs ys : List X) (n : ℕ) → position_from p i xs ≡ Some n → position_from p i (xs ++ ys) ≡ Some n
from_goes_on p i [] ys n e = absurd cc
from_goes_on p i (x ∷ xs) ys n e =
    elim (p x) as (λ b. cond b (Some i) (position_from p (i + 1) xs) ≡ Some n → cond b (Some i) (position_from p (i + 1) (xs ++ ys)) ≡ Some n) [
      | true ↦ λ h. h
      | false ↦ λ h. from_goes_on p (i + 1) xs ys n h
    ] e

-- what is found first in a list is found first in a longer one
pub position_goes_on : {X : Type 0} (p : X → Bool) (xs ys : List X) (n : ℕ) → position p xs ≡ Some n → position p (xs ++ ys) ≡ Some n
position_goes_on p xs ys n e = position_is p (xs ++ ys) ∙ from_goes_on p 0 xs ys n (sym (position_is p xs) ∙ e)

from_none : {X : Type 0} (p : X → Bool) (i : ℕ) (xs : List X) (x : X) → position_from p i xs ≡ None → p x ≡ false → position_from p i (xs ++ x ∷ []) ≡ None
from_none p i [] x none fails = ap (λ b. cond b (Some i) None) fails
from_none p i (y ∷ ys) x none fails =
    elim (p y) as (λ b. cond b (Some i) (position_from p (i + 1) ys) ≡ None → cond b (Some i) (position_from p (i + 1) (ys ++ x ∷ [])) ≡ None) [
      | true ↦ λ h. absurd cc
      | false ↦ λ h. from_none p (i + 1) ys x h fails
    ] none

-- what isn't found isn't found with one more that doesn't pass
pub still_none : {X : Type 0} (p : X → Bool) (xs : List X) (x : X) → position p xs ≡ None → p x ≡ false → position p (xs ++ x ∷ []) ≡ None
still_none p xs x none fails = position_is p (xs ++ x ∷ []) ∙ from_none p 0 xs x (sym (position_is p xs) ∙ none) fails

-- ---- logs

pub get_stays : {X : Type 0} (xs ys : List X) (n : ℕ) (x : X) → slice_get xs n ≡ Some x → slice_get (xs ++ ys) n ≡ Some x
get_stays [] ys n x e = absurd cc
get_stays (z ∷ zs) ys zero x e = e
get_stays (z ∷ zs) ys (suc n) x e = get_stays zs ys n x e

-- a log's commits have others behind them
abbrev Grows : List (List Action) → List (List Action) → Type 0
Grows commits grown = (more : List (List Action)) × (grown ≡ commits ++ more)

table_grows : (h later : List Entry) (j : ℕ) (o : Option LogStart) → slice_get (starts h) (j - 1) ≡ o → Grows (seen_log (option_map (grown (filter_map (commit_on j) h) (filter_map (block_on j) h)) o)).commits (seen_log (table_on j (h ++ later))).commits
table_grows h later j None is = ((seen_log (table_on j (h ++ later))).commits, refl)
table_grows h later j (Some s) is =
    let there : slice_get (starts (h ++ later)) (j - 1) ≡ Some s = ap (λ (l : List LogStart). slice_get l (j - 1)) (filter_map-append start_in h later) ∙ get_stays (starts h) (starts later) (j - 1) s is in (
      filter_map (commit_on j) later,
      ap (λ (x : Option LogStart). (seen_log (option_map (grown (filter_map (commit_on j) (h ++ later)) (filter_map (block_on j) (h ++ later))) x)).commits) there
          ∙ ap (λ (cs : List (List Action)). s.commits ++ cs) (filter_map-append (commit_on j) h later)
          ∙ sym (append_assoc s.commits (filter_map (commit_on j) h) (filter_map (commit_on j) later)),
    )

abbrev log_by : List Entry → Option ℕ → Log
log_by h place = seen_log (option_and_then (λ number. table_on number h) (option_map (λ i. i + 1) place))

log_grows : (h later : List Entry) (location : List ℕ) (o : Option ℕ) → position (is_at location) (starts h) ≡ o → Grows (log_by h o).commits (log_at (h ++ later) location).commits
log_grows h later location None is = ((log_at (h ++ later) location).commits, refl)
log_grows h later location (Some i) is =
    let first : position (is_at location) (starts (h ++ later)) ≡ Some i = ap (position (is_at location)) (filter_map-append start_in h later) ∙ position_goes_on (is_at location) (starts h) (starts later) i is in
    let grows = table_grows h later (i + 1) (slice_get (starts h) (i + 1 - 1)) refl in
    (grows.0, ap (λ (o : Option ℕ). (log_by (h ++ later) o).commits) first ∙ grows.1)

grows : (h later : List Entry) (location : List ℕ) → Grows (log_at h location).commits (log_at (h ++ later) location).commits
grows h later location = log_grows h later location (position (is_at location) (starts h)) refl

-- the states that a log has stay
state_stays : (h later : List Entry) (location : List ℕ) (version : ℕ) → version < length (log_at h location).states → state_at (log_at (h ++ later) location) version ≡ state_at (log_at h location) version
state_stays h later location version less =
    let g = grows h later location in
    let old : Log = log_at h location in
    let new : Log = log_at (h ++ later) location in
    let count = states_whole old (seen_whole _) in
    let long : length new.commits ≡ length old.commits + length g.0 = ap (λ (l : List (List Action)). length l) g.1 ∙ length-append old.commits g.0 in
    state_whole new (seen_whole _) version (omega (arith, less, count, long))
    ∙ ap (λ (cs : List (List Action)). state_of (take (version + 1) cs)) g.1
    ∙ ap state_of (take-append-le (version + 1) old.commits g.0 (omega (arith, less, count)))
    ∙ sym (state_whole old (seen_whole _) version (omega (arith, less, count)))

pub logs_grow : LogsGrow
logs_grow = record {
  grows = grows;
  stays = λ h later location version less.
      let g = grows h later location in
      ap (take (version + 1)) g.1 ∙ take-append-le (version + 1) (log_at h location).commits g.0 (omega (arith, less));
  shows = λ h later spot version less. shown_stays spot.only (log_at h spot.location) (log_at (h ++ later) spot.location) version (state_stays h later spot.location version) less;
}

-- ---- editions

editions_by : (es more : List Edit) (r s : List ℕ) (t : TableName) → (grant_edition es r s ≤ grant_edition (es ++ more) r s) × (binding_edition es t ≤ binding_edition (es ++ more) t)
editions_by es [] r s t = subst (λ (l : List Edit). (grant_edition es r s ≤ grant_edition l r s) × (binding_edition es t ≤ binding_edition l t)) (sym (append-nil es)) (omega arith, omega arith)
editions_by es (e ∷ more) r s t =
    let first = editions_rise es e r s t in
    let rest = editions_by (es ++ e ∷ []) more r s t in
    let both : (grant_edition es r s ≤ grant_edition ((es ++ e ∷ []) ++ more) r s) × (binding_edition es t ≤ binding_edition ((es ++ e ∷ []) ++ more) t) =
    (let a = first.0 in let b = rest.0 in omega (arith, a, b), let a = first.1 in let b = rest.1 in omega (arith, a, b)) in
    subst (λ (l : List Edit). (grant_edition es r s ≤ grant_edition l r s) × (binding_edition es t ≤ binding_edition l t)) (append_assoc es (e ∷ []) more) both

pub book_editions_rise : EditionsRise
book_editions_rise h later r s t =
    subst (λ (l : List Edit). (grant_edition (edits h) r s ≤ grant_edition l r s) × (binding_edition (edits h) t ≤ binding_edition l t)) (sym (filter_map-append edit_in h later)) (editions_by (edits h) (edits later) r s t)

-- ---- turns

pub fronts_are_legal : FrontsAreLegal
fronts_are_legal = legal_front

pub others_leave_logs : OthersLeaveLogs
others_leave_logs h later k j legal some there opened foreign = let s = still_on_by j k h later legal some there opened foreign in (s.holder, s.table)

pub others_leave_catalogue : OthersLeaveCatalogue
others_leave_catalogue h later k legal opened foreign = let s = still_by k h later legal opened foreign in (s.holder, s.edits, s.starts)
