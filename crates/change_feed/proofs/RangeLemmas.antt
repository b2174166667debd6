-- What commits and marks of a range of versions give is the feed of that range.
use Rattle.std.proofs.Common.{◌≡◌, ℕ, zero, suc, ◌+◌, ◌-◌, ◌<◌, ◌≤◌, List, [], ◌∷◌, ◌++◌, not, cond, Some, Result, length, take, drop, refl, sym, ap, ◌∙◌, arith}
use Rattle.std.specs.Prelude.{find, flat_map, slice_get, slice_range, unwrap_or}
use Rattle.std.specs.List.{position_from, range_with_len}
use Rattle.log_actions.specs.declared.actions.Action.{Action}
use Rattle.log_replay.specs.Times.{marks_in}
use Rattle.log_replay.specs.declared.times.Mark.{Mark}
use Rattle.change_feed.specs.Changes.{ChangedFile, commit_changes}
use Rattle.change_feed.specs.Feed.{changes_at, commit_at, feed_of, is_on, unless_off}
use Rattle.change_feed.specs.Shown.{changes_from, feed_from}
use Rattle.change_feed.proofs.MarkLemmas.{version_says}

-- from the place of an element on
drop_there : {X : Type 0} (xs : List X) (i : ℕ) (x : X) → slice_get xs i ≡ Some x → drop i xs ≡ x ∷ drop (i + 1) xs
drop_there [] i x is = absurd (cc)
drop_there (y ∷ ys) zero x is = let same : y ≡ x = cc in ap (λ z. z ∷ ys) same
drop_there (y ∷ ys) (suc i) x is = let at : i + 1 ≡ suc i + 1 - 1 = omega arith in
    let next : suc (i + 1) ≡ suc i + 1 = omega arith in
    drop_there ys i x is ∙ ap (λ n. x ∷ drop n (y ∷ ys)) next

-- an element that is there
kept : {X : Type 0} (xs : List X) (i : ℕ) (d : X) → i < length xs → slice_get xs i ≡ Some (unwrap_or (slice_get xs i) d)
kept [] i d lt = absurd (omega (arith, lt))
kept (x ∷ xs) zero d lt = refl
kept (x ∷ xs) (suc i) d lt = kept xs i d (omega (arith, lt))

-- one version more at the front of a range
abbrev Front : {X : Type 0} → List X → ℕ → ℕ → X → Type 0
Front xs first n x = take (suc n) (drop first xs) ≡ x ∷ take n (drop (first + 1) xs)

front : {X : Type 0} (xs : List X) (first n : ℕ) (x : X) → slice_get xs first ≡ Some x → Front xs first n x
front xs first n x is = ap (take (suc n)) (drop_there xs first x is)

pub ranged_changes : (log : List (List Action)) (first n : ℕ) → (0 < n → first + n ≤ length log)
    → changes_from first (take n (drop first (marks_in log))) (take n (drop first log)) ≡ flat_map (changes_at log) (range_with_len first n)
ranged_changes log first zero within = refl
ranged_changes log first (suc n) within =
    let inside : first + suc n ≤ length log = within (omega arith) in
    let lt : first < length log = omega (arith, inside) in
    let m = version_says log first lt in
    let commit : slice_get log first ≡ Some (commit_at log first) = kept log first [] lt in
    let marks : Front (marks_in log) first n m.0 = front (marks_in log) first n m.0 m.1.at in
    let commits : Front log first n (commit_at log first) = front log first n (commit_at log first) commit in
    ap (λ ms. changes_from first ms (take (suc n) (drop first log))) marks
    ∙ ap (changes_from first (m.0 ∷ take n (drop (first + 1) (marks_in log)))) commits
    ∙ ap (λ t. commit_changes first t (commit_at log first) ++ changes_from (first + 1) (take n (drop (first + 1) (marks_in log))) (take n (drop (first + 1) log))) m.1.time
    ∙ ap (λ rest. changes_at log first ++ rest) (ranged_changes log (first + 1) n (λ some. omega (arith, inside)))

pub ranged_off : (log : List (List Action)) (first n : ℕ) → (0 < n → first + n ≤ length log)
    → position_from (λ m. not m.feed) first (take n (drop first (marks_in log))) ≡ find (λ version. not (is_on log version)) (range_with_len first n)
ranged_off log first zero within = refl
ranged_off log first (suc n) within =
    let inside : first + suc n ≤ length log = within (omega arith) in
    let lt : first < length log = omega (arith, inside) in
    let m = version_says log first lt in
    let marks : Front (marks_in log) first n m.0 = front (marks_in log) first n m.0 m.1.at in
    ap (position_from (λ m. not m.feed) first) marks
    ∙ ap (λ b. cond (not b) (Some first) (position_from (λ m. not m.feed) (first + 1) (take n (drop (first + 1) (marks_in log))))) m.1.feed
    ∙ ap (cond (not (is_on log first)) (Some first)) (ranged_off log (first + 1) n (λ some. omega (arith, inside)))

-- the feed of a log's range
pub ranged_feed : (log : List (List Action)) (first last : ℕ) → last < length log
    → feed_from first (slice_range (marks_in log) first (last + 1)) (slice_range log first (last + 1)) ≡ feed_of log first last
ranged_feed log first last lt =
    let within : 0 < last + 1 - first → first + (last + 1 - first) ≤ length log = λ some. omega (arith, lt, some) in
    ap (λ o. unless_off o (changes_from first (slice_range (marks_in log) first (last + 1)) (slice_range log first (last + 1)))) (ranged_off log first (last + 1 - first) within)
    ∙ ap (unless_off (find (λ version. not (is_on log version)) (range_with_len first (last + 1 - first)))) (ranged_changes log first (last + 1 - first) within)

-- what commits and marks give that are those of a log's range is the feed of the log
pub is_feed : (log : List (List Action)) (first last : ℕ) (marks : List Mark) (commits : List (List Action)) (r : Result (List ChangedFile) ℕ) → last < length log
    → commits ≡ slice_range log first (last + 1) → marks ≡ slice_range (marks_in log) first (last + 1) → feed_from first marks commits ≡ r → feed_of log first last ≡ r
is_feed log first last marks commits r lt same_commits same_marks is =
    sym (ranged_feed log first last lt)
    ∙ ap (λ cs. feed_from first (slice_range (marks_in log) first (last + 1)) cs) (sym same_commits)
    ∙ ap (λ ms. feed_from first ms commits) (sym same_marks)
    ∙ is
