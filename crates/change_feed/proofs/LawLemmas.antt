-- The laws of the feed.
use Rattle.std.proofs.Common.{◌≡◌, ℕ, zero, suc, ◌+◌, ◌-◌, ◌<◌, ◌≤◌, List, [], ◌∷◌, ◌++◌, not, cond, Some, length, take, drop, refl, sym, ap, ◌∙◌, arith, pos}
use Rattle.std.specs.Prelude.{find, flat_map, unwrap_or}
use Rattle.std.specs.List.{range_with_len}
use Rattle.std.proofs.lemmas.List.{append-nil, drop-drop, take-append-drop, take-append-le}
use Rattle.std.proofs.lemmas.Grind.{flat_map-append}
use Rattle.log_actions.specs.declared.actions.Action.{Action}
use Rattle.log_replay.specs.Reconciliation.{actions_in, last_meta}
use Rattle.log_replay.specs.Times.{has_feed, last_time}
use Rattle.change_feed.specs.Changes.{commit_changes}
use Rattle.change_feed.specs.Feed.{changes_at, changes_between, commit_at, first_off, is_on, time_at, unless_off, versions}
use Rattle.change_feed.specs.Laws.{CutsJoin, LaterCommitsLeave, RangesJoin, VersionsStandAlone}
use Rattle.change_feed.proofs.MarkLemmas.{get_front}

-- so many numbers, and then so many more
range-add : (first a b : ℕ) → range_with_len first (a + b) ≡ range_with_len first a ++ range_with_len (first + a) b
range-add first zero b = let all : 0 + b ≡ b = omega arith in let at : first ≡ first + 0 = omega arith in ap (range_with_len first) all ∙ ap (λ f. range_with_len f b) at
range-add first (suc a) b =
    let all : suc a + b ≡ suc (a + b) = omega arith in
    let at : first + 1 + a ≡ first + suc a = omega arith in
    ap (range_with_len first) all ∙ ap (λ ns. first ∷ ns) (range-add (first + 1) a b ∙ ap (λ f. range_with_len (first + 1) a ++ range_with_len f b) at)

pub versions_stand_alone : VersionsStandAlone
versions_stand_alone log version =
    let one : version + 1 - version ≡ 1 = omega arith in
    ap (λ n. flat_map (changes_at log) (range_with_len version n)) one ∙ append-nil (changes_at log version)

pub ranges_join : RangesJoin
ranges_join log first middle last low high =
    let a : ℕ = middle + 1 - first in
    let b : ℕ = last + 1 - (middle + 1) in
    let all : last + 1 - first ≡ a + b = omega (arith, low, high) in
    let at : first + a ≡ middle + 1 = omega (arith, low) in
    ap (flat_map (changes_at log)) (ap (range_with_len first) all ∙ range-add first a b ∙ ap (λ f. range_with_len first a ++ range_with_len f b) at)
    ∙ flat_map-append (changes_at log) (versions first middle) (versions (middle + 1) last)

-- a version of a log is the same in a longer one
front_same : (log later : List (List Action)) (version : ℕ) → version < length log → take (version + 1) (log ++ later) ≡ take (version + 1) log
front_same log later version lt = take-append-le (version + 1) log later (omega (arith, lt))

same_changes : (log later : List (List Action)) (version : ℕ) → version < length log → changes_at (log ++ later) version ≡ changes_at log version
same_changes log later version lt =
    ap (λ l. commit_changes version (unwrap_or (last_time l) (pos 0)) (commit_at (log ++ later) version)) (front_same log later version lt)
    ∙ ap (λ c. commit_changes version (time_at log version) (unwrap_or c [])) (get_front log later version lt)

same_on : (log later : List (List Action)) (version : ℕ) → version < length log → is_on (log ++ later) version ≡ is_on log version
same_on log later version lt = ap (λ l. has_feed (last_meta (actions_in l))) (front_same log later version lt)

later_changes : (log later : List (List Action)) (first n : ℕ) → (0 < n → first + n ≤ length log)
    → flat_map (changes_at (log ++ later)) (range_with_len first n) ≡ flat_map (changes_at log) (range_with_len first n)
later_changes log later first zero within = refl
later_changes log later first (suc n) within =
    let inside : first + suc n ≤ length log = within (omega arith) in
    let lt : first < length log = omega (arith, inside) in
    ap (λ cs. cs ++ flat_map (changes_at (log ++ later)) (range_with_len (first + 1) n)) (same_changes log later first lt)
    ∙ ap (λ cs. changes_at log first ++ cs) (later_changes log later (first + 1) n (λ some. omega (arith, inside)))

later_off : (log later : List (List Action)) (first n : ℕ) → (0 < n → first + n ≤ length log)
    → find (λ version. not (is_on (log ++ later) version)) (range_with_len first n) ≡ find (λ version. not (is_on log version)) (range_with_len first n)
later_off log later first zero within = refl
later_off log later first (suc n) within =
    let inside : first + suc n ≤ length log = within (omega arith) in
    let lt : first < length log = omega (arith, inside) in
    ap (λ b. cond (not b) (Some first) (find (λ version. not (is_on (log ++ later) version)) (range_with_len (first + 1) n))) (same_on log later first lt)
    ∙ ap (cond (not (is_on log first)) (Some first)) (later_off log later (first + 1) n (λ some. omega (arith, inside)))

pub later_commits_leave : LaterCommitsLeave
later_commits_leave log later first last lt =
    let within : 0 < last + 1 - first → first + (last + 1 - first) ≤ length log = λ some. omega (arith, lt, some) in
    ap (λ o. unless_off o (changes_between (log ++ later) first last)) (later_off log later first (last + 1 - first) within)
    ∙ ap (unless_off (first_off log first last)) (later_changes log later first (last + 1 - first) within)

pub cuts_join : CutsJoin
cuts_join count place changes =
    ap (λ rest. take count (drop place changes) ++ rest) (sym (drop-drop count place changes)) ∙ take-append-drop count (drop place changes)
