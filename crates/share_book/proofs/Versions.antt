-- Whole logs: each version has its mark, and the state of the commits up to it.
use Rattle.std.proofs.Common.{◌≡◌, ℕ, zero, suc, ◌+◌, ◌<◌, List, [], ◌∷◌, Bool, true, false, cond, Option, Some, None, Result, Ok, Err, refl, sym, ap, ◌∙◌, arith, length, nat_lt, take, map}
use Rattle.std.specs.Prelude.{slice_get, option_map, unwrap_or}
use Rattle.std.proofs.lemmas.List.{length-map}
use Rattle.std.proofs.lemmas.Bool.Decides.{nat_tests}
use Rattle.log_actions.specs.declared.actions.Action.{Action}
use Rattle.log_replay.specs.State.{State, state_of}
use Rattle.log_replay.specs.Times.{fronts, marks_in}
use Rattle.log_replay.specs.declared.refusal.ReplayRefusal.{ReplayRefusal}
use Rattle.log_replay.specs.declared.refusal.ReplayRefusal.TheVariants.{NoProtocol}
use Rattle.log_replay.specs.declared.times.Bound.{Bound}
use Rattle.log_replay.specs.declared.times.Unresolved.{Unresolved}
use Rattle.share_catalog.specs.Views.{Spot}
use Rattle.share_book.specs.Looked.{IsKept}
use Rattle.share_book.specs.Parts.{from_first, head_found, pinned_found, resolved_at, state_at, up_to, version_found}
use Rattle.share_book.specs.TableView.{TableLog}
use Rattle.share_book.specs.Views.{Log, seen_log, shown_log, shown_result, whole_log}
use Rattle.share_book.specs.declared.look.PartFound.TheVariants as part_found
use Rattle.share_book.specs.declared.look.TableRefusal.TheVariants as refusal
use Rattle.share_book.proofs.MarkBounds.{marks_counted}
use Rattle.share_book.proofs.ResolvedLemmas.{length-fronts, resolved_below}

map_get : {X Y : Type 0} (f : X → Y) (xs : List X) (n : ℕ) → slice_get (map f xs) n ≡ option_map f (slice_get xs n)
map_get f [] n = refl
map_get f (x ∷ xs) zero = refl
map_get f (x ∷ xs) (suc n) = map_get f xs n

front_at : {X : Type 0} (xs : List X) (n : ℕ) → n < length xs → slice_get (fronts xs) n ≡ Some (take (suc n) xs)
front_at [] n less = absurd (omega (arith, less))
front_at (x ∷ xs) zero less = refl
front_at (x ∷ xs) (suc n) less = map_get (λ front. x ∷ front) (fronts xs) n ∙ ap (option_map (λ front. x ∷ front)) (front_at xs n (omega (arith, less)))

-- the state of a version is that of the commits up to it
pub fronts_have_states : (commits : List (List Action)) (blocked : Bool) (version : ℕ) → version < length commits → state_at (whole_log commits blocked) version ≡ state_of (take (version + 1) commits)
fronts_have_states commits blocked version kept =
    let e : suc version ≡ version + 1 = omega arith in
    ap (λ (o : Option (Result State ReplayRefusal)). unwrap_or o (Err NoProtocol)) (map_get state_of (fronts commits) version ∙ ap (option_map state_of) (front_at commits version kept)) ∙ ap (λ n. state_of (take n commits)) e

-- there is one for each commit
pub states_counted : (commits : List (List Action)) (blocked : Bool) → length (whole_log commits blocked).states ≡ length commits
states_counted commits blocked = length-map (fronts commits) state_of ∙ length-fronts commits

-- ---- a whole log

abbrev pub IsWhole : Log → Type 0
IsWhole log = log ≡ whole_log log.commits log.blocked

pub seen_whole : (o : Option TableLog) → IsWhole (seen_log o)
seen_whole None = refl
seen_whole (Some t) = refl

pub state_whole : (log : Log) → IsWhole log → (version : ℕ) → version < length log.commits → state_at log version ≡ state_of (up_to log version)
state_whole log whole version kept = ap (λ (l : Log). state_at l version) whole ∙ fronts_have_states log.commits log.blocked version kept

pub states_whole : (log : Log) → IsWhole log → length log.states ≡ length log.commits
states_whole log whole = ap (λ (l : Log). length l.states) whole ∙ states_counted log.commits log.blocked

pub marks_whole : (log : Log) → IsWhole log → length log.marks ≡ length log.commits
marks_whole log whole = ap (λ (l : Log). length l.marks) whole ∙ marks_counted log.commits (marks_in log.commits) refl

-- a version that a bound means is kept
pub resolved_kept : (log : Log) → IsWhole log → (b : Bound) (version : ℕ) → resolved_at log b ≡ Ok version → version < length log.commits
resolved_kept log whole b version is =
    let below = resolved_below log.marks log.blocked b version is in
    let count = marks_whole log whole in
    omega (arith, below, count)

pub pinned_kept : (log : Log) → IsWhole log → (version : ℕ) → nat_lt version (length log.states) ≡ true → version < length log.commits
pinned_kept log whole version is =
    let below : version < length log.states = grind (arith, nat_tests, is) in
    let count = states_whole log whole in
    omega (arith, below, count)

-- ---- a version that is found is kept

first_kept : (first : ℕ) (log : Log) (version : ℕ) (c : Bool) → version < length log.commits → IsKept log (cond c (part_found.Refused (refusal.NotShared first)) (part_found.Version version))
first_kept first log version true kept = tt
first_kept first log version false kept = kept

-- a version that is kept, unless it comes before the first that is shared
pub from_kept : (first : ℕ) (log : Log) (version : ℕ) → version < length log.commits → IsKept log (from_first first version (part_found.Version version))
from_kept first log version kept = first_kept first log version (nat_lt version first) kept

version_kept : (spot : Spot) (log : Log) (r : Result ℕ Unresolved) → ((version : ℕ) → r ≡ Ok version → version < length log.commits) → IsKept log (version_found spot r)
version_kept spot log (Ok version) kept = from_kept spot.first log version (kept version refl)
version_kept spot log (Err why) kept = tt

head_case : (spot : Spot) (log : Log) (c : Bool) (r : Result ℕ Unresolved) → ((version : ℕ) → r ≡ Ok version → version < length log.commits) → IsKept log (cond c (part_found.Refused refusal.NoHistory) (version_found spot r))
head_case spot log true r kept = tt
head_case spot log false r kept = version_kept spot log r kept

pub head_kept : (spot : Spot) (log : Log) → IsWhole log → (b : Bound) → IsKept log (head_found spot log b)
head_kept spot log whole b = head_case spot log _ (resolved_at log b) (resolved_kept log whole b)

pinned_case : (spot : Spot) (log : Log) (version : ℕ) (c : Bool) → (c ≡ true → version < length log.commits) → IsKept log (cond c (from_first spot.first version (part_found.Version version)) (part_found.Refused refusal.Ahead))
pinned_case spot log version true kept = from_kept spot.first log version (kept refl)
pinned_case spot log version false kept = tt

pub told_kept : (spot : Spot) (log : Log) → IsWhole log → (version : ℕ) → IsKept log (pinned_found spot log version)
told_kept spot log whole version = pinned_case spot log version (nat_lt version (length log.states)) (pinned_kept log whole version)

-- ---- what is shown of a log

get_case : (text : List ℕ) (rs : List (Result State ReplayRefusal)) (n : ℕ) → unwrap_or (slice_get (map (shown_result (Some text)) rs) n) (Err NoProtocol) ≡ shown_result (Some text) (unwrap_or (slice_get rs n) (Err NoProtocol))
get_case text [] n = refl
get_case text (r ∷ rs) zero = refl
get_case text (r ∷ rs) (suc n) = get_case text rs n

pub shown_get : (text : List ℕ) (log : Log) (version : ℕ) → state_at (shown_log (Some text) log) version ≡ shown_result (Some text) (state_at log version)
shown_get text log version = get_case text log.states version

-- where a later log has the states that one had, it shows what that one showed
pub shown_stays : (only : Option (List ℕ)) (log later : Log) (version : ℕ) → (version < length log.states → state_at later version ≡ state_at log version)
    → version < length (shown_log only log).states → state_at (shown_log only later) version ≡ state_at (shown_log only log) version
shown_stays None log later version stays kept = stays kept
shown_stays (Some text) log later version stays kept =
    let count = length-map log.states (shown_result (Some text)) in
    shown_get text later version ∙ ap (shown_result (Some text)) (stays (omega (arith, kept, count))) ∙ sym (shown_get text log version)
