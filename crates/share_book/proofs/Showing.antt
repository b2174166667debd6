-- What is found of what is held, as it is shown, is what is found of what the recipient sees.
use Rattle.std.proofs.Common.{◌≡◌, ℕ, suc, ◌+◌, ◌≤◌, List, [], ◌∷◌, Bool, true, false, cond, not, ◌&&◌, Option, Some, None, Result, Ok, Err, refl, sym, ap, ◌∙◌, arith, length, map, nat_lt, option_map}
use Rattle.std.specs.Prelude.{option_and_then, slice_get, unwrap_or}
use Rattle.std.specs.List.{last_or}
use Rattle.std.proofs.lemmas.Bool.Decides.{nat_tests}
use Rattle.std.proofs.lemmas.List.{length-map}
use Rattle.log_replay.specs.State.{State}
use Rattle.log_replay.specs.Times.{found_by, found_from, is_by, is_from, not_kept, places, resolved, unless_cut}
use Rattle.log_replay.specs.declared.refusal.ReplayRefusal.{ReplayRefusal}
use Rattle.log_replay.specs.declared.times.Bound.{Bound}
use Rattle.log_replay.specs.declared.times.Bound.TheVariants as bound
use Rattle.log_replay.specs.declared.times.Mark.{Mark}
use Rattle.log_replay.specs.declared.times.Unresolved.{Unresolved}
use Rattle.log_replay.specs.declared.times.Unresolved.TheVariants as unresolved
use Rattle.share_catalog.specs.Catalogue.{credential}
use Rattle.share_catalog.specs.Views.{Spot, Who, name_of}
use Rattle.share_catalog.specs.Views as catalog
use Rattle.share_catalog.specs.declared.credential.Credential.{Credential}
use Rattle.share_catalog.specs.declared.edit.Edit.{Edit}
use Rattle.share_catalog.specs.declared.table_name.TableName.{TableName}
use Rattle.share_catalog.proofs.ViewLemmas.{tables_are_shown}
use Rattle.share_book.specs.Looks.{found_in, look_of, table_found}
use Rattle.share_book.specs.Parts.{feed_by, feed_of, files_of, found_of, from_first, head_found, is_latest, pinned_found, resolved_at, state_at, unrestricted, version_found, with_files}
use Rattle.share_book.specs.Shown.{IsFrom, LooksAreShown, NothingFoundBeforeFirst, ShownPartsAreFound, show, show_found, show_part}
use Rattle.share_book.specs.Views.{Log, View, bare, held, seen_log, shown, shown_log, shown_result, view_with}
use Rattle.share_book.specs.declared.look.Found.TheVariants as found
use Rattle.share_book.specs.declared.look.Part.{Part}
use Rattle.share_book.specs.declared.look.Part.TheVariants as part
use Rattle.share_book.specs.declared.look.PartFound.{PartFound}
use Rattle.share_book.specs.declared.look.PartFound.TheVariants as part_found
use Rattle.share_book.specs.declared.look.TableRefusal.TheVariants as refusal
use Rattle.share_book.specs.declared.look.Want.{Want}
use Rattle.share_book.specs.declared.look.Want.TheVariants as want
use Rattle.share_book.proofs.Looking.{logs_are_shown}
use Rattle.share_book.proofs.Versions.{shown_get}

-- ---- without a restriction

show_all : (p : PartFound) → show_part None p ≡ p
show_all part_found.Nothing = refl
show_all (part_found.Version version) = refl
show_all (part_found.Files version state) = refl
show_all (part_found.Feed feed) = refl
show_all (part_found.Refused why) = refl

-- ---- the version that is meant

bare_places : (n : ℕ) (test : Mark → Bool) (ms : List Mark) → ((m : Mark) → test (bare m) ≡ test m) → places n test (map bare ms) ≡ places n test ms
bare_places n test [] same = refl
bare_places n test (m ∷ ms) same =
    let rest = bare_places (n + 1) test ms same in
    λ i. cond (same m i) (n ∷ rest i) (rest i)

bare_count : (ms : List Mark) → length (map bare ms) ≡ length ms
bare_count ms = length-map ms bare

bare_resolved : (ms : List Mark) (blocked : Bool) (b : Bound) → resolved (map bare ms) blocked b ≡ resolved ms blocked b
bare_resolved [] blocked b = refl
bare_resolved (m ∷ ms) blocked bound.Latest = ap (λ n. unless_cut blocked n n) (bare_count ms)
bare_resolved (m ∷ ms) blocked (bound.Version v) = ap (λ n. cond (nat_lt v (suc n)) (Ok v) (not_kept blocked unresolved.VersionRange)) (bare_count ms)
bare_resolved (m ∷ ms) blocked (bound.AtOrBefore moment) =
    let few = bare_count ms in
    let same = bare_places 0 (is_by moment) (m ∷ ms) (λ x. refl) in
    λ i. found_by blocked (few i) (last_or None (same i))
bare_resolved (m ∷ ms) blocked (bound.AtOrAfter moment) =
    let same = bare_places 0 (is_from moment) (m ∷ ms) (λ x. refl) in
    λ i. found_from blocked (slice_get (same i) 0)

-- ---- a part

files_shown : (text : List ℕ) (v : ℕ) (r : Result State ReplayRefusal) → show_part (Some text) (files_of v r) ≡ files_of v (shown_result (Some text) r)
files_shown text v (Ok s) = refl
files_shown text v (Err why) = refl

module _ (text : List ℕ) (spot : Spot) (log : Log) where
  abbrev through : Log
  through = shown_log (Some text) log

  files_at : (v : ℕ) → show_part (Some text) (files_of v (state_at log v)) ≡ files_of v (state_at through v)
  files_at v = files_shown text v (state_at log v) ∙ ap (files_of v) (sym (shown_get text log v))

  from_shown : (v : ℕ) (c : Bool) → show_part (Some text) (cond c (part_found.Refused (refusal.NotShared spot.first)) (part_found.Version v)) ≡ cond c (part_found.Refused (refusal.NotShared spot.first)) (part_found.Version v)
  from_shown v true = refl
  from_shown v false = refl

  from_files : (v : ℕ) (c : Bool) → show_part (Some text) (with_files log (cond c (part_found.Refused (refusal.NotShared spot.first)) (part_found.Version v))) ≡ with_files through (cond c (part_found.Refused (refusal.NotShared spot.first)) (part_found.Version v))
  from_files v true = refl
  from_files v false = files_at v

  head_shown : (c : Bool) (r : Result ℕ Unresolved) → show_part (Some text) (cond c (part_found.Refused refusal.NoHistory) (version_found spot r)) ≡ cond c (part_found.Refused refusal.NoHistory) (version_found spot r)
  head_shown true r = refl
  head_shown false (Ok v) = from_shown v (nat_lt v spot.first)
  head_shown false (Err why) = refl

  head_files : (c : Bool) (r : Result ℕ Unresolved) → show_part (Some text) (with_files log (cond c (part_found.Refused refusal.NoHistory) (version_found spot r))) ≡ with_files through (cond c (part_found.Refused refusal.NoHistory) (version_found spot r))
  head_files true r = refl
  head_files false (Ok v) = from_files v (nat_lt v spot.first)
  head_files false (Err why) = refl

  pinned_shown : (v : ℕ) (c : Bool) → show_part (Some text) (with_files log (cond c (from_first spot.first v (part_found.Version v)) (part_found.Refused refusal.Ahead))) ≡ with_files through (cond c (from_first spot.first v (part_found.Version v)) (part_found.Refused refusal.Ahead))
  pinned_shown v true = from_files v (nat_lt v spot.first)
  pinned_shown v false = refl

  feed_shown : (only : Option (List ℕ)) (p q : PartFound) → only ≡ Some text → show_part (Some text) (unrestricted only p) ≡ unrestricted only q
  feed_shown only p q is = ap (λ (o : Option (List ℕ)). show_part (Some text) (unrestricted o p)) is ∙ sym (ap (λ (o : Option (List ℕ)). unrestricted o q) is)

  part_shown : spot.only ≡ Some text → (p : Part) → show_part (Some text) (found_of spot log p) ≡ found_of spot through p
  part_shown is part.Place = refl
  part_shown is (part.Head b) =
      head_shown (not spot.history && not (is_latest b)) (resolved_at log b)
      ∙ ap (λ r. cond (not spot.history && not (is_latest b)) (part_found.Refused refusal.NoHistory) (version_found spot r)) (sym (bare_resolved log.marks log.blocked b))
  part_shown is (part.Files b) =
      head_files (not spot.history && not (is_latest b)) (resolved_at log b)
      ∙ ap (λ r. with_files through (cond (not spot.history && not (is_latest b)) (part_found.Refused refusal.NoHistory) (version_found spot r))) (sym (bare_resolved log.marks log.blocked b))
  part_shown is (part.Feed from to) = feed_shown spot.only _ _ is
  part_shown is (part.PinnedFiles v) =
      pinned_shown v (nat_lt v (length log.states))
      ∙ ap (λ n. with_files through (cond (nat_lt v n) (from_first spot.first v (part_found.Version v)) (part_found.Refused refusal.Ahead))) (sym (length-map log.states (shown_result (Some text))))
  part_shown is (part.PinnedFeed from to) = feed_shown spot.only _ _ is

by_only : (spot : Spot) (log : Log) (p : Part) (only : Option (List ℕ)) → spot.only ≡ only → show_part only (found_of spot log p) ≡ found_of spot (shown_log only log) p
by_only spot log p None is = show_all (found_of spot log p)
by_only spot log p (Some text) is = part_shown text spot log is p

pub shown_parts_are_found : ShownPartsAreFound
shown_parts_are_found spot log p = by_only spot log p spot.only refl

-- ---- a look

found_table : (logs : List ℕ → Log) (p : Part) (o : Option Spot)
    → show_found (table_found found_of (unwrap_or (option_map (held logs) o) (seen_log None)) p o) ≡ table_found found_of (unwrap_or (option_map (shown logs) o) (seen_log None)) p o
found_table logs p None = refl
found_table logs p (Some s) = ap (found.Table s) (shown_parts_are_found s (logs s.location) p)

module _ (es : List Edit) (logs : List ℕ → Log) where
  -- the view of a recipient that is there
  abbrev there : (Spot → Log) → List ℕ → Credential → View
  there log r c = view_with es log (catalog.view_with es r c)

  table_is : (log : Spot → Log) (r : List ℕ) (c : Credential) (t : TableName) (p : Part)
      → found_in found_of (there log r c) (want.Table t p) ≡ table_found found_of (unwrap_or (option_map log (catalog.shared es r t)) (seen_log None)) p (catalog.shared es r t)
  table_is log r c t p =
      let tables = tables_are_shown es r t in
      let its = logs_are_shown es log r t in
      λ i. table_found found_of (unwrap_or (its i) (seen_log None)) p (tables i)

  found_shown : (r : List ℕ) (c : Credential) (w : Want) → show_found (found_in found_of (there (held logs) r c) w) ≡ found_in found_of (there (shown logs) r c) w
  found_shown r c want.Names = refl
  found_shown r c (want.Table t p) = ap show_found (table_is (held logs) r c t p) ∙ found_table logs p (catalog.shared es r t) ∙ sym (table_is (shown logs) r c t p)

  view_shown : (w : Want) (r : List ℕ) (q : Option Credential)
      → option_map show (look_of (option_map (view_with es (held logs)) (option_map (catalog.view_with es r) q)) w) ≡ look_of (option_map (view_with es (shown logs)) (option_map (catalog.view_with es r) q)) w
  view_shown w r None = refl
  view_shown w r (Some c) = let e = found_shown r c w in λ i. Some (record { recipient = r; expires = c.expires; found = e i })

  who_shown : (w : Want) (o : Option (List ℕ))
      → option_map show (look_of (option_map (view_with es (held logs)) (option_and_then (catalog.view_of es) o)) w) ≡ look_of (option_map (view_with es (shown logs)) (option_and_then (catalog.view_of es) o)) w
  who_shown w None = refl
  who_shown w (Some r) = view_shown w r (credential es r)

pub looks_are_shown : LooksAreShown
looks_are_shown es logs who w = who_shown es logs w (name_of es who)

-- ---- the first version that is shared

since : (first version : ℕ) (c : Bool) → nat_lt version first ≡ c → IsFrom first (cond c (part_found.Refused (refusal.NotShared first)) (part_found.Version version))
since first version true is = tt
since first version false is = grind (arith, nat_tests, is)

since_state : (first version : ℕ) (r : Result State ReplayRefusal) → first ≤ version → IsFrom first (files_of version r)
since_state first version (Ok state) from = from
since_state first version (Err why) from = tt

since_files : (log : Log) (first : ℕ) (p : PartFound) → IsFrom first p → IsFrom first (with_files log p)
since_files log first part_found.Nothing from = tt
since_files log first (part_found.Version v) from = since_state first v (state_at log v) from
since_files log first (part_found.Files v state) from = from
since_files log first (part_found.Feed feed) from = from
since_files log first (part_found.Refused why) from = tt

since_version : (spot : Spot) (r : Result ℕ Unresolved) → IsFrom spot.first (version_found spot r)
since_version spot (Ok v) = since spot.first v (nat_lt v spot.first) refl
since_version spot (Err why) = tt

since_head : (spot : Spot) (c : Bool) (r : Result ℕ Unresolved) → IsFrom spot.first (cond c (part_found.Refused refusal.NoHistory) (version_found spot r))
since_head spot true r = tt
since_head spot false r = since_version spot r

since_told : (spot : Spot) (v : ℕ) (c : Bool) → IsFrom spot.first (cond c (from_first spot.first v (part_found.Version v)) (part_found.Refused refusal.Ahead))
since_told spot v true = since spot.first v (nat_lt v spot.first) refl
since_told spot v false = tt

since_feed : (log : Log) (first from to : ℕ) (c : Bool) → nat_lt from first ≡ c → IsFrom first (cond c (part_found.Refused (refusal.NotShared first)) (part_found.Feed (feed_of log from to)))
since_feed log first from to true is = tt
since_feed log first from to false is = grind (arith, nat_tests, is)

since_between : (spot : Spot) (log : Log) (from to : ℕ) (c : Bool) → IsFrom spot.first (cond c (part_found.Refused refusal.VersionRange) (from_first spot.first from (part_found.Feed (feed_of log from to))))
since_between spot log from to true = tt
since_between spot log from to false = since_feed log spot.first from to (nat_lt from spot.first) refl

since_by : (spot : Spot) (log : Log) (from to : Result ℕ Unresolved) (c : Bool) → IsFrom spot.first (cond c (part_found.Refused refusal.NoHistory) (feed_by spot log from to))
since_by spot log from to true = tt
since_by spot log (Err why) to false = tt
since_by spot log (Ok from) (Err why) false = tt
since_by spot log (Ok from) (Ok to) false = since_between spot log from to (nat_lt to from)

since_ahead : (spot : Spot) (log : Log) (from to : ℕ) (c : Bool) → IsFrom spot.first (cond c (from_first spot.first from (part_found.Feed (feed_of log from to))) (part_found.Refused refusal.Ahead))
since_ahead spot log from to true = since_feed log spot.first from to (nat_lt from spot.first) refl
since_ahead spot log from to false = tt

since_whole : (first : ℕ) (only : Option (List ℕ)) (p : PartFound) → IsFrom first p → IsFrom first (unrestricted only p)
since_whole first None p from = from
since_whole first (Some text) p from = tt

pub nothing_before_first : NothingFoundBeforeFirst
nothing_before_first spot log part.Place = tt
nothing_before_first spot log (part.Head b) = since_head spot _ (resolved_at log b)
nothing_before_first spot log (part.Files b) = since_files log spot.first (head_found spot log b) (since_head spot _ (resolved_at log b))
nothing_before_first spot log (part.Feed from to) = since_whole spot.first spot.only _ (since_by spot log (resolved_at log from) (resolved_at log to) (not spot.history))
nothing_before_first spot log (part.PinnedFiles v) = since_files log spot.first (pinned_found spot log v) (since_told spot v (nat_lt v (length log.states)))
nothing_before_first spot log (part.PinnedFeed from to) = since_whole spot.first spot.only _ (since_ahead spot log from to (nat_lt to (length log.states)))
