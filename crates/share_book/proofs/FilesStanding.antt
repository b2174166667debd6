-- The files that are found of a history are states of its logs, and stay so as it goes on.
use Rattle.std.proofs.Common.{◌≡◌, ℕ, ◌+◌, List, ◌++◌, Bool, true, false, cond, not, nat_lt, length, Option, Some, None, Result, Ok, Err, sym, subst}
use Rattle.std.specs.Prelude.{◌&&◌}
use Rattle.log_actions.specs.declared.actions.Action.{Action}
use Rattle.log_replay.specs.State.{State, state_of}
use Rattle.log_replay.specs.declared.refusal.ReplayRefusal.{ReplayRefusal}
use Rattle.log_replay.specs.declared.times.Bound.{Bound}
use Rattle.log_replay.specs.declared.times.Unresolved.{Unresolved}
use Rattle.share_catalog.specs.Views.{Spot, shared}
use Rattle.share_book.specs.Bases.{FilesStand, IsStateIn, PartStands}
use Rattle.share_book.specs.History.{edits}
use Rattle.share_book.specs.Looked.{IsKept, found_by, log_by}
use Rattle.share_book.specs.Looks.{table_found}
use Rattle.share_book.specs.Parts.{feed_by, feed_of, files_of, found_of, from_first, head_found, is_latest, pinned_found, resolved_at, state_at, unrestricted, up_to, version_found, with_files}
use Rattle.share_book.specs.Views.{Log, log_at}
use Rattle.share_book.specs.declared.entry.Entry.{Entry}
use Rattle.share_book.specs.declared.look.Found.{Found}
use Rattle.share_book.specs.declared.look.Found.TheVariants as found
use Rattle.share_book.specs.declared.look.Part.{Part}
use Rattle.share_book.specs.declared.look.Part.TheVariants as part
use Rattle.share_book.specs.declared.look.PartFound.{PartFound}
use Rattle.share_book.specs.declared.look.PartFound.TheVariants as part_found
use Rattle.share_book.specs.declared.look.TableRefusal.TheVariants as refusal
use Rattle.share_book.specs.declared.look.Want.{Want}
use Rattle.share_book.specs.declared.look.Want.TheVariants as want
use Rattle.share_book.proofs.Growth.{logs_grow}
use Rattle.share_book.proofs.States.{front_stands, state_in_longer}
use Rattle.share_book.proofs.Versions.{IsWhole, head_kept, seen_whole, state_whole, told_kept}

-- ---- a part

files_case : (log : Log) (v : ℕ) (r : Result State ReplayRefusal) → state_of (up_to log v) ≡ r → PartStands log (files_of v r)
files_case log v (Ok s) e = front_stands log.commits (v + 1) s e
files_case log v (Err why) e = tt

-- what is found without its files, where it is kept
stands_kept : (log : Log) → IsWhole log → (p : PartFound) → PartStands log p → IsKept log p → PartStands log (with_files log p)
stands_kept log whole part_found.Nothing stands kept = tt
stands_kept log whole (part_found.Version v) stands kept = files_case log v (state_at log v) (sym (state_whole log whole v kept))
stands_kept log whole (part_found.Files v state) stands kept = stands
stands_kept log whole (part_found.Feed feed) stands kept = tt
stands_kept log whole (part_found.Refused why) stands kept = tt

from_stands : (log : Log) (first version : ℕ) (c : Bool) → PartStands log (cond c (part_found.Refused (refusal.NotShared first)) (part_found.Version version))
from_stands log first version true = tt
from_stands log first version false = tt

version_stands : (spot : Spot) (log : Log) (c : Bool) (r : Result ℕ Unresolved) → PartStands log (cond c (part_found.Refused refusal.NoHistory) (version_found spot r))
version_stands spot log true r = tt
version_stands spot log false (Ok v) = from_stands log spot.first v (nat_lt v spot.first)
version_stands spot log false (Err why) = tt

head_stands : (spot : Spot) (log : Log) (b : Bound) → PartStands log (head_found spot log b)
head_stands spot log b = version_stands spot log (not spot.history && not (is_latest b)) (resolved_at log b)

told_case : (spot : Spot) (log : Log) (version : ℕ) (c : Bool) → PartStands log (cond c (from_first spot.first version (part_found.Version version)) (part_found.Refused refusal.Ahead))
told_case spot log version true = from_stands log spot.first version (nat_lt version spot.first)
told_case spot log version false = tt

told_stands : (spot : Spot) (log : Log) (version : ℕ) → PartStands log (pinned_found spot log version)
told_stands spot log version = told_case spot log version (nat_lt version (length log.states))

feed_from : (log : Log) (first from to : ℕ) (c : Bool) → PartStands log (cond c (part_found.Refused (refusal.NotShared first)) (part_found.Feed (feed_of log from to)))
feed_from log first from to true = tt
feed_from log first from to false = tt

between_stands : (spot : Spot) (log : Log) (from to : ℕ) (c : Bool) → PartStands log (cond c (part_found.Refused refusal.VersionRange) (from_first spot.first from (part_found.Feed (feed_of log from to))))
between_stands spot log from to true = tt
between_stands spot log from to false = feed_from log spot.first from to (nat_lt from spot.first)

feed_stands : (spot : Spot) (log : Log) (from to : Result ℕ Unresolved) (c : Bool) → PartStands log (cond c (part_found.Refused refusal.NoHistory) (feed_by spot log from to))
feed_stands spot log from to true = tt
feed_stands spot log (Err why) to false = tt
feed_stands spot log (Ok from) (Err why) false = tt
feed_stands spot log (Ok from) (Ok to) false = between_stands spot log from to (nat_lt to from)

ahead_stands : (spot : Spot) (log : Log) (from to : ℕ) (c : Bool) → PartStands log (cond c (from_first spot.first from (part_found.Feed (feed_of log from to))) (part_found.Refused refusal.Ahead))
ahead_stands spot log from to true = feed_from log spot.first from to (nat_lt from spot.first)
ahead_stands spot log from to false = tt

unrestricted_stands : (log : Log) (only : Option (List ℕ)) (p : PartFound) → PartStands log p → PartStands log (unrestricted only p)
unrestricted_stands log None p stands = stands
unrestricted_stands log (Some text) p stands = tt

part_stands : (spot : Spot) (log : Log) → IsWhole log → (p : Part) → PartStands log (found_of spot log p)
part_stands spot log whole part.Place = tt
part_stands spot log whole (part.Head b) = head_stands spot log b
part_stands spot log whole (part.Files b) = stands_kept log whole (head_found spot log b) (head_stands spot log b) (head_kept spot log whole b)
part_stands spot log whole (part.Feed from to) = unrestricted_stands log spot.only _ (feed_stands spot log (resolved_at log from) (resolved_at log to) (not spot.history))
part_stands spot log whole (part.PinnedFiles version) = stands_kept log whole (pinned_found spot log version) (told_stands spot log version) (told_kept spot log whole version)
part_stands spot log whole (part.PinnedFeed from to) = unrestricted_stands log spot.only _ (ahead_stands spot log from to (nat_lt to (length log.states)))

-- ---- a look

table_stands : (h : List Entry) (p : Part) (o : Option Spot) → FilesStand h (table_found found_of (log_by h o) p o)
table_stands h p None = tt
table_stands h p (Some s) = part_stands s (log_at h s.location) (seen_whole _) p

pub found_stands : (h : List Entry) (r : List ℕ) (w : Want) → FilesStand h (found_by found_of h r w)
found_stands h r want.Names = tt
found_stands h r (want.Table t p) = table_stands h p (shared (edits h) r t)

-- ---- later

part_later : (old new : Log) (more : List (List Action)) (p : PartFound) → new.commits ≡ old.commits ++ more → PartStands old p → PartStands new p
part_later old new more part_found.Nothing e s = tt
part_later old new more (part_found.Version version) e s = tt
part_later old new more (part_found.Files version state) e s = subst (λ (l : List (List Action)). IsStateIn l state) (sym e) (state_in_longer old.commits more state s)
part_later old new more (part_found.Feed feed) e s = tt
part_later old new more (part_found.Refused why) e s = tt

pub stands_later : (h later : List Entry) (f : Found) → FilesStand h f → FilesStand (h ++ later) f
stands_later h later (found.Names names) s = tt
stands_later h later found.NoTable s = tt
stands_later h later (found.Table spot p) s = let g = logs_grow.grows h later spot.location in part_later (log_at h spot.location) (log_at (h ++ later) spot.location) g.0 p g.1 s
