-- What is found of a table's log for a request (Delta Sharing PROTOCOL.md, "Query Table Version", "Query Table Metadata", "Read Data from a Table", "Read Change Data Feed from a Table"): a function of the log, of what its binding shares of it, and of the part that is asked.
use Rattle.std.specs.Prelude.{ℕ, ◌+◌, ◌-◌, ◌&&◌, not, List, [], Bool, true, false, Option, Some, None, Result, Ok, Err, length, nat_lt, take, drop, slice_get, option_map, unwrap_or, if◌then◌else◌}
use Rattle.log_actions.specs.declared.actions.Action.{Action}
use Rattle.log_replay.specs.State.{State}
use Rattle.log_replay.specs.Times.{resolved}
use Rattle.log_replay.specs.declared.refusal.ReplayRefusal.{ReplayRefusal}
use Rattle.log_replay.specs.declared.refusal.ReplayRefusal.TheVariants as replay
use Rattle.log_replay.specs.declared.times.Bound.{Bound}
use Rattle.log_replay.specs.declared.times.Bound.TheVariants as bound
use Rattle.log_replay.specs.declared.times.Unresolved.{Unresolved}
use Rattle.log_replay.specs.declared.times.Unresolved.TheVariants as unresolved
use Rattle.share_catalog.specs.Views.{Spot}
use Rattle.share_book.specs.Views.{Log}
use Rattle.share_book.specs.declared.look.FeedPart.{FeedPart}
use Rattle.share_book.specs.declared.look.Part.{Part}
use Rattle.share_book.specs.declared.look.Part.TheVariants as part
use Rattle.share_book.specs.declared.look.PartFound.{PartFound}
use Rattle.share_book.specs.declared.look.PartFound.TheVariants as part_found
use Rattle.share_book.specs.declared.look.TableRefusal.{TableRefusal}
use Rattle.share_book.specs.declared.look.TableRefusal.TheVariants as refusal

-- ---- a version

abbrev pub refused_by : Unresolved → TableRefusal
refused_by unresolved.Unsupported = refusal.Unsupported
refused_by unresolved.VersionRange = refusal.VersionRange
refused_by unresolved.TimestampRange = refusal.TimestampRange

-- what is found at a version, unless it comes before the first that is shared
abbrev pub from_first : ℕ → ℕ → PartFound → PartFound
from_first first version found = if nat_lt version first then part_found.Refused (refusal.NotShared first) else found

abbrev pub version_found : Spot → Result ℕ Unresolved → PartFound
version_found spot (Ok version) = from_first spot.first version (part_found.Version version)
version_found spot (Err why) = part_found.Refused (refused_by why)

-- the version that a bound means
abbrev pub resolved_at : Log → Bound → Result ℕ Unresolved
resolved_at log b = resolved log.marks log.blocked b

abbrev pub is_latest : Bound → Bool
is_latest bound.Latest = true
is_latest _ = false

-- the version that a bound means, where earlier ones are shared or it is the latest
abbrev pub head_found : Spot → Log → Bound → PartFound
head_found spot log b = if not spot.history && not (is_latest b) then part_found.Refused refusal.NoHistory else version_found spot (resolved_at log b)

-- a version that was told before
abbrev pub pinned_found : Spot → Log → ℕ → PartFound
pinned_found spot log version = if nat_lt version (length log.states) then from_first spot.first version (part_found.Version version) else part_found.Refused refusal.Ahead

-- ---- a feed

-- the elements from one place to another
abbrev pub between : {X : Type 0} → ℕ → ℕ → List X → List X
between from to xs = take (to + 1 - from) (drop from xs)

abbrev pub commit_at : Log → Option ℕ → List Action
commit_at log version = unwrap_or (slice_get log.commits (unwrap_or version 0)) []

-- the versions of a feed, none where it would go backwards, with the commits whose metaData and whose protocol hold at the last
abbrev pub feed_of : Log → ℕ → ℕ → FeedPart
feed_of log from to =
    let mark = slice_get log.marks to in
    record {
      from = from;
      to = to;
      commits = between from to log.commits;
      marks = between from to log.marks;
      meta = commit_at log (option_map (λ m. m.meta_at) mark);
      protocol = commit_at log (option_map (λ m. m.protocol_at) mark);
    }

abbrev pub feed_between : Spot → Log → ℕ → ℕ → PartFound
feed_between spot log from to = if nat_lt to from then part_found.Refused refusal.VersionRange else from_first spot.first from (part_found.Feed (feed_of log from to))

abbrev pub feed_by : Spot → Log → Result ℕ Unresolved → Result ℕ Unresolved → PartFound
feed_by spot log (Err why) to = part_found.Refused (refused_by why)
feed_by spot log (Ok from) (Err why) = part_found.Refused (refused_by why)
feed_by spot log (Ok from) (Ok to) = feed_between spot log from to

-- a feed of a table that is shared in part would tell of files that aren't
abbrev pub unrestricted : Option (List ℕ) → PartFound → PartFound
unrestricted None found = found
unrestricted (Some text) found = part_found.Refused refusal.Restricted

abbrev pub feed_found : Spot → Log → Bound → Bound → PartFound
feed_found spot log from to = unrestricted spot.only (if not spot.history then part_found.Refused refusal.NoHistory else feed_by spot log (resolved_at log from) (resolved_at log to))

-- versions that were told before, whatever their order
abbrev pub pinned_feed : Spot → Log → ℕ → ℕ → PartFound
pinned_feed spot log from to =
    unrestricted spot.only (if nat_lt to (length log.states) then from_first spot.first from (part_found.Feed (feed_of log from to)) else part_found.Refused refusal.Ahead)

-- ---- files

-- a version with its state; a log whose state can't be made isn't supported
abbrev pub files_of : ℕ → Result State ReplayRefusal → PartFound
files_of version (Ok state) = part_found.Files version state
files_of version (Err why) = part_found.Refused refusal.Unsupported

-- the state of a version that is kept
abbrev pub state_at : Log → ℕ → Result State ReplayRefusal
state_at log version = unwrap_or (slice_get log.states version) (Err replay.NoProtocol)

-- a version that was found, with its files
abbrev pub with_files : Log → PartFound → PartFound
with_files log (part_found.Version version) = files_of version (state_at log version)
with_files log found = found

-- ---- a part

-- what is found of a table's log
abbrev pub found_of : Spot → Log → Part → PartFound
found_of spot log part.Place = part_found.Nothing
found_of spot log (part.Head b) = head_found spot log b
found_of spot log (part.Files b) = with_files log (head_found spot log b)
found_of spot log (part.Feed from to) = feed_found spot log from to
found_of spot log (part.PinnedFiles version) = with_files log (pinned_found spot log version)
found_of spot log (part.PinnedFeed from to) = pinned_feed spot log from to

-- The same before any state is made: in place of files, their version.
abbrev pub version_of : Spot → Log → Part → PartFound
version_of spot log part.Place = part_found.Nothing
version_of spot log (part.Head b) = head_found spot log b
version_of spot log (part.Files b) = head_found spot log b
version_of spot log (part.Feed from to) = feed_found spot log from to
version_of spot log (part.PinnedFiles version) = pinned_found spot log version
version_of spot log (part.PinnedFeed from to) = pinned_feed spot log from to

-- the commits up to a version
abbrev pub up_to : Log → ℕ → List (List Action)
up_to log version = take (version + 1) log.commits

-- the commits of which the files of a version are made
abbrev pub commits_by : Log → PartFound → Option (List (List Action))
commits_by log (part_found.Version version) = Some (up_to log version)
commits_by log _ = None

-- those that a part wants, none where no files are asked or no version is found
abbrev pub commits_for : Log → Part → PartFound → Option (List (List Action))
commits_for log (part.Files b) found = commits_by log found
commits_for log (part.PinnedFiles version) found = commits_by log found
commits_for log _ found = None
