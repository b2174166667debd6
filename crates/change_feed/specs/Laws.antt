-- Laws of the feed.
use Rattle.std.specs.Prelude.{◌≡◌, ◌+◌, ◌<◌, ◌≤◌, ℕ, List, ◌++◌, take, drop, length}
use Rattle.log_actions.specs.declared.actions.Action.{Action}
use Rattle.change_feed.specs.Changes.{ChangedFile}
use Rattle.change_feed.specs.Feed.{changes_at, changes_between, feed_of}

-- a range of one version has that version's changes
abbrev pub VersionsStandAlone : Type 0
VersionsStandAlone = (log : List (List Action)) (version : ℕ) → changes_between log version version ≡ changes_at log version

-- the changes of a range are those of its front and then those of the rest, wherever it is parted
abbrev pub RangesJoin : Type 0
RangesJoin = (log : List (List Action)) (first middle last : ℕ) → first ≤ middle → middle ≤ last
    → changes_between log first last ≡ changes_between log first middle ++ changes_between log (middle + 1) last

-- commits that come later leave the feed of a range as it was
abbrev pub LaterCommitsLeave : Type 0
LaterCommitsLeave = (log later : List (List Action)) (first last : ℕ) → last < length log → feed_of (log ++ later) first last ≡ feed_of log first last

-- so many changes from a place on, and then those behind them, are all from that place
abbrev pub CutsJoin : Type 0
CutsJoin = (count place : ℕ) (changes : List ChangedFile) → take count (drop place changes) ++ drop (place + count) changes ≡ drop place changes
