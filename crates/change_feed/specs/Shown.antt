-- What a call answers that knows a range's commits and marks alone.
use Rattle.std.specs.Prelude.{◌≡◌, ℕ, ◌+◌, not, List, [], ◌∷◌, ◌++◌, Result, Ok, Err, Vec, ⊤}
use Rattle.std.specs.List.{position_from}
use Rattle.log_actions.specs.declared.actions.Action.{Action}
use Rattle.log_replay.specs.declared.times.Mark.{Mark}
use Rattle.change_feed.specs.Changes.{ChangedFile, commit_changes}
use Rattle.change_feed.specs.Feed.{unless_off}
use Rattle.change_feed.specs.declared.refusal.FeedRefusal.{FeedRefusal}
use Rattle.change_feed.specs.declared.refusal.FeedRefusal.TheVariants as refusal
use Rattle.std.specs.declared.alloc.Global.{Global}

-- The answer is this feed, or the version at which it is off. Want of memory says nothing.
abbrev pub Answers : Result (Vec ChangedFile Global) FeedRefusal → Result (List ChangedFile) ℕ → Type 0
Answers (Ok changes) feed = feed ≡ Ok changes.items
Answers (Err (refusal.NotEnabled version)) feed = feed ≡ Err version
Answers (Err refusal.NoMemory) feed = ⊤

-- the changes of commits, the first of which is such a version, with their marks
abbrev pub changes_from : ℕ → List Mark → List (List Action) → List ChangedFile
changes_from version [] commits = []
changes_from version (m ∷ ms) [] = []
changes_from version (m ∷ ms) (c ∷ cs) = commit_changes version m.time c ++ changes_from (version + 1) ms cs

-- the feed of such commits, or the first version whose mark says that it is off
abbrev pub feed_from : ℕ → List Mark → List (List Action) → Result (List ChangedFile) ℕ
feed_from version marks commits = unless_off (position_from (λ m. not m.feed) version marks) (changes_from version marks commits)
