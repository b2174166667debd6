-- How much a look replays.
use Rattle.std.specs.Prelude.{ℕ, List, ◌⊎◌}
use mathlib.Core.List.{IsPrefix}
use Rattle.share_book.specs.Bases.{ReplaysAt}
use Rattle.share_book.specs.declared.entry.Entry.{Entry}
use Rattle.share_book.specs.declared.look.Ask.{Ask}

-- From a base at the point that is seen; or from one at a point since what was seen, and then from one at the point that is seen.
abbrev pub Replayed : (old new : List Entry) → Ask → (before after : ℕ) → Type 0
Replayed old new ask before after =
    ReplaysAt new ask before after
    ⊎ ((point : List Entry) × (middle : ℕ) × IsPrefix old point × IsPrefix point new × ReplaysAt point ask before middle × ReplaysAt new ask middle after)
