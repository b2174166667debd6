-- What a borrowed action is of the feed.
use Rattle.std.specs.Prelude.{ℕ, ℤ}
use Rattle.change_feed.specs.Changes.{ChangedFile, added_file, removed_file, row_file}
use Rattle.change_feed.specs.declared.change.ChangedAction.{ChangedAction}
use Rattle.change_feed.specs.declared.change.ChangedAction.TheVariants as changed

abbrev pub changed_by : ℕ → ℤ → ChangedAction → ChangedFile
changed_by version time (changed.Add f) = added_file version time f.now
changed_by version time (changed.Cdc f) = row_file version time f.now
changed_by version time (changed.Remove f) = removed_file version time f.now
