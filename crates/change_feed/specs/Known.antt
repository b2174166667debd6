-- What the loop over a commit's actions asks of each.
use Rattle.std.specs.Prelude.{ℕ, ℤ, Bool, true, false, Option}
use Rattle.log_actions.specs.declared.actions.Action.{Action}
use Rattle.change_feed.specs.Changes.{ChangedFile, file_change, row_change}

-- what an action changes of a commit that has files of changed rows, or of one that has none
abbrev pub change_by : Bool → ℕ → ℤ → Action → Option ChangedFile
change_by true version time = row_change version time
change_by false version time = file_change version time
