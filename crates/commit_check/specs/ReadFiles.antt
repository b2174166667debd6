-- What the code knows of the files that count as read.
use Rattle.std.specs.Prelude.{◌≡◌, ℕ, List, Bool, false, Option, Some}
use Rattle.std.specs.Option.{option_map_or}
use Rattle.log_actions.specs.declared.actions.AddFile.{AddFile}
use Rattle.log_replay.specs.State.{State}
use Rattle.pred_tree.specs.Listing.{passes}
use Rattle.commit_check.specs.Lookups.{file_at}
use Rattle.commit_check.specs.Winners.{would_be_read}
use Rattle.commit_check.specs.declared.offer.Reads.{Reads}
use Rattle.commit_check.specs.declared.reading.Reading.{Reading}
use Rattle.commit_check.specs.declared.reading.Reading.TheVariants as reading

abbrev pub has_file : Reading → AddFile → Bool
has_file reading.Nothing file = false
has_file (reading.Of state filter) file = passes filter file

abbrev pub has_path : Reading → List ℕ → Bool
has_path reading.Nothing path = false
has_path (reading.Of state filter) path = option_map_or (passes filter) (file_at state.now.files path) false

abbrev pub has_file_of : Reading → Option AddFile → Bool
has_file_of r file = option_map_or (has_file r) file false

abbrev pub has_path_of : Reading → Option (List ℕ) → Bool
has_path_of r path = option_map_or (has_path r) path false

-- what counts as read of a state, if there is one
abbrev pub IsReading : Reads → Option State → Reading → Type 0
IsReading reads state reading.Nothing = (file : AddFile) → would_be_read reads state (Some file) ≡ false
IsReading reads state (reading.Of held filter) = (state ≡ Some held.now) × ((file : AddFile) → passes filter file ≡ would_be_read reads state (Some file))
