-- The files that a restriction shows of a state, by their places among all of its files.
use Rattle.std.specs.Prelude.{◌≡◌, ℕ, ⊤, List, Option, Some, None, filter_map, map, slice_get}
use Rattle.log_actions.specs.declared.actions.AddFile.{AddFile}
use Rattle.log_replay.specs.State.{State}
use Rattle.share_book.specs.Views.{shown_state}

-- at these places stand these files, one after another
abbrev pub AreAt : List AddFile → List ℕ → List AddFile → Type 0
AreAt files places found = map (slice_get files) places ≡ map Some found

-- the places, in order, of the files of a state that a restriction shows
abbrev pub IsPlaces : List ℕ → State → List ℕ → Type 0
IsPlaces only state places = AreAt state.files places (shown_state (Some only) state).files

-- a list of places, and the restriction that it is of
pub record PlacesView : Type 0 where
  pub only : List ℕ
  pub places : List ℕ

abbrev pub IsListOf : State → PlacesView → Type 0
IsListOf state list = IsPlaces list.only state list.places

-- the files at some places, all where none are named
abbrev pub files_at : List AddFile → Option (List ℕ) → List AddFile
files_at files None = files
files_at files (Some places) = filter_map (slice_get files) places

-- at each of the places stands a file
abbrev pub AreFilled : List AddFile → Option (List ℕ) → Type 0
AreFilled files None = ⊤
AreFilled files (Some places) = AreAt files places (files_at files (Some places))
