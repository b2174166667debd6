-- How a snapshot holds its files, of which no public call speaks: a list of shared parts, and the place of a path in it.
use Rattle.std.specs.Prelude.{◌≡◌, ℕ, ◌+◌, ◌-◌, ◌<◌, ◌≤◌, List, [], ◌∷◌, ◌++◌, Option, None, cond, flat_map, filter, fold, map, take, drop, length, bytes_eq}
use Rattle.std.specs.List.{All, AllByRecursion, last_or}
use Rattle.std.specs.Ordering.{nat_cmp}
use Rattle.std.specs.Cmp.Lexicographic.{slice_cmp}
use Rattle.std.specs.Arc.{arc_value}
use Rattle.std.specs.declared.sync.Arc.{Arc}
use Rattle.std.proofs.Common.{Global, get_or, Less}
use Rattle.log_actions.specs.declared.actions.Action.{Action}
use Rattle.log_actions.specs.declared.actions.AddFile.{AddFile}
use Rattle.log_actions.specs.declared.actions.Action.TheVariants as action
use Rattle.log_replay.specs.State.{State}
use Rattle.log_replay.specs.Snapshots.{PathsRise}
use Rattle.log_replay.specs.Applied.{after}

abbrev pub SharedFile : Type 0
SharedFile = Arc AddFile Global

abbrev pub SharedPart : Type 0
SharedPart = Arc (List AddFile) Global

-- all files of parts, one part after the other
abbrev pub listed : List SharedPart → List AddFile
listed parts = flat_map arc_value parts

-- the files of the part at a place
abbrev pub files_at : List SharedPart → ℕ → List AddFile
files_at parts i = get_or (map arc_value parts) i []

-- a part has 1 to 256 files
abbrev pub IsSized : List AddFile → Type 0
IsSized files = (0 < length files) × (length files ≤ 256)

abbrev pub AllSized : List SharedPart → Type 0
AllSized parts = All (λ p. IsSized (arc_value p)) parts

-- parts that list files in byte order of path, none of them empty
pub record IsListing (parts : List SharedPart) : Type 0 where
  pub rise : PathsRise (listed parts)
  pub sized : AllSized parts

-- the path of the first file
abbrev pub first_path : List AddFile → List ℕ
first_path [] = []
first_path (f ∷ fs) = f.path

-- all paths are below a path, or above it
abbrev pub Below : List ℕ → List AddFile → Type 0
Below path files = AllByRecursion (λ f. slice_cmp nat_cmp f.path path ≡ Less) files

abbrev pub Above : List ℕ → List AddFile → Type 0
Above path files = AllByRecursion (λ f. slice_cmp nat_cmp path f.path ≡ Less) files

-- the file at a path
abbrev pub at_path : List ℕ → List AddFile → Option AddFile
at_path q files = last_or None (filter (λ f. bytes_eq f.path q) files)

-- a place where a path stands, or where it would stand
abbrev pub StandsAt : List ℕ → List AddFile → ℕ → Type 0
StandsAt path files i = (f : AddFile) × (i < length files) × (drop i files ≡ f ∷ drop (i + 1) files) × (f.path ≡ path)

abbrev pub CutsAt : List ℕ → List AddFile → ℕ → Type 0
CutsAt path files i = (i ≤ length files) × Below path (take i files) × Above path (drop i files)

-- a part begins with a path; or parts are parted by their first paths
abbrev pub LeadsAt : List ℕ → List SharedPart → ℕ → Type 0
LeadsAt path parts i = (i < length parts) × (first_path (files_at parts i) ≡ path)

abbrev pub FallsAt : List ℕ → List SharedPart → ℕ → Type 0
FallsAt path parts i = (i ≤ length parts) × (0 < i → slice_cmp nat_cmp (first_path (files_at parts (i - 1))) path ≡ Less) × (i < length parts → slice_cmp nat_cmp path (first_path (files_at parts i)) ≡ Less)

-- the files of a path are those of the part `part` from `at` up to `next`
pub record IsSpot (path : List ℕ) (parts : List SharedPart) (part at next : ℕ) : Type 0 where
  pub here : part < length parts
  pub start : at ≤ next
  pub within : next ≤ length (files_at parts part)
  pub below : Below path (listed (take part parts) ++ take at (files_at parts part))
  pub mid : AllByRecursion (λ f. f.path ≡ path) (take (next - at) (drop at (files_at parts part)))
  pub above : Above path (drop next (files_at parts part) ++ listed (drop (part + 1) parts))

-- the actions have come in
abbrev pub Changes : List AddFile → List AddFile → List Action → Type 0
Changes old new actions = (q : List ℕ) → at_path q new ≡ fold (after q) (at_path q old) actions

-- a path has this file now, or none; each other path has what it had
abbrev pub SetsPath : List ℕ → Option AddFile → List AddFile → List AddFile → Type 0
SetsPath path file old new = (q : List ℕ) → at_path q new ≡ cond (bytes_eq path q) file (at_path q old)

-- the actions that give what a state has beside its files
abbrev pub bare_of : State → List Action
bare_of s = action.Protocol s.protocol ∷ (action.MetaData s.meta ∷ map (λ t. action.Txn t) s.txns)

-- the place of each part's first file, counted from such a number
abbrev pub starts_of : ℕ → List SharedPart → List ℕ
starts_of n [] = []
starts_of n (p ∷ ps) = n ∷ starts_of (n + length (arc_value p)) ps
