-- What a load and a look at one object give, of a store that others may add to.
use Rattle.std.specs.Prelude.{◌≡◌, ◌≤◌, ◌<◌, ◌^◌, ℕ, List, length, Option, Some, None, option_map, IfSome, Bool, true, Result, Ok, Err, ⊤}
use Rattle.std.specs.Bool.{OnTrue}
use Rattle.edge_core.specs.Objects.{Objects, Grows}
use Rattle.log_replay.specs.Standing.{IsSupported}
use Rattle.log_actions.specs.CommitTexts.{commit_text, printed_bytes}
use Rattle.json_print.specs.Lengths.{capped}
use Rattle.log_commit.specs.Texts.{commit_in}
use Rattle.log_store.specs.declared.loaded.Loaded.{Loaded}
use Rattle.log_store.specs.declared.probing.Probed.{Probed}
use Rattle.log_store.specs.declared.probing.Probed.TheVariants as probed
use Rattle.log_store.specs.declared.reading.Fetched.{Fetched}
use Rattle.log_store.specs.declared.reading.Fetched.TheVariants as fetched
use Rattle.log_store.specs.declared.refusal.LoadRefusal.{LoadRefusal}

-- Calls that store nothing, one after the other: others may have added, but not where the store was alone, and then it is still.
pub record Looked (old new : Option Objects) (was is : Bool) : Type 0 where
  pub grows : Grows old new
  pub same : OnTrue was (new ≡ old)
  pub stays : OnTrue was (is ≡ true)

-- What holds of each log that was loaded, also of a store that doesn't tell: each version is read, and a block stands at the version after them.
pub record IsLoaded (l : Loaded) : Type 0 where
  pub supported : IsSupported l.commits
  pub counted : l.bytes ≡ printed_bytes l.commits
  pub fits : l.bytes ≤ 2 ^ 26
  pub next : IfSome l.block (λ b. b.version ≡ length l.commits)

-- ---- one object

-- an object that is longer than the limit
abbrev pub IsOver : ℕ → Option (List ℕ) → Type 0
IsOver limit None = ⊥
IsOver limit (Some all) = limit < length all

-- a whole object of at most so many bytes, or why there is none
abbrev pub IsFetched : ℕ → Option (List ℕ) → Result Fetched LoadRefusal → Type 0
IsFetched limit found (Ok (fetched.Bytes v)) = (found ≡ Some v.items) × (length v.items ≤ limit)
IsFetched limit found (Ok fetched.Absent) = found ≡ None
IsFetched limit found (Ok fetched.TooLong) = IsOver limit found
IsFetched limit found (Err refusal) = ⊤

-- what a version's bytes are: there are none, those of a commit, or why they aren't
abbrev pub IsProbed : Option (List ℕ) → Result Probed LoadRefusal → Type 0
IsProbed found (Ok probed.Absent) = found ≡ None
IsProbed found (Ok (probed.Found commit bytes)) = option_map commit_in found ≡ Some (Ok commit)
IsProbed found (Ok (probed.Unreadable fault)) = option_map commit_in found ≡ Some (Err fault)
IsProbed found (Err refusal) = ⊤

-- the bytes of a commit's printed text are counted, also of a store that doesn't tell
abbrev pub IsCounted : Probed → Type 0
IsCounted probed.Absent = ⊤
IsCounted (probed.Found commit bytes) = bytes ≡ capped (length (commit_text commit))
IsCounted (probed.Unreadable fault) = ⊤
