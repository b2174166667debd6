-- What the steps of a load give, of a store that others may add to.
use Rattle.std.specs.Prelude.{◌≡◌, ℕ, ◌+◌, ◌<◌, ◌≤◌, ◌^◌, ◌==◌, List, [], ◌∷◌, ◌++◌, length, Option, Some, None, option_map, Result, Ok, Err, ⊤, nat_lt, if◌then◌else◌}
use Rattle.edge_core.specs.Objects.{Objects}
use Rattle.log_actions.specs.declared.actions.Action.{Action}
use Rattle.log_commit.specs.Texts.{commit_in}
use Rattle.log_replay.specs.Standing.{IsSupported, Standing, standing_of}
use Rattle.log_actions.specs.CommitTexts.{printed_bytes}
use Rattle.log_store.specs.Log.{cause_of, missing, text_at}
use Rattle.log_store.specs.declared.loaded.Block.{Block}
use Rattle.log_store.specs.declared.loaded.BlockCause.{BlockCause}
use Rattle.log_store.specs.declared.loaded.BlockCause.TheVariants as cause
use Rattle.log_store.specs.declared.loaded.Loaded.{Loaded}
use Rattle.log_store.specs.declared.refusal.Stop.{Stop}
use Rattle.log_store.specs.declared.refusal.Stop.TheVariants as stop

-- why the commit of bytes that may be absent isn't kept
abbrev pub cause_found : List (List Action) → Option (List ℕ) → Option BlockCause
cause_found before None = Some cause.Gap
cause_found before (Some bytes) = cause_of before bytes

-- the commit of a version's bytes, or why it isn't kept, whatever stands before it
abbrev pub IsCommitAt : Option (List ℕ) → Result (List Action) Stop → Type 0
IsCommitAt found (Ok own) = option_map commit_in found ≡ Some (Ok own)
IsCommitAt found (Err (stop.Blocked c)) = (before : List (List Action)) → cause_found before found ≡ Some c
IsCommitAt found (Err (stop.Failed refusal)) = ⊤

-- the answer of a step that keeps a version, whose cause is this
abbrev pub Stops : Option BlockCause → Result (Unit {0}) Stop → Type 0
Stops wanted (Ok x) = wanted ≡ None
Stops wanted (Err (stop.Blocked c)) = wanted ≡ Some c
Stops wanted (Err (stop.Failed refusal)) = ⊤

-- a version's bytes are those of a commit, which is kept after those before it
pub record Adds (before next : List (List Action)) (found : Option (List ℕ)) (own : List Action) : Type 0 where
  pub read : option_map commit_in found ≡ Some (Ok own)
  pub kept : cause_found before found ≡ None
  pub after : next ≡ before ++ own ∷ []

-- a version's bytes are kept after those before it, or why they aren't
abbrev pub Keeps : List (List Action) → List (List Action) → Option (List ℕ) → Result (Unit {0}) Stop → Type 0
Keeps before after found (Ok x) = (own : List Action) × Adds before after found own
Keeps before after found (Err (stop.Blocked c)) = (after ≡ before) × (cause_found before found ≡ Some c)
Keeps before after found (Err (stop.Failed refusal)) = ⊤

-- commits that were kept, the sum of their printed bytes, and what the support of the next one needs to know
pub record IsKept (commits : List (List Action)) (bytes : ℕ) (standing : Standing) : Type 0 where
  pub supported : IsSupported commits
  pub stands : standing ≡ standing_of commits
  pub counted : bytes ≡ printed_bytes commits
  pub fits : bytes ≤ 2 ^ 26

-- the commits of the versions below n are stored
abbrev pub AreStored : List ℕ → ℕ → Objects → Type 0
AreStored location n objects = (version : ℕ) → version < n → (bytes : List ℕ) × (text_at location objects version ≡ Some bytes)

-- how many numbers in front are those from one on, in order
abbrev pub leading_from : ℕ → List ℕ → ℕ
leading_from first [] = 0
leading_from first (v ∷ vs) = if v == first then leading_from (first + 1) vs + 1 else 0

-- the block after so many versions in front, where later ones are named
abbrev pub gap_at : List ℕ → ℕ → Option Block
gap_at versions count = if nat_lt count (length versions) then Some (record { version = count; cause = missing versions count }) else None

-- what is loaded where these commits are kept, with the block after them
abbrev pub loaded_of : List (List Action) → Option Block → Loaded
loaded_of kept block = record { commits = kept; bytes = printed_bytes kept; block = block }
