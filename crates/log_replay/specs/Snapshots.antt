-- What a snapshot keeps, and the state one version later.
use Rattle.std.specs.Prelude.{◌≡◌, ◌+◌, List, ◌∷◌, ◌++◌, Result, Ok, Err, ⊤, map}
use Rattle.std.specs.Ordering.{nat_cmp}
use Rattle.std.specs.Cmp.Lexicographic.{slice_cmp}
use Rattle.std.specs.List.Sorted.{IsStrictlySortedBy}
use Rattle.log_actions.specs.declared.actions.AddFile.{AddFile}
use Rattle.log_actions.specs.declared.actions.Action.{Action}
use Rattle.log_actions.specs.declared.actions.Action.TheVariants as action
use Rattle.log_actions.specs.declared.actions.Txn.{Txn}
use Rattle.log_replay.specs.declared.refusal.ReplayRefusal.{ReplayRefusal}
use Rattle.log_replay.specs.declared.refusal.NoState.{NoState}
use Rattle.log_replay.specs.declared.refusal.NoState.TheVariants as no_state
use Rattle.log_replay.specs.Reconciliation.{last_protocol, last_meta}
use Rattle.log_replay.specs.Standing.{refusal_at}
use Rattle.log_replay.specs.State.{State, state_after}

-- the paths of files rise in byte order, so that none stands twice
abbrev pub PathsRise : List AddFile → Type 0
PathsRise files = IsStrictlySortedBy (slice_cmp nat_cmp) (map (λ f. f.path) files)

-- so do the applications of txns
abbrev pub AppsRise : List Txn → Type 0
AppsRise txns = IsStrictlySortedBy (slice_cmp nat_cmp) (map (λ t. t.app) txns)

-- the actions that give a state alone, as a checkpoint has them ("Checkpoints")
abbrev pub checkpoint_of : State → List Action
checkpoint_of s = action.Protocol s.protocol ∷ (action.MetaData s.meta ∷ (map (λ t. action.Txn t) s.txns ++ map (λ f. action.Add f) s.files))

-- the state one version after a state, or why that version isn't read
abbrev pub next_state : State → List Action → Result State ReplayRefusal
next_state s own =
    let actions = checkpoint_of s ++ own in
    state_after (refusal_at (s.version + 1) (last_protocol actions) (last_meta actions) own) (s.version + 1) actions

-- The answer is this state or refusal. Want of memory says nothing.
abbrev pub Answers : Result State NoState → Result State ReplayRefusal → Type 0
Answers (Ok state) wanted = wanted ≡ Ok state
Answers (Err (no_state.Refusal refusal)) wanted = wanted ≡ Err refusal
Answers (Err no_state.NoMemory) wanted = ⊤
