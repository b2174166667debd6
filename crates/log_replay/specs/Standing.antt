-- Whether the next version of a log is read, by what holds at it.
use Rattle.std.specs.Prelude.{◌≡◌, ⊤, Result, Ok, Err, ℕ, List, [], ◌∷◌, Option, Some, None, option_map, length}
use Rattle.log_actions.specs.declared.actions.Action.{Action}
use Rattle.log_actions.specs.declared.actions.Protocol.{Protocol}
use Rattle.log_actions.specs.declared.actions.MetaData.{MetaData}
use Rattle.log_replay.specs.declared.refusal.ReplayRefusal.{ReplayRefusal}
use Rattle.log_replay.specs.declared.refusal.ReplayRefusal.TheVariants.{NoProtocol, NoMetaData, Unsupported}
use Rattle.log_replay.specs.declared.refusal.NoState.{NoState}
use Rattle.log_replay.specs.declared.refusal.NoState.TheVariants as no_state
use Rattle.log_replay.specs.Reconciliation.{actions_in, last_protocol, last_meta}
use Rattle.log_replay.specs.Support.{cause_of, refusal_of}

-- why a version isn't read, by the protocol and the metaData that hold at it and by its own actions
abbrev pub refusal_at : ℕ → Option Protocol → Option MetaData → List Action → Option ReplayRefusal
refusal_at version None m actions = Some NoProtocol
refusal_at version (Some p) None actions = Some NoMetaData
refusal_at version (Some p) (Some m) actions = option_map (λ c. Unsupported version c) (cause_of p m actions)

-- a log none of whose versions is refused
abbrev pub IsSupported : List (List Action) → Type 0
IsSupported [] = ⊤
IsSupported (c ∷ cs) = refusal_of (c ∷ cs) ≡ None

-- how many versions a log has, and the protocol and the metaData that hold after them: what the support of a further version needs to know of it
pub record Standing : Type 0 where
  pub versions : ℕ
  pub protocol : Option Protocol
  pub meta : Option MetaData

abbrev pub standing_of : List (List Action) → Standing
standing_of log = let actions = actions_in log in record { versions = length log; protocol = last_protocol actions; meta = last_meta actions }

-- The answer is this refusal, or Ok where there is none. Want of memory says nothing.
abbrev pub Tells : Option ReplayRefusal → Result (Unit {0}) NoState → Type 0
Tells wanted (Ok x) = wanted ≡ None
Tells wanted (Err (no_state.Refusal refusal)) = wanted ≡ Some refusal
Tells wanted (Err no_state.NoMemory) = ⊤
