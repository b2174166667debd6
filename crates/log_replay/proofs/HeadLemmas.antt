-- What the last state of a log tells of its next version.
use Rattle.std.proofs.Common.{◌≡◌, ◌-◌, List, [], Option, Some, None, option_map, length, sym, subst, refl}
use Rattle.log_actions.specs.declared.actions.Action.{Action}
use Rattle.log_replay.specs.Reconciliation.{actions_in, last_protocol, last_meta, live_files, last_txns}
use Rattle.log_replay.specs.Standing.{IsSupported}
use Rattle.log_replay.specs.State.{IsHead, State}
use Rattle.log_replay.proofs.CheckpointLemmas.{not_empty, supported}
use Rattle.log_replay.proofs.PartLemmas.{made_of}
use Rattle.log_replay.specs.Support.{refusal_of}

-- the log is supported, and the state has the protocol and the metaData that hold after it
abbrev pub Stands : List (List Action) → Option State → Type 0
Stands log state = IsSupported log × (option_map (λ s. s.protocol) state ≡ last_protocol (actions_in log)) × (option_map (λ s. s.meta) state ≡ last_meta (actions_in log))

pub head_stands : (log : List (List Action)) (state : Option State) → IsHead log state → Stands log state
head_stands log None is = subst (λ l. Stands l None) (sym is) (tt, refl, refl)
head_stands log (Some s) is =
    let of = made_of (refusal_of log) (length log - 1) (live_files (actions_in log)) (last_protocol (actions_in log)) (last_meta (actions_in log)) (last_txns (actions_in log)) s is in
    (supported log (not_empty log s is) of.refusal, sym of.protocol, sym of.meta)
