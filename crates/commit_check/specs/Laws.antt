-- What admission promises.
use Rattle.std.specs.Prelude.{◌≡◌, ℕ, Bool, true, false, List, ◌∷◌, ◌++◌, Some, Ok, Err}
use Rattle.std.specs.List.{list_any}
use Rattle.log_actions.specs.declared.actions.Action.{Action}
use Rattle.log_actions.specs.declared.actions.Action.TheVariants as action
use Rattle.log_replay.specs.State.{State, state_of}
use Rattle.commit_check.specs.Admission.{admitted}
use Rattle.commit_check.specs.Lawful.{is_lawful}
use Rattle.commit_check.specs.Offers.{files_read, read_state}
use Rattle.commit_check.specs.declared.conflict.Conflict.{Conflict}
use Rattle.commit_check.specs.declared.offer.Offer.{Offer}

-- what is admitted the log takes
abbrev pub AdmittedIsLawful : Type 0
AdmittedIsLawful = (log : List (List Action)) (now : ℕ) (offer : Offer) (commit : List Action) → admitted log now offer ≡ Ok commit → is_lawful log commit ≡ true

-- what an offer rests on holds at the head as it did at the version that was read: the files that count as read, the protocol and the metaData
abbrev pub ReadStillHolds : Type 0
ReadStillHolds = (log : List (List Action)) (now : ℕ) (offer : Offer) (commit : List Action) (state head : State) → admitted log now offer ≡ Ok commit
    → read_state log offer.read ≡ Some state → state_of log ≡ Ok head
    → (files_read offer.reads (Some head) ≡ files_read offer.reads (Some state)) × (head.protocol ≡ state.protocol) × (head.meta ≡ state.meta)

-- an action by which a commit is known again: each but a change file and a commitInfo
abbrev pub is_marked : Action → Bool
is_marked (action.Cdc f) = false
is_marked (action.CommitInfo i) = false
is_marked _ = true

-- an offer whose commit is in the log isn't admitted again, at whatever moment and whatever came since: so who doesn't know whether it was taken may make it again, with the same version read
abbrev pub RetriesAreRefused : Type 0
RetriesAreRefused = (log more : List (List Action)) (now later : ℕ) (offer : Offer) (commit : List Action) → admitted log now offer ≡ Ok commit
    → list_any is_marked offer.actions ≡ true → (x : Conflict) × (admitted (log ++ commit ∷ more) later offer ≡ Err x)
