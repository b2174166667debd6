-- What an offer to a table's log is judged by, as one turn finds it.
use Rattle.std.specs.Prelude.{◌≡◌, ℕ, List, Option, Some, None, IfSome, length}
use Rattle.log_actions.specs.declared.actions.Action.{Action}
use Rattle.log_replay.specs.Standing.{IsSupported}
use Rattle.commit_check.specs.Winners as won
use Rattle.share_book.specs.Bases.{CanReplay, MakesHead, MakesVersion}
use Rattle.share_book.specs.declared.replay.Replay.{Replay}
use Rattle.hub_tables.specs.declared.offer_log.OfferLog.{OfferLog}

-- what makes the state of the version that was read, none where none was
abbrev pub MakesRead : Option ℕ → List (List Action) → Option Replay → Type 0
MakesRead None commits r = r ≡ None
MakesRead (Some version) commits r = MakesVersion version commits r

-- It is of these commits, by the version that the offer read.
pub record IsOfferLog (seen : Option ℕ) (commits : List (List Action)) (o : OfferLog) : Type 0 where
  pub supported : IsSupported commits
  pub counted : length commits ≡ o.versions
  pub winners : o.winners ≡ won.winners commits seen
  pub read : MakesRead seen commits o.read
  pub head : MakesHead commits o.head
  pub read_fits : IfSome o.read CanReplay
  pub head_fits : IfSome o.head CanReplay
