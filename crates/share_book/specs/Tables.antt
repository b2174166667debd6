-- How tables' logs are kept.
use Rattle.std.specs.Prelude.{◌≡◌, ℕ, ◌+◌, ◌-◌, ◌≤◌, [], ◌∷◌, ◌++◌, List, length, Some}
use Rattle.log_actions.specs.declared.actions.Action.{Action}
use Rattle.log_actions.specs.CommitTexts.{printed_bytes}
use Rattle.log_replay.specs.Times.{marks_in}
use Rattle.log_replay.specs.declared.times.Mark.{Mark}
use Rattle.share_book.specs.declared.table.LogState.{LogState}
use Rattle.share_book.specs.declared.entry.LogStart.{LogStart}
use Rattle.log_replay.specs.State.{State}
use Rattle.share_book.specs.Bases.{AllStatesIn}
use Rattle.share_book.specs.Legal.{IsKeptLog}
use Rattle.share_book.specs.TableView.{TableLog, TableView}

pub record IsTable (commits : List (List Action)) (marks : List Mark) (bytes len capacity marks_len marks_capacity room : ℕ) (snapshots : List (ℕ × State)) : Type 0 where
  pub kept : IsKeptLog commits
  pub counted : bytes ≡ printed_bytes commits
  pub marked : marks ≡ marks_in commits
  pub fits : len + room ≤ capacity
  pub marks_fit : marks_len + room ≤ marks_capacity
  pub states : AllStatesIn commits snapshots

-- the log as it begins
abbrev pub log_from : LogStart → TableLog
log_from s = record { location = s.location; commits = s.commits; block = s.block }

pub record IsReady (t : TableView) (s : LogStart) : Type 0 where
  pub same : t.log ≡ log_from s
  pub empty : t.room ≡ 0

-- one commit more
abbrev pub with_commit : TableView → List Action → TableView
with_commit t c = record { log = record { location = t.log.location; commits = t.log.commits ++ c ∷ []; block = t.log.block }; room = t.room - 1 }

pub record IsState (t : TableLog) (s : LogState) : Type 0 where
  pub kept : s.kept ≡ length t.commits
  pub bytes : s.bytes ≡ printed_bytes t.commits
  pub block : s.block ≡ t.block

-- the next version isn't kept
abbrev pub with_block : TableView → TableView
with_block t = record { log = record { location = t.log.location; commits = t.log.commits; block = Some (length t.log.commits) }; room = t.room }
