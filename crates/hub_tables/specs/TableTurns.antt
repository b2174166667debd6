-- What is done of a table's log within one turn.
use Rattle.std.specs.Prelude.{◌≡◌, ℕ, ◌<◌, ◌≤◌, List, [], ◌∷◌, ◌++◌, Option, Some, None, IsSome, length}
use Rattle.log_actions.specs.declared.actions.Action.{Action}
use Rattle.log_actions.specs.CommitTexts.{commit_text}
use Rattle.share_book.specs.declared.entry.Entry.{Entry}
use Rattle.share_book.specs.declared.entry.Act.TheVariants.{Begin, Found, Blocked, Abort}
use Rattle.share_book.specs.History.{entry, open_on, starts, table_on}
use Rattle.share_book.specs.Legal.{IsKeptLog, TakesCommit, There, log_at}
use Rattle.share_book.specs.Tables.{IsState}
use Rattle.hub_tables.specs.declared.table_turns.KnownLog.{KnownLog}
use Rattle.hub_tables.specs.declared.table_turns.NewCommit.{NewCommit}
use Rattle.hub_tables.specs.declared.table_turns.LogOpened.{LogOpened}
use Rattle.hub_tables.specs.declared.table_turns.LogOpened.TheVariants as opened
use Rattle.hub_tables.specs.declared.table_turns.CommitPublished.{CommitPublished}
use Rattle.hub_tables.specs.declared.table_turns.CommitPublished.TheVariants as published

-- it is a number of a table's log
abbrev pub IsLog : ℕ → List Entry → Type 0
IsLog j h = (0 < j) × (j ≤ length (starts h))

-- the log of a location, and how far it is known
abbrev pub FindsLog : Option KnownLog → List ℕ → List Entry → Type 0
FindsLog None location h = log_at h location ≡ None
FindsLog (Some l) location h = (log_at h location ≡ Some l.log) × IsLog l.log h × There (table_on l.log h) (λ t. IsState t l.state)

abbrev pub OpensLog : LogOpened → ℕ → ℕ → List Entry → List Entry → Type 0
OpensLog (opened.Open s) k j h h' = (h' ≡ h ++ entry k j Begin ∷ []) × There (table_on j h) (λ t. IsState t s × IsKeptLog t.commits)
OpensLog opened.Held k j h h' = (h' ≡ h) × IsSome (open_on j h)
OpensLog opened.NoMemory k j h h' = h' ≡ h

-- the version at the log's end isn't kept
abbrev pub Blocks : ℕ → ℕ → List Entry → List Entry → Type 0
Blocks k j h h' = There (table_on j h) (λ t. h' ≡ h ++ entry k j (Blocked (length t.commits)) ∷ entry k j Abort ∷ [])

abbrev pub GoesOnLog : CommitPublished → ℕ → ℕ → List Entry → List Entry → Type 0
GoesOnLog published.Open k j h h' = h' ≡ h
GoesOnLog published.NoMemory k j h h' = h' ≡ h ++ entry k j Abort ∷ []

-- The log takes a commit, of which its shared copy and the length of its text are given.
abbrev pub TakesNew : List Entry → ℕ → NewCommit → Type 0
TakesNew h j n = (n.shared ≡ n.commit.value) × (n.bytes ≡ length (commit_text n.commit.value)) × TakesCommit h j n.commit.value

-- the commit was added, and then perhaps the Begin ended
abbrev pub PublishesCommit : CommitPublished → ℕ → ℕ → List Action → List Entry → List Entry → Type 0
PublishesCommit published.Open k j c h h' = h' ≡ h ++ entry k j (Found c) ∷ []
PublishesCommit published.NoMemory k j c h h' = h' ≡ h ++ entry k j (Found c) ∷ entry k j Abort ∷ []
