-- What one turn on a table's log does to a pass.
use Rattle.std.specs.Prelude.{◌≡◌, ℕ, ◌<◌, List, [], ◌∷◌, ◌++◌, Option, Some, None, length, map, option_map}
use mathlib.Core.List.{IsPrefix}
use Rattle.log_actions.specs.declared.actions.Action.{Action}
use Rattle.share_book.specs.declared.entry.Entry.{Entry}
use Rattle.share_book.specs.declared.entry.Act.{Act}
use Rattle.share_book.specs.declared.entry.Act.TheVariants.{Begin, Found, Blocked, Abort}
use Rattle.share_book.specs.declared.table.LogState.{LogState}
use Rattle.share_book.specs.History.{entry, open_on, table_on}
use Rattle.share_book.specs.Legal.{IsKeptLog, There}
use Rattle.share_book.specs.Tables.{IsState}
use Rattle.share_book.specs.TableView.{TableLog}
use Rattle.hub_tables.specs.declared.table_turns.LogOpened.{LogOpened}
use Rattle.hub_tables.specs.declared.table_turns.LogOpened.TheVariants as opened
use Rattle.hub_tables.specs.declared.table_turns.CommitPublished.{CommitPublished}
use Rattle.hub_tables.specs.declared.table_turns.CommitPublished.TheVariants as published
use Rattle.hub_calls.specs.Calls.{Adds, P}

-- the entries of commits that were found
abbrev pub founds : ℕ → ℕ → List (List Action) → List Entry
founds k j cs = map (λ c. entry k j (Found c)) cs

-- the entries of a caller's acts on a log
abbrev pub acts_on : ℕ → ℕ → List Act → List Entry
acts_on k j ends = map (λ a. entry k j a) ends

-- these commits stand after those that it has
abbrev pub with_commits : List (List Action) → TableLog → TableLog
with_commits cs t = record { location = t.location; commits = t.commits ++ cs; block = t.block }

-- the caller's Begin is open on a table's log, which stands so
pub record HoldsLog (p : P) (j : ℕ) (t : TableLog) : Type 0 where
  pub log : 0 < j
  pub holder : open_on j p.seen ≡ Some p.number
  pub table : table_on j p.seen ≡ Some t

-- a Begin stands on a table's log after what was seen, and is the last that is seen now
pub record BeginsOn (from : List Entry) (p q : P) (j : ℕ) (t : TableLog) : Type 0 where
  pub after : IsPrefix p.seen from
  pub last : q.seen ≡ from ++ entry p.number j Begin ∷ []
  pub added : Adds p q (entry p.number j Begin ∷ [])
  pub table : table_on j from ≡ Some t
  pub holds : HoldsLog q j t

abbrev pub BeginsLog : LogOpened → ℕ → P → P → Type 0
BeginsLog (opened.Open s) j p q = (from : List Entry) × (t : TableLog) × BeginsOn from p q j t × IsState t s × IsKeptLog t.commits
BeginsLog opened.Held j p q = Adds p q []
BeginsLog opened.NoMemory j p q = Adds p q []

abbrev pub StartsLog : Option LogState → ℕ → P → P → Type 0
StartsLog (Some s) j p q = (from : List Entry) × (t : TableLog) × BeginsOn from p q j t × IsState t s × IsKeptLog t.commits
StartsLog None j p q = Adds p q []

-- These found commits were added on the log since, and what the caller has begun is still open.
pub record GoesOn (p q : P) (j : ℕ) (cs : List (List Action)) : Type 0 where
  pub added : Adds p q (founds p.number j cs)
  pub holder : open_on j q.seen ≡ Some q.number
  pub table : table_on j q.seen ≡ option_map (with_commits cs) (table_on j p.seen)

-- These found commits were added on the log since, and then the acts that end what the caller has begun.
pub record StopsOn (p q : P) (j : ℕ) (cs : List (List Action)) (ends : List Act) : Type 0 where
  pub added : Adds p q (founds p.number j cs ++ acts_on p.number j ends)
  pub before : List Entry
  pub last : q.seen ≡ before ++ acts_on p.number j ends
  pub table : table_on j before ≡ option_map (with_commits cs) (table_on j p.seen)

abbrev pub FindsCommit : CommitPublished → ℕ → List Action → P → P → Type 0
FindsCommit published.Open j c p q = GoesOn p q j (c ∷ [])
FindsCommit published.NoMemory j c p q = StopsOn p q j (c ∷ []) (Abort ∷ [])

-- the version at the log's end isn't kept, and the caller ended what it began
abbrev pub BlocksLog : ℕ → P → P → Type 0
BlocksLog j p q = There (table_on j p.seen) (λ t. StopsOn p q j [] (Blocked (length t.commits) ∷ Abort ∷ []))
