-- Commits that the store has beyond those that are known, and what is added of them (Delta Lake PROTOCOL.md, "Delta Log Entries").
use Rattle.std.specs.Prelude.{◌≡◌, ℕ, List, [], ◌∷◌, ◌++◌, Option, Some, None, Ok, ⊤, IfSome, IsSome, length, option_map}
use mathlib.Core.List.{IsPrefix}
use Rattle.edge_core.specs.Objects.{Objects}
use Rattle.log_actions.specs.declared.actions.Action.{Action}
use Rattle.log_commit.specs.Texts.{commit_in}
use Rattle.log_store.specs.Log.{cause_of, cause_with, text_at}
use Rattle.share_book.specs.declared.entry.Entry.{Entry}
use Rattle.share_book.specs.declared.entry.Act.{Act}
use Rattle.share_book.specs.declared.entry.Act.TheVariants.{Begin}
use Rattle.share_book.specs.History.{entry, table_on}
use Rattle.share_book.specs.Legal.{There}
use Rattle.hub_calls.specs.Calls.{Adds, P}
use Rattle.hub_tables.specs.TableCalls.{acts_on, founds, with_commits}

-- a commit is what the store has as the version at the log's end, and is kept after the log
abbrev pub IsFoundAt : List ℕ → Option Objects → List (List Action) → List Action → Type 0
IsFoundAt location new log c = (cause_with log c ≡ None) × IfSome new (λ os. option_map commit_in (text_at location os (length log)) ≡ Some (Ok c))

-- commits are what the store has as the versions from the log's end on, each kept after those before it
abbrev pub AreFound : List ℕ → Option Objects → List (List Action) → List (List Action) → Type 0
AreFound location new log [] = ⊤
AreFound location new log (c ∷ cs) = IsFoundAt location new log c × AreFound location new (log ++ c ∷ []) cs

-- the store has an object as the version at the log's end, which isn't kept: it is no commit, its table isn't read, or the log would pass 64 MiB
abbrev pub IsUnkept : List ℕ → Option Objects → List (List Action) → Type 0
IsUnkept location new log = IfSome new (λ os. There (text_at location os (length log)) (λ bytes. IsSome (cause_of log bytes)))

-- What a call did that began on a table's log, after `from`: it published commits that the store had, and ended with its own acts.
pub record RanOn (location : List ℕ) (new : Option Objects) (p q : P) (j : ℕ) (found : List (List Action)) (ends : List Act) : Type 0 where
  pub from : List Entry
  pub after : IsPrefix p.seen from
  pub begun : IsPrefix (from ++ entry p.number j Begin ∷ []) q.seen
  pub added : Adds p q (entry p.number j Begin ∷ (founds p.number j found ++ acts_on p.number j ends))
  pub before : List Entry
  pub last : q.seen ≡ before ++ acts_on p.number j ends
  pub table : table_on j before ≡ option_map (with_commits found) (table_on j from)
  pub stored : There (table_on j from) (λ t. AreFound location new t.commits found)
