-- One history for all desks.
use Rattle.std.specs.Prelude.{All, ◌≡◌, ℕ, List, Option}
use Rattle.std.specs.Option.{IsSomeAnd}
use mathlib.Core.List.{IsPrefix}
use Rattle.turn_cell.specs.Entries.{IsHistory, made_by}
use Rattle.turn_cell.specs.Passes.{mine}
use Rattle.hub_calls.specs.Calls.{P}
use Rattle.share_book.specs.History.{caller_of}
use Rattle.share_book.specs.Legal.{May}
use Rattle.share_book.specs.declared.entry.Entry.{Entry}
use Rattle.share_pool.specs.declared.desk.Desk.{Desk}

-- the history has no other entries of the pass's number than those that it made
abbrev pub OwnIn : List Entry → P → Type 0
OwnIn history p = made_by caller_of p.number history ≡ mine caller_of p

-- what the pass has seen begins the history, which has no other entries of its number
abbrev pub Stands : List Entry → P → Type 0
Stands history p = IsPrefix p.seen history × OwnIn history p

-- the desk's pass has seen a beginning of the history
abbrev pub HasSeenUpTo : List Entry → Option P → Type 0
HasSeenUpTo history pass = IsSomeAnd pass (λ p. IsPrefix p.seen history)

-- There is one history: each entry may stand after those before it, and is of a caller below that number; each desk stands in it.
pub record OneAt {N W C L : Type 0} (callers : ℕ) (desks : List (Desk N W C L)) (history : List Entry) : Type 0 where
  pub known : IsHistory caller_of May callers history
  pub each : All (λ d. IsSomeAnd d.pass (Stands history)) desks
