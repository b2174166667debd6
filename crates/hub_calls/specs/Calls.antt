-- What a call of the hub does to a pass, and to a store's count of stored puts.
use Rattle.std.specs.Prelude.{◌≡◌, ℕ, ◌+◌, false, List, ◌++◌, Result, Ok, Err}
use mathlib.Core.List.{IsPrefix}
use Rattle.turn_cell.specs.Entries.{IsHistory}
use Rattle.turn_cell.specs.Passes.{PassView, mine}
use Rattle.share_book.specs.declared.entry.Entry.{Entry}
use Rattle.share_book.specs.History.{caller_of}
use Rattle.share_book.specs.Legal.{May}

abbrev pub P : Type 0
P = PassView Entry

-- it is of the same cell, with the same number, holds no turn and has seen no less
pub record IsIdle (p q : P) : Type 0 where
  pub cell : q.cell ≡ p.cell
  pub number : q.number ≡ p.number
  pub holds : q.holds ≡ false
  pub seen : IsPrefix p.seen q.seen

-- what it has seen is legal, and by the callers of its cell alone
abbrev pub IsKnown : P → Type 0
IsKnown p = IsHistory caller_of May p.cell.callers p.seen

-- the caller's entries are those before and these
abbrev pub Adds : P → P → List Entry → Type 0
Adds p q own = mine caller_of q ≡ mine caller_of p ++ own

-- how many puts a store has stored after a call that answered so: with Ok one more, the call's own
abbrev pub acknowledged : {E : Type 0} → ℕ → Result ℕ E → ℕ
acknowledged before (Ok n) = before + 1
acknowledged before (Err e) = before
