-- The history with which a hub begins is caller 0's.
use Rattle.std.proofs.Common.{ℕ, ◌≤◌, ◌<◌, List, [], ◌∷◌, ◌++◌, Option, Some, None, arith}
use Rattle.turn_cell.specs.Entries.{AllBelow}
use Rattle.share_book.specs.History.{caller_of, entry}
use Rattle.share_book.specs.declared.entry.Act.{Act}
use Rattle.share_book.specs.declared.entry.Act.TheVariants.{Abort, FoundEdit}
use Rattle.share_book.specs.declared.entry.Entry.{Entry}
use Rattle.share_book.specs.declared.entry.LogStart.{LogStart}
use Rattle.hub_catalog.specs.CatalogCalls.{Step, finds}
use Rattle.hub_catalog.specs.CatalogTurns.{loading}
use Rattle.hub_catalog.specs.Opens.{first_history}

both_below : (n : ℕ) (xs ys : List Entry) → AllBelow caller_of n xs → AllBelow caller_of n ys → AllBelow caller_of n (xs ++ ys)
both_below n [] ys a b = b
both_below n (x ∷ xs) ys a b = (a.0, both_below n xs ys a.1 b)

loading_below : (n : ℕ) (l : Option LogStart) (a : Act) → 0 < n → AllBelow caller_of n (loading 0 l a)
loading_below n None a some = (some, tt)
loading_below n (Some s) a some = (some, (some, tt))

finds_below : (n : ℕ) (xs : List Step) → 0 < n → AllBelow caller_of n (finds 0 xs)
finds_below n [] some = tt
finds_below n (x ∷ xs) some = both_below n (loading 0 x.load (FoundEdit x.edit)) (finds 0 xs) (loading_below n x.load (FoundEdit x.edit) some) (finds_below n xs some)

pub first_below : (n : ℕ) (found : List Step) → 1 ≤ n → AllBelow caller_of n (first_history found)
first_below n found one =
    let some : 0 < n = omega arith in
    (some, both_below n (finds 0 found) (entry 0 0 Abort ∷ []) (finds_below n found some) (some, tt))
