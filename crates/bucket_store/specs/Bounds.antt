-- How many bytes the answer to a get may tell.
use Rattle.std.specs.Prelude.{ℕ, ◌≤◌, ⊤}
use Rattle.edge_core.specs.declared.store.Got.{Got}
use Rattle.edge_core.specs.declared.store.Got.TheVariants as got

-- no more than there was room for
abbrev pub IsWithin : ℕ → Got → Type 0
IsWithin room (got.Bytes n) = n ≤ room
IsWithin room got.Absent = ⊤
IsWithin room got.Failed = ⊤
