-- How a count is made of the one before it.
use Rattle.std.specs.Prelude.{ℕ, ◌+◌, Option, Some, None}
use Rattle.std.specs.declared.snapshot.Snapshot.{Snapshot}

abbrev pub counted : Option (Snapshot ℕ) → ℕ
counted None = 0
counted (Some s) = s.value + 1
