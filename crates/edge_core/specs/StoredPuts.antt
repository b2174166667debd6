-- How many puts a store has answered with `Stored`.
use Rattle.std.specs.Prelude.{ℕ, ◌+◌}
use Rattle.edge_core.specs.declared.store.Put.{Put}
use Rattle.edge_core.specs.declared.store.Put.TheVariants as put

-- the count after a put
abbrev pub stored_after : ℕ → Put → ℕ
stored_after before put.Stored = before + 1
stored_after before put.Exists = before
stored_after before put.Failed = before
