-- That what a run adds stands: what was acknowledged, and what was taken over from others, is in the one history and in the store.
use Rattle.std.specs.Prelude.{ℕ, ◌<◌, Bool, List, Option, slice_index_or}
use Rattle.std.specs.Option.{IsSomeAnd}
use Rattle.edge_core.specs.Lines.{ClosedLine}
use Rattle.edge_core.specs.Objects.{Objects}
use Rattle.hub_catalog.specs.CatalogCalls.{Step}
use Rattle.hub_catalog.specs.Opens.{first_history}
use Rattle.query_command.specs.Outside.{Outside}
use Rattle.share_commands.specs.Serve.{WorkersServe}
use Rattle.share_commands.specs.Stdio.{IsServed}
use Rattle.share_config.specs.declared.config.Config.{Config}
use Rattle.share_hub.specs.Backing.{AddsStanding}
use Rattle.share_pool.specs.declared.desk.Desk.{Desk}
use Rattle.share_pool.specs.declared.desk.ServeEnd.{ServeEnd}
use Rattle.share_serve.specs.declared.serve.SessionEnd.{SessionEnd}
use Rattle.turn_cell.specs.Passes.{fresh}

-- All that the session of a run of `stdio` added, behind the edits that the hub was opened with.
abbrev pub StdioStands : Type 0
StdioStands = (config : Config) (e : SessionEnd) (old new : Outside) (s : IsServed config e old new) → AddsStanding s.pass s.last new.objects

module _ {N W C : Type 0} (L : Type 0) (coming : N → Option (List (List ℕ))) (closed : N → Option (List ClosedLine)) (failed : N → ℕ) (listens : N → Option ℕ) (moments : C → Option (List ℕ)) (objects : W → Option Objects) (alone : W → Bool) (faults : W → ℕ) (stored : W → ℕ) where
  -- All that each worker of a run of `serve` added, behind the edits that the hub was opened with: in what its pass has seen, which is a
  -- part of the one history, and in its desk's store.
  abbrev pub ServeStands : Type 0
  ServeStands = (config : Config) (found : List Step) (port workers : ℕ) (e : ServeEnd) (old new : List (Desk N W C L)) (w : WorkersServe coming closed failed listens moments objects alone faults stored config found port workers e old new)
      → (i : ℕ) (d : Desk N W C L) → i < workers → IsSomeAnd (slice_index_or new i d).pass (λ p. AddsStanding (fresh w.hub i (first_history found)) p (objects (slice_index_or new i d).store))
