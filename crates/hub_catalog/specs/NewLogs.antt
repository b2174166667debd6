-- What a look for an edit's log ended with.
use Rattle.std.specs.Prelude.{◌≡◌, ℕ, List, Option, Result, Ok, Err, ⊤, Bool, true, false}
use Rattle.edge_core.specs.Objects.{Between, Objects}
use Rattle.log_store.specs.declared.refusal.LoadRefusal.{LoadRefusal}
use Rattle.share_book.specs.Legal.{IsKeptLog}
use Rattle.share_book.specs.declared.entry.LogStart.{LogStart}
use Rattle.hub_catalog.specs.CatalogTurns.{start_from}
use Rattle.log_store.specs.declared.refusal.LoadRefusal.TheVariants as load
use Rattle.hub_catalog.specs.declared.new_log.Allowed.{Allowed}
use Rattle.hub_catalog.specs.declared.new_log.Allowed.TheVariants as allowed

-- the log is kept, and is that of the location at a moment between these
abbrev pub IsNewLog : Result LogStart LoadRefusal → List ℕ → Option Objects → Option Objects → Type 0
IsNewLog (Ok s) location old new = (s.location ≡ location) × IsKeptLog s.commits × Between old new (λ os. s ≡ start_from location os)
IsNewLog (Err r) location old new = ⊤

abbrev pub failed_allowed : Allowed → Bool
failed_allowed (allowed.Failed load.StoreFault) = true
failed_allowed _ = false
