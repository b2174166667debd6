-- What the steps of `stdio` do, one after another.
use Rattle.std.specs.Prelude.{◌≡◌, ℕ, ◌≤◌, List, Option, Some, Result, Ok, Err, length}
use Rattle.turn_cell.specs.Passes.{CellId}
use Rattle.edge_core.specs.Objects.{Lacks, Objects}
use Rattle.catalog_log.specs.RecordNames.{record_name_of}
use Rattle.log_store.specs.Loads.{Looked}
use Rattle.log_store.specs.declared.refusal.LoadRefusal.{LoadRefusal}
use Rattle.log_store.specs.declared.refusal.LoadRefusal.TheVariants as load
use Rattle.share_config.specs.declared.config.Config.{Config}
use Rattle.hub_catalog.specs.CatalogCalls.{Step}
use Rattle.hub_calls.specs.Calls.{P}
use Rattle.hub_catalog.specs.Edits.{AreSteps}
use Rattle.hub_catalog.specs.Opens.{first_history}
use Rattle.hub_catalog.specs.declared.open.OpenRefusal.{OpenRefusal}
use Rattle.hub_catalog.specs.declared.open.OpenRefusal.TheVariants as refusal
use Rattle.share_serve.specs.Callers.{server_of}
use Rattle.share_serve.specs.Sessions.{HasCause, IsSession}
use Rattle.share_serve.specs.Sides.{hold, side}
use Rattle.share_serve.specs.Turns.{Grew}
use Rattle.share_serve.specs.declared.serve.SessionEnd.{SessionEnd}
use Rattle.share_serve.specs.declared.server.Server.{Server}
use Rattle.turn_cell.specs.Entries.{IsHistory}
use Rattle.turn_cell.specs.Passes.{AllFresh}
use Rattle.share_book.specs.History.{caller_of}
use Rattle.share_book.specs.Legal.{May}
use Rattle.query_command.specs.Outside.{Outside}
use Rattle.share_commands.specs.Stdio.{Configures, HasReason, shelf_of}
use Rattle.share_commands.specs.declared.opening.NoServer.{NoServer}
use Rattle.share_commands.specs.declared.opening.NoServer.TheVariants as no_server
use Rattle.share_commands.specs.declared.opening.Opened.{Opened}

abbrev pub without_load : LoadRefusal → NoServer
without_load load.StoreFault = no_server.StoreFault
without_load load.NoMemory = no_server.NoMemory

abbrev pub without_hub : OpenRefusal → NoServer
without_hub (refusal.Record number fault) = no_server.Record number
without_hub (refusal.Edit number why) = no_server.Record number
without_hub refusal.StoreFault = no_server.StoreFault
without_hub refusal.NoMemory = no_server.NoMemory

-- The hub has so many callers, whose passes, numbered from 0, have seen the edits of the catalogue's records, up to the first record that was absent: a legal history, by these callers alone.
pub record OpensFor (callers : ℕ) (hub : CellId) (passes : List P) (old new : Option Objects) : Type 0 where
  pub count : length passes ≡ callers
  pub callers_are : hub.callers ≡ callers
  pub found : List Step
  pub begin : AllFresh hub (first_history found) 0 passes
  pub known : IsHistory caller_of May callers (first_history found)
  pub steps : AreSteps old new 0 found
  pub last : Lacks (record_name_of (length found)) new

-- the server is that of the store's configuration, and its passes are new; or why there is none
abbrev pub IsOpened : Result Opened NoServer → ℕ → (old new : Option Objects) → (before now : ℕ) → Type 0
IsOpened (Ok o) callers old new before now = ((config : Config) × (o.server ≡ server_of config) × Configures (Some config) old new) × OpensFor callers o.hub o.passes.items old new
IsOpened (Err why) callers old new before now = HasReason why old new before now

-- the store was looked at, and nothing else was used
pub record LooksOnly (old new : Outside) : Type 0 where
  pub rest : new ≡ record old { objects = new.objects; alone = new.alone; store_faults = new.store_faults; stored = new.stored }
  pub looked : Looked old.objects new.objects old.alone new.alone
  pub later : old.store_faults ≤ new.store_faults
  pub stored : new.stored ≡ old.stored

-- One session was served by that server, from that pass on, with what the output kept back before it and behind it. Nothing is noted.
pub record ServesOne (server : Server) (pass : P) (e : SessionEnd) (old new : Outside) : Type 0 where
  pub last : P
  pub kept : List ℕ
  pub kept_new : List ℕ
  pub grew : Grew (hold pass (shelf_of old)) (hold last (shelf_of new))
  pub known : IsHistory caller_of May last.cell.callers last.seen
  pub session : IsSession server old.left new.left (side old.coming (hold pass (shelf_of old)) old.held kept) (side new.coming (hold last (shelf_of new)) new.held kept_new) e
  pub cause : HasCause e old.read_faults new.read_faults old.write_faults new.write_faults old.objects old.store_faults new.store_faults
  pub notes : new.noted ≡ old.noted
  pub note_faults : new.note_faults ≡ old.note_faults
