-- What `stdio` does: a server is opened over the store, and one connection is served over the input and the output.
use Rattle.std.specs.Prelude.{◌≡◌, ◌⊎◌, ℕ, List, Option, Some, None, Err, ⊤, length}
use Rattle.std.specs.Bool.{OnTrue}
use Rattle.edge_core.specs.Faults.{Rose}
use Rattle.edge_core.specs.Objects.{Objects, Between, Lacks}
use Rattle.catalog_log.specs.RecordNames.{record_name_of}
use Rattle.log_store.specs.Loads.{Looked}
use Rattle.share_config.specs.declared.config.Config.{Config}
use Rattle.hub_catalog.specs.CatalogCalls.{Step}
use Rattle.hub_calls.specs.Calls.{P}
use Rattle.hub_catalog.specs.Edits.{AreSteps}
use Rattle.hub_catalog.specs.Opens.{OpensAs, first_history}
use Rattle.hub_catalog.specs.declared.open.OpenRefusal.{OpenRefusal}
use Rattle.hub_catalog.specs.declared.open.OpenRefusal.TheVariants as refusal
use Rattle.share_serve.specs.Callers.{server_of}
use Rattle.share_serve.specs.Sessions.{HasCause, IsSession}
use Rattle.share_serve.specs.Sides.{hold, shelf, side}
use Rattle.share_serve.specs.Turns.{Grew, Shelf}
use Rattle.share_serve.specs.declared.serve.SessionEnd.{SessionEnd}
use Rattle.share_serve.specs.declared.serve.SessionEnd.TheVariants as session_end
use Rattle.turn_cell.specs.Entries.{IsHistory}
use Rattle.turn_cell.specs.Passes.{fresh}
use Rattle.share_book.specs.History.{caller_of}
use Rattle.share_book.specs.Legal.{May}
use Rattle.share_commands.specs.Configuration.{config_at}
use Rattle.query_command.specs.Outside.{Outside}
use Rattle.query_command.specs.declared.ends.End.{End}
use Rattle.query_command.specs.declared.ends.End.TheVariants as ends
use Rattle.share_commands.specs.declared.opening.NoServer.{NoServer}
use Rattle.share_commands.specs.declared.opening.NoServer.TheVariants as no_server

-- ---- how a run ends

-- for want of a server
abbrev pub end_without : NoServer → End
end_without no_server.Configuration = ends.Configuration
end_without (no_server.Record number) = ends.Record number
end_without no_server.StoreFault = ends.StoreFault
end_without no_server.NoMemory = ends.NoMemory

-- after a session
abbrev pub end_after : SessionEnd → End
end_after (session_end.Done served) = ends.Done
end_after (session_end.Truncated at served) = ends.Input
end_after (session_end.BadMessage at flaw served) = ends.Input
end_after (session_end.ReadFault served) = ends.ReadFault
end_after (session_end.WriteFault served) = ends.WriteFault
end_after (session_end.BodyCut served sent) = ends.BodyCut
end_after (session_end.NoMemory served) = ends.NoMemory

-- ---- the server

-- at one moment the store's configuration is this, or there is none
abbrev pub Configures : Option Config → Option Objects → Option Objects → Type 0
Configures config old new = Between old new (λ objects. config_at objects ≡ config)

-- The hub has one caller, whose pass has seen the edits of the catalogue's records, up to the first record that was absent.
pub record Opens (pass : P) (old new : Option Objects) : Type 0 where
  pub found : List Step
  pub one : pass.cell.callers ≡ 1
  pub begins : pass ≡ fresh pass.cell 0 (first_history found)
  pub steps : AreSteps old new 0 found
  pub last : Lacks (record_name_of (length found)) new

abbrev pub record_in : OpenRefusal → Option ℕ
record_in (refusal.Record number fault) = Some number
record_in (refusal.Edit number why) = Some number
record_in refusal.StoreFault = None
record_in refusal.NoMemory = None

-- the record of that number is none, or the catalogue refuses its edit after those of the records before it
abbrev pub RefusesRecord : ℕ → Option Objects → Option Objects → Type 0
RefusesRecord number old new = (why : OpenRefusal) × (record_in why ≡ Some number) × OpensAs (Err why) 1 old new

-- Why there is no server. The configuration is read before the records. Want of memory needs no cause.
abbrev pub HasReason : NoServer → (old new : Option Objects) → (before now : ℕ) → Type 0
HasReason no_server.Configuration old new before now = Configures None old new
HasReason (no_server.Record number) old new before now = ((config : Config) × Configures (Some config) old new) × RefusesRecord number old new
HasReason no_server.StoreFault old new before now = Rose before now
HasReason no_server.NoMemory old new before now = ⊤

-- ---- a run

-- There was no server: nothing was read, written or stored, and the clock wasn't asked.
pub record IsUnserved (why : NoServer) (old new : Outside) : Type 0 where
  pub reason : HasReason why old.objects new.objects old.store_faults new.store_faults
  pub left : new.left ≡ old.left
  pub held : new.held ≡ old.held
  pub coming : new.coming ≡ old.coming
  pub same : OnTrue old.alone (new.objects ≡ old.objects)
  pub stored : new.stored ≡ old.stored

abbrev pub shelf_of : Outside → Shelf
shelf_of o = shelf o.objects o.alone o.store_faults o.stored

-- One session was served over the input and the output, by the configuration in the store and over a hub that was opened in this run.
-- Nothing was stored before it began. The output kept something back before it, and behind it. Its end has its cause in this run. In what it had seen at its end each entry may stand after those before it, and is its own caller's.
pub record IsServed (config : Config) (e : SessionEnd) (old new : Outside) : Type 0 where
  pub pass : P
  pub begun : Shelf
  pub looked : Looked old.objects begun.objects old.alone begun.alone
  pub stored : begun.stored ≡ old.stored
  pub configured : Configures (Some config) old.objects begun.objects
  pub opened : Opens pass old.objects begun.objects
  pub last : P
  pub kept : List ℕ
  pub kept_new : List ℕ
  pub grew : Grew (hold pass begun) (hold last (shelf_of new))
  pub known : IsHistory caller_of May 1 last.seen
  pub session : IsSession (server_of config) old.left new.left (side old.coming (hold pass begun) old.held kept) (side new.coming (hold last (shelf_of new)) new.held kept_new) e
  pub cause : HasCause e old.read_faults new.read_faults old.write_faults new.write_faults old.objects old.store_faults new.store_faults

-- why a run ends so, and what it did
abbrev pub IsStdio : Outside → Outside → End → Type 0
IsStdio old new end = ((why : NoServer) × (end ≡ end_without why) × IsUnserved why old new) ⊎ ((e : SessionEnd) × (end ≡ end_after e) × ((config : Config) × IsServed config e old new))
