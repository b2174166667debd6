-- What `serve` does: a server is opened over the store, and workers serve the connections that come to the port of the words, each at a desk.
use Rattle.std.specs.Prelude.{◌≡◌, ◌⊎◌, ◌<◌, ◌≤◌, ℕ, Bool, List, drop, length, map, max, min, take, Option, Some, slice_index_or}
use mathlib.Core.List.{IsPrefix}
use Rattle.turn_cell.specs.Passes.{CellId}
use Rattle.edge_core.specs.Faults.{Rose}
use Rattle.edge_core.specs.Lines.{ClosedLine}
use Rattle.edge_core.specs.Objects.{Lacks, Objects}
use Rattle.catalog_log.specs.RecordNames.{record_name_of}
use Rattle.log_store.specs.Loads.{Looked}
use Rattle.share_config.specs.declared.config.Config.{Config}
use Rattle.hub_catalog.specs.CatalogCalls.{Step}
use Rattle.hub_catalog.specs.Edits.{AreSteps}
use Rattle.hub_catalog.specs.Opens.{first_history}
use Rattle.share_book.specs.declared.entry.Entry.{Entry}
use Rattle.share_pool.specs.Desks.{DeskWorks, all_end}
use Rattle.share_pool.specs.OneHistory.{OneAt}
use Rattle.share_pool.specs.declared.desk.Desk.{Desk}
use Rattle.share_pool.specs.declared.desk.ServeEnd.{ServeEnd}
use Rattle.share_pool.specs.declared.desk.ServeEnd.TheVariants as serve_end
use Rattle.share_serve.specs.Callers.{server_of}
use Rattle.turn_cell.specs.Passes.{fresh}
use Rattle.query_command.specs.Outside.{Outside}
use Rattle.share_commands.specs.Stdio.{Configures, IsUnserved, end_without}
use Rattle.query_command.specs.declared.ends.End.{End}
use Rattle.query_command.specs.declared.ends.End.TheVariants as ends
use Rattle.share_commands.specs.declared.opening.NoServer.{NoServer}
use Rattle.share_commands.specs.declared.words.Command.{Command}
use Rattle.share_commands.specs.declared.words.Command.TheVariants as command

-- how a run ends after its workers
abbrev pub end_of : ServeEnd → End
end_of (serve_end.Closed served) = ends.Done
end_of serve_end.ListenerFault = ends.ListenerFault
end_of serve_end.NoMemory = ends.NoMemory

-- A server of this configuration was opened over the store, whose catalogue had the edits that were found, up to the first record
-- that was absent. Nothing was read, written or stored, and the clock wasn't asked.
pub record OpensServer (config : Config) (found : List Step) (old new : Outside) : Type 0 where
  pub looked : Looked old.objects new.objects old.alone new.alone
  pub stored : new.stored ≡ old.stored
  pub configured : Configures (Some config) old.objects new.objects
  pub steps : AreSteps old.objects new.objects 0 found
  pub last : Lacks (record_name_of (length found)) new.objects
  pub left : new.left ≡ old.left
  pub held : new.held ≡ old.held
  pub coming : new.coming ≡ old.coming

-- why a run ends so, as far as its own input, output and store go
abbrev pub IsServe : Outside → Outside → End → Type 0
IsServe old new end =
    ((why : NoServer) × (end ≡ end_without why) × IsUnserved why old new)
    ⊎ ((e : ServeEnd) × (end ≡ end_of e) × ((config : Config) × (found : List Step) × OpensServer config found old new))

-- ---- the desks

module _ {N W C L : Type 0} (coming : N → Option (List (List ℕ))) (closed : N → Option (List ClosedLine)) (failed : N → ℕ) (listens : N → Option ℕ) (moments : C → Option (List ℕ)) (objects : W → Option Objects) (alone : W → Bool) (faults : W → ℕ) (stored : W → ℕ) where
  -- at this desk no line came and none was closed, and its store and clock weren't used
  pub record Waits (old new : Desk N W C L) : Type 0 where
    pub same_coming : coming new.door ≡ coming old.door
    pub same_closed : closed new.door ≡ closed old.door
    pub later : failed old.door ≤ failed new.door
    pub same_store : new.store ≡ old.store
    pub same_clock : new.clock ≡ old.clock

  -- the same at each of the first desks
  abbrev pub AllWait : ℕ → (old new : List (Desk N W C L)) → Type 0
  AllWait workers old new = (i : ℕ) (d : Desk N W C L) → i < workers → Waits (slice_index_or old i d) (slice_index_or new i d)

  -- a door failed as it was to listen, and no worker began
  abbrev pub DoorFails : ℕ → (old new : List (Desk N W C L)) → Type 0
  DoorFails workers old new =
      AllWait workers old new × ((i : ℕ) × (i < workers) × ((d : Desk N W C L) → Rose (failed (slice_index_or old i d).door) (failed (slice_index_or new i d).door)))

  -- The worker of that number had the place of its number at the hub, which has seen the edits that the hub was opened with, and a door that listens at the port, and did its work from there.
  abbrev pub WorksAt : CellId → Config → List Step → (port i : ℕ) → (old new : Desk N W C L) → Type 0
  WorksAt hub config found port i old new =
      (ready : Desk N W C L) × Waits old ready × (ready.pass ≡ Some (fresh hub i (first_history found))) × (listens ready.door ≡ Some port) × DeskWorks coming closed failed listens moments objects alone faults stored hub (server_of config) ready new

  -- So many workers served what came to the port, each at its desk, all over one hub, and there is one history.
  pub record WorkersServe (config : Config) (found : List Step) (port workers : ℕ) (e : ServeEnd) (old new : List (Desk N W C L)) : Type 0 where
    pub hub : CellId
    pub each : (i : ℕ) (d : Desk N W C L) → i < workers → WorksAt hub config found port i (slice_index_or old i d) (slice_index_or new i d)
    pub end : e ≡ all_end (map (λ d. d.end) (take workers new))
    pub history : List Entry
    -- It begins with the edits that the hub was opened with.
    pub begins : IsPrefix (first_history found) history
    -- It is legal and by the workers alone (with none by the one caller who found those edits), and each worker stands in it.
    pub one : OneAt (max 1 workers) (take workers new) history

  -- why workers ended so
  abbrev pub IsServing : Config → List Step → (port workers : ℕ) → ServeEnd → (old new : List (Desk N W C L)) → Type 0
  IsServing config found port workers e old new = (DoorFails workers old new × (e ≡ serve_end.ListenerFault)) ⊎ WorkersServe config found port workers e old new

  -- A run of `serve`, by its input, output and store and by its desks: there was no server, and no desk was used; or there was one, and so many of the first desks were used.
  abbrev pub ServesAt : (port used : ℕ) → Outside → Outside → End → (old new : List (Desk N W C L)) → Type 0
  ServesAt port used old new end desks desks' =
      ((why : NoServer) × (end ≡ end_without why) × IsUnserved why old new × (desks' ≡ desks))
      ⊎ ((e : ServeEnd) × (end ≡ end_of e) × ((config : Config) × (found : List Step) × OpensServer config found old new × IsServing config found port used e desks desks' × (drop used desks' ≡ drop used desks)))

  -- as many desks are used as there are workers, and all where there are fewer
  abbrev pub Serves : (port workers : ℕ) → Outside → Outside → End → (old new : List (Desk N W C L)) → Type 0
  Serves port workers old new end desks desks' = ServesAt port (min workers (length desks)) old new end desks desks'

  -- what a run does to the desks: `serve` alone uses any
  abbrev pub UsesDesks : Option Command → Outside → Outside → End → (old new : List (Desk N W C L)) → Type 0
  UsesDesks (Some (command.Serve port workers)) old new end desks desks' = Serves port workers old new end desks desks'
  UsesDesks _ old new end desks desks' = desks' ≡ desks
