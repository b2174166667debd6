-- What a run does, as a plain function of its words, its input and the stored objects, as far as these decide it.
use Rattle.std.specs.Prelude.{◌≡◌, ℕ, ◌⊎◌, List, [], ◌++◌, Option, Some, None, Result, Ok, Err, String, ⊤}
use Rattle.std.specs.declared.alloc.Global.{Global}
use Rattle.edge_core.specs.Faults.{Rose}
use Rattle.edge_core.specs.Objects.{Objects, Grows}
use Rattle.share_config.specs.declared.config.Config.{Config}
use Rattle.query_command.specs.declared.ends.TableRefusal.{TableRefusal}
use Rattle.share_client.specs.declared.fault.ClientFault.{ClientFault}
use Rattle.share_config.specs.declared.profile.Profile.{Profile}
use Rattle.client_calls.specs.ProfileObjects.{profile_at}
use Rattle.client_calls.specs.declared.call.Call.{Call}
use Rattle.share_loop.specs.Summaries.{IsSummary}
use Rattle.share_commands.specs.Clients.{call_in, end_called}
use Rattle.share_commands.specs.Configuration.{config_at}
use Rattle.share_commands.specs.Words.{command_in}
use Rattle.query_command.specs.Ends.{status, note}
use Rattle.query_command.specs.Query.{asked_in}
use Rattle.hub_catalog.specs.CatalogCalls.{Step}
use Rattle.share_commands.specs.Serve.{OpensServer, end_of}
use Rattle.share_commands.specs.Stdio.{IsServed, IsUnserved, end_after}
use Rattle.share_pool.specs.declared.desk.ServeEnd.{ServeEnd}
use Rattle.query_command.specs.Table.{lines_in}
use Rattle.query_body.specs.declared.query.QueryBody.{QueryBody}
use Rattle.share_serve.specs.declared.serve.SessionEnd.{SessionEnd}
use Rattle.query_command.specs.Outside.{Outside}
use Rattle.query_command.specs.declared.ends.End.{End}
use Rattle.query_command.specs.declared.ends.End.TheVariants as ends
use Rattle.share_commands.specs.declared.opening.NoServer.TheVariants as no_server
use Rattle.share_commands.specs.declared.words.Command.{Command}
use Rattle.share_commands.specs.declared.words.Command.TheVariants as command
use Rattle.share_commands.specs.declared.words.TheConstants.{HELP, VERSION}

-- a status, and what is written to the notes and to the output
pub record Deed : Type 0 where
  pub status : ℕ
  pub notes : List ℕ
  pub output : List ℕ

-- A deed; or that a rehearsal is told; or that a server of this configuration is opened, and serves one connection, or has workers serve; or that the server of this profile is asked. The last three rest on the clock and on others too.
pub data Wanted : Type 0 where
  deed : Deed → Wanted
  rehearsal : Wanted
  serve : Config → Wanted
  host : Config → Wanted
  ask : Profile → Call → Wanted

abbrev pub printed : List ℕ → Deed
printed text = record { status = 0; notes = []; output = text }

abbrev pub refused : End → Deed
refused end = record { status = status end; notes = note end; output = [] }

abbrev pub answered : Result (List ℕ) TableRefusal → Deed
answered (Ok text) = printed text
answered (Err why) = refused (ends.Table why)

abbrev pub queried : List ℕ → Option QueryBody → Objects → Deed
queried location (Some query) objects = answered (lines_in location query objects)
queried location None objects = refused ends.Input

abbrev pub configured : (Config → Wanted) → Option Config → Wanted
configured wanted (Some config) = wanted config
configured wanted None = deed (refused ends.Configuration)

-- the profile is looked at before the input
abbrev pub asked_of : Option Profile → Option Call → Wanted
asked_of None call = deed (refused ends.Profile)
asked_of (Some profile) None = deed (refused ends.Input)
asked_of (Some profile) (Some call) = ask profile call

abbrev pub done : Option Command → List ℕ → Objects → Wanted
done None input objects = deed (refused ends.Words)
done (Some command.Help) input objects = deed (printed HELP.now)
done (Some command.Version) input objects = deed (printed VERSION.now)
done (Some (command.Query location)) input objects = deed (queried location (asked_in input) objects)
done (Some command.Stdio) input objects = configured serve (config_at objects)
done (Some (command.Rehearse number)) input objects = rehearsal
done (Some (command.Serve port workers)) input objects = configured host (config_at objects)
done (Some (command.Client name call_words)) input objects = asked_of (profile_at name objects) (call_in call_words input)

abbrev pub expected : List (String Global) → List ℕ → Objects → Wanted
expected words input objects = done (command_in words) input objects

-- All is told before the call, and no count of faults rose in it.
pub record IsCalm (old new : Outside) (input : List ℕ) (objects : Objects) (held noted : List ℕ) : Type 0 where
  pub tells_left : old.left ≡ Some input
  pub tells_objects : old.objects ≡ Some objects
  pub tells_held : old.held ≡ Some held
  pub tells_noted : old.noted ≡ Some noted
  pub reads : Rose old.read_faults new.read_faults → ⊥
  pub stores : Rose old.store_faults new.store_faults → ⊥
  pub writes : Rose old.write_faults new.write_faults → ⊥
  pub note_writes : Rose old.note_faults new.note_faults → ⊥

-- The status is the deed's, and its texts stand after what was noted and held before.
pub record Does (new : Outside) (result : ℕ) (held noted : List ℕ) (d : Deed) : Type 0 where
  pub status : result ≡ d.status
  pub notes : new.noted ≡ Some (noted ++ d.notes)
  pub output : new.held ≡ Some (held ++ d.output)

-- a record of the catalogue was refused, or a server was opened whose workers ended
abbrev pub HostsBy : Config → Outside → Outside → End → Type 0
HostsBy config old new end =
    ((number : ℕ) × (end ≡ ends.Record number) × IsUnserved (no_server.Record number) old new) ⊎ ((e : ServeEnd) × (end ≡ end_of e) × ((found : List Step) × OpensServer config found old new))

-- a record of the catalogue was refused, or a session was served to its end
abbrev pub ServesBy : Config → Outside → Outside → End → Type 0
ServesBy config old new end = ((number : ℕ) × (end ≡ ends.Record number) × IsUnserved (no_server.Record number) old new) ⊎ ((e : SessionEnd) × (end ≡ end_after e) × IsServed config e old new)

-- the call was made and answered
abbrev pub AsksBy : Outside → Outside → End → Type 0
AsksBy old new end = (answer : Result ⊤ ClientFault) × (end ≡ end_called answer)

-- Status and notes are those of the end, and the end has its cause.
pub record EndsBy (Cause : Outside → Outside → End → Type 0) (old new : Outside) (result : ℕ) (noted : List ℕ) : Type 0 where
  pub end : End
  pub cause : Cause old new end
  pub told : result ≡ status end
  pub notes : new.noted ≡ Some (noted ++ note end)

abbrev pub Fulfils : Wanted → Outside → Outside → ℕ → (held noted : List ℕ) → Type 0
Fulfils (deed d) old new result held noted = Does new result held noted d
Fulfils rehearsal old new result held noted = (text : List ℕ) × IsSummary text × Does new result held noted (printed text)
Fulfils (serve config) old new result held noted = EndsBy (ServesBy config) old new result noted
Fulfils (host config) old new result held noted = EndsBy (HostsBy config) old new result noted
Fulfils (ask profile call) old new result held noted = EndsBy AsksBy old new result noted

-- Where memory sufficed, the run does what is expected over the objects of one moment of the call.
abbrev pub IsExact : List (String Global) → Outside → Outside → ℕ → Type 0
IsExact words old new result = (input : List ℕ) (objects : Objects) (held noted : List ℕ) → IsCalm old new input objects held noted
    → (result ≡ 6) ⊎ ((listed : Objects) × Grows (Some objects) (Some listed) × Grows (Some listed) new.objects × Fulfils (expected words input listed) old new result held noted)

-- Where nobody added an object meanwhile, that moment is the beginning of the call.
abbrev pub IsExactAlone : List (String Global) → Outside → Outside → ℕ → Type 0
IsExactAlone words old new result = (input : List ℕ) (objects : Objects) (held noted : List ℕ) → IsCalm old new input objects held noted → new.objects ≡ old.objects
    → (result ≡ 6) ⊎ Fulfils (expected words input objects) old new result held noted
