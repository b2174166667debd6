-- What the steps of `client` do, one after another.
use Rattle.std.specs.Prelude.{◌≡◌, ℕ, List, Option, Some, None, IfSome, Result, Ok, Err, ⊤}
use Rattle.std.specs.Bool.{OnTrue}
use Rattle.edge_core.specs.Faults.{Rose}
use Rattle.edge_core.specs.Objects.{Grows, Objects}
use Rattle.log_store.specs.Loads.{Looked}
use Rattle.log_store.specs.declared.refusal.LoadRefusal.{LoadRefusal}
use Rattle.log_store.specs.declared.refusal.LoadRefusal.TheVariants as refusal
use Rattle.share_config.specs.declared.profile.Profile.{Profile}
use Rattle.client_calls.specs.Bodies.{body_in}
use Rattle.client_calls.specs.declared.call.Call.{Call}
use Rattle.share_commands.specs.Clients.{HasNoCall, HasProfile, IsRead, NamesCall, input_body}
use Rattle.query_command.specs.Outside.{Outside}
use Rattle.query_command.specs.Query.{IsReadToEnd}
use Rattle.share_commands.specs.declared.client.NoCall.{NoCall}
use Rattle.share_commands.specs.declared.client.NoCall.TheVariants as no_call
use Rattle.share_commands.specs.declared.words.CallWords.{CallWords}

-- the body that bytes are, or why there is none
abbrev pub IsBody : List ℕ → Result (List ℕ) NoCall → Type 0
IsBody bytes (Ok body) = body_in bytes ≡ Some body
IsBody bytes (Err no_call.Input) = body_in bytes ≡ None
IsBody bytes (Err no_call.NoMemory) = ⊤
IsBody bytes (Err other) = ⊥

-- the body that the input is, or why there is none
abbrev pub IsInputBody : (old new : Option (List ℕ)) → (before now : ℕ) → Result (List ℕ) NoCall → Type 0
IsInputBody old new before now (Ok body) = IfSome old (λ input. input_body input ≡ Some body) × IsReadToEnd old new
IsInputBody old new before now (Err no_call.Input) = IfSome old (λ input. input_body input ≡ None)
IsInputBody old new before now (Err no_call.ReadFault) = Rose before now
IsInputBody old new before now (Err no_call.NoMemory) = ⊤
IsInputBody old new before now (Err other) = ⊥

-- the profile, where one was found
abbrev pub if_found : Option Profile → Result Profile NoCall
if_found (Some p) = Ok p
if_found None = Err no_call.Profile

-- why there is none, where the store wasn't read
abbrev pub unread : LoadRefusal → NoCall
unread refusal.StoreFault = no_call.StoreFault
unread refusal.NoMemory = no_call.NoMemory

-- the profile of that name that a store has, or why there is none, by what it holds and by its count of faults
abbrev pub IsProfile : (name : List ℕ) → (old new : Option Objects) → (before now : ℕ) → Result Profile NoCall → Type 0
IsProfile name old new before now (Ok p) = HasProfile name (Some p) old new
IsProfile name old new before now (Err no_call.Profile) = HasProfile name None old new
IsProfile name old new before now (Err no_call.StoreFault) = Rose before now
IsProfile name old new before now (Err no_call.NoMemory) = ⊤
IsProfile name old new before now (Err other) = ⊥

-- the call that the words name, with its profile, or why there is none
abbrev pub Prepares : (name : List ℕ) → CallWords → Outside → Outside → Result (Profile × Call) NoCall → Type 0
Prepares name call_words old new (Ok found) = HasProfile name (Some found.0) old.objects new.objects × NamesCall call_words found.1 old.left new.left
Prepares name call_words old new (Err why) = HasNoCall why name call_words old new

-- nothing but the input changed
abbrev pub ReadsOnly : Outside → Outside → Type 0
ReadsOnly old new = new ≡ record old { left = new.left; read_faults = new.read_faults }

-- neither the output nor the notes were used, and the store was looked at
pub record LooksAndReads (old new : Outside) : Type 0 where
  pub held : new.held ≡ old.held
  pub write_faults : new.write_faults ≡ old.write_faults
  pub notes : new.noted ≡ old.noted
  pub note_faults : new.note_faults ≡ old.note_faults
  pub looked : Looked old.objects new.objects old.alone new.alone
  pub stored : new.stored ≡ old.stored

-- nothing was noted or stored
pub record NotesNothing (old new : Outside) : Type 0 where
  pub notes : new.noted ≡ old.noted
  pub note_faults : new.note_faults ≡ old.note_faults
  pub grows : Grows old.objects new.objects
  pub same : OnTrue old.alone (new.objects ≡ old.objects)
  pub stored : new.stored ≡ old.stored

-- the call that the words name, or why there is none
abbrev pub CallOf : CallWords → (old new : Option (List ℕ)) → (before now : ℕ) → Result Call NoCall → Type 0
CallOf call_words old new before now (Ok c) = NamesCall call_words c old new
CallOf call_words old new before now (Err no_call.Input) = IsRead call_words × IfSome old (λ input. input_body input ≡ None)
CallOf call_words old new before now (Err no_call.ReadFault) = IsRead call_words × Rose before now
CallOf call_words old new before now (Err no_call.NoMemory) = ⊤
CallOf call_words old new before now (Err other) = ⊥
