-- What `client` does: the profile of a recipient is read from the store, and its server is asked for what the words name, over a way to others.
use Rattle.std.specs.Prelude.{◌≡◌, ◌⊎◌, ℕ, List, Option, Some, None, IfSome, Result, Ok, Err, ⊤, length, nat_le, option_map, if◌then◌else◌}
use Rattle.edge_core.specs.Faults.{Rose}
use Rattle.edge_core.specs.Lines.{ClosedLine, PeerLine}
use Rattle.edge_core.specs.Objects.{Between, Objects}
use Rattle.share_client.specs.Sides.{counts, Known, Later}
use Rattle.share_client.specs.declared.fault.ClientFault.{ClientFault}
use Rattle.share_client.specs.declared.fault.ClientFault.TheVariants as fault
use Rattle.share_client.specs.declared.listing.SharedTable.{SharedTable}
use Rattle.share_config.specs.declared.profile.Profile.{Profile}
use Rattle.client_calls.specs.Bodies.{body_in}
use Rattle.client_calls.specs.Calls.{CallCause, Performs, TellsBadUrl}
use Rattle.client_calls.specs.ProfileObjects.{profile_at}
use Rattle.client_calls.specs.declared.call.Call.{Call}
use Rattle.client_calls.specs.declared.call.Call.TheVariants as calls
use Rattle.query_command.specs.Outside.{Outside}
use Rattle.query_command.specs.Query.{IsReadToEnd, input_limit}
use Rattle.share_commands.specs.declared.client.NoCall.{NoCall}
use Rattle.share_commands.specs.declared.client.NoCall.TheVariants as no_call
use Rattle.query_command.specs.declared.ends.End.{End}
use Rattle.query_command.specs.declared.ends.End.TheVariants as ends
use Rattle.query_command.specs.declared.ends.PeerRefusal.TheVariants as peer
use Rattle.share_commands.specs.declared.words.Command.{Command}
use Rattle.share_commands.specs.declared.words.Command.TheVariants as command
use Rattle.share_commands.specs.declared.words.CallWords.{CallWords}
use Rattle.share_commands.specs.declared.words.CallWords.TheVariants as worded

-- ---- how a run ends

-- for want of a call
abbrev pub end_uncalled : NoCall → End
end_uncalled no_call.Profile = ends.Profile
end_uncalled no_call.Input = ends.Input
end_uncalled no_call.ReadFault = ends.ReadFault
end_uncalled no_call.StoreFault = ends.StoreFault
end_uncalled no_call.NoMemory = ends.NoMemory

abbrev pub end_by : ClientFault → End
end_by (fault.Refused status refusal) = ends.Peer (peer.Refused status refusal)
end_by (fault.BadReply at) = ends.Peer (peer.BadReply at)
end_by (fault.PageChanged first other) = ends.Peer peer.PageChanged
end_by (fault.SizeChanged first other) = ends.Peer peer.SizeChanged
end_by fault.TooManyPages = ends.Peer peer.TooManyPages
end_by fault.BadUrl = ends.Url
end_by fault.PeerFault = ends.PeerFault
end_by fault.ReadFault = ends.ReadFault
end_by fault.WriteFault = ends.WriteFault
end_by fault.NoMemory = ends.NoMemory

-- after a call
abbrev pub end_called : Result ⊤ ClientFault → End
end_called (Ok done) = ends.Done
end_called (Err e) = end_by e

-- ---- the call

-- the body of a query that an input is, none where it is longer than 16 MiB or no body
abbrev pub input_body : List ℕ → Option (List ℕ)
input_body input = if nat_le (length input) input_limit then body_in input else None

-- the call that the words name, for `read` with the input as the body
abbrev pub call_in : CallWords → (input : List ℕ) → Option Call
call_in (worded.Read table) input = option_map (calls.Read table) (input_body input)
call_in (worded.Whole call) input = Some call

abbrev pub IsRead : CallWords → Type 0
IsRead (worded.Read table) = ⊤
IsRead (worded.Whole call) = ⊥

-- `read` with the body that the input is, which is then read to its end
abbrev pub ReadsBody : SharedTable → Call → (old new : Option (List ℕ)) → Type 0
ReadsBody table c old new = ((body : List ℕ) × (c ≡ calls.Read table body) × IfSome old (λ input. input_body input ≡ Some body)) × IsReadToEnd old new

-- The call that the words name; `read` alone reads the input.
abbrev pub NamesCall : CallWords → Call → (old new : Option (List ℕ)) → Type 0
NamesCall (worded.Read table) c old new = ReadsBody table c old new
NamesCall (worded.Whole call) c old new = (c ≡ call) × (new ≡ old)

-- at one moment the store's profile of that name is this, or there is none
abbrev pub HasProfile : (name : List ℕ) → Option Profile → Option Objects → Option Objects → Type 0
HasProfile name profile old new = Between old new (λ objects. profile_at name objects ≡ profile)

-- Why no call is made. The profile is read before the input. Want of memory needs no cause.
abbrev pub HasNoCall : NoCall → (name : List ℕ) → CallWords → Outside → Outside → Type 0
HasNoCall no_call.Profile name call_words old new = HasProfile name None old.objects new.objects
HasNoCall no_call.Input name call_words old new = IsRead call_words × ((p : Profile) × HasProfile name (Some p) old.objects new.objects) × IfSome old.left (λ input. input_body input ≡ None)
HasNoCall no_call.ReadFault name call_words old new = IsRead call_words × Rose old.read_faults new.read_faults
HasNoCall no_call.StoreFault name call_words old new = Rose old.store_faults new.store_faults
HasNoCall no_call.NoMemory name call_words old new = ⊤

-- ---- a run

-- No call was made, nothing was written, and this holds; or one was made with the profile and was answered, and this holds of them.
abbrev pub CallsServer : (Idle : Type 0) → (Made : Profile → Call → Result ⊤ ClientFault → Type 0) → (name : List ℕ) → CallWords → Outside → Outside → End → Type 0
CallsServer Idle Made name call_words old new end =
    ((why : NoCall) × (end ≡ end_uncalled why) × HasNoCall why name call_words old new × (new.held ≡ old.held) × Idle)
    ⊎ ((p : Profile) × (c : Call) × (answer : Result ⊤ ClientFault) × (end ≡ end_called answer) × HasProfile name (Some p) old.objects new.objects × NamesCall call_words c old.left new.left × Made p c answer)

-- why a run ends so, as far as its own input and store go
abbrev pub IsClient : (name : List ℕ) → CallWords → Outside → Outside → End → Type 0
IsClient name call_words old new end = CallsServer ⊤ (λ p c answer. ⊤) name call_words old new end

module _ {V : Type 0} (coming : V → Option (List PeerLine)) (closed : V → Option (List ClosedLine)) (opens reads writes : V → ℕ) where
  -- The call was made over the way, with the output as its sink: over a way that tells its lines, exactly the requests of the client's
  -- call were written to them, and what is printed is made of its answer. Each fault has its cause.
  pub record GoesOver (p : Profile) (c : Call) (answer : Result ⊤ ClientFault) (held held_new : Option (List ℕ)) (before now : ℕ) (was is : V) : Type 0 where
    pub told : Known coming closed was is (Performs p c held held_new answer)
    pub cause : CallCause answer (counts opens reads writes was) (counts opens reads writes is) before now
    pub url : TellsBadUrl c answer
    pub later : Later (counts opens reads writes was) (counts opens reads writes is)

  -- a run of `client`, by its input, output and store and by its way
  abbrev pub RunsBy : (name : List ℕ) → CallWords → Outside → Outside → End → (way way' : V) → Type 0
  RunsBy name call_words old new end way way' = CallsServer (way' ≡ way) (λ p c answer. GoesOver p c answer old.held new.held old.write_faults new.write_faults way way') name call_words old new end

  -- what a run does to the way: `client` alone uses it
  abbrev pub UsesWay : Option Command → Outside → Outside → End → (way way' : V) → Type 0
  UsesWay (Some (command.Client name call_words)) old new end way way' = RunsBy name call_words old new end way way'
  UsesWay _ old new end way way' = way' ≡ way
