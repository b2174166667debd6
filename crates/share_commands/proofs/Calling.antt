-- From a profile and words to a call that was made.
use Rattle.std.proofs.Common.{◌≡◌, ℕ, ◌<◌, ◌≤◌, List, length, Option, Some, None, refl, sym, ap, ◌∙◌, subst, arith, Result, Ok, Err, Bool, true, false, true≢false, inl, inr}
use Rattle.std.specs.Prelude.{IfSome, nat_le, ⊤, if◌then◌else◌}
use Rattle.std.specs.Bool.{OnTrue}
use Rattle.std.proofs.lemmas.Bool.{le-leb}
use Rattle.std.proofs.lemmas.Bool.Decides.{nat_tests}
use Rattle.edge_core.specs.Faults.{Cause, Rose}
use Rattle.edge_core.specs.Lines.{ClosedLine, PeerLine}
use Rattle.edge_core.specs.Objects.{Objects, Grows}
use Rattle.edge_core.proofs.Growth.{Grows-itself}
use Rattle.log_store.specs.Loads.{Looked}
use Rattle.share_client.specs.declared.fault.ClientFault.{ClientFault}
use Rattle.share_config.specs.declared.profile.Profile.{Profile}
use Rattle.client_calls.specs.Bodies.{body_in}
use Rattle.client_calls.specs.ProfileObjects.{profile_at}
use Rattle.client_calls.specs.declared.call.Call.{Call}
use Rattle.share_commands.specs.Clients.{GoesOver, HasNoCall, HasProfile, IsClient, NamesCall, RunsBy, UsesWay, end_called, end_uncalled, input_body}
use Rattle.log_store.specs.Refusals.{failed_load}
use Rattle.log_store.specs.declared.refusal.LoadRefusal.{LoadRefusal}
use Rattle.log_store.specs.declared.refusal.LoadRefusal.TheVariants as refusal
use Rattle.share_commands.specs.ClientSteps.{CallOf, if_found, unread, IsBody, IsInputBody, IsProfile, LooksAndReads, NotesNothing, ReadsOnly}
use Rattle.query_command.specs.Outside.{Outside}
use Rattle.query_command.specs.Query.{IsReadToEnd, input_limit}
use Rattle.share_commands.specs.StdioSteps.{LooksOnly}
use Rattle.query_command.specs.Writing.{LeavesRest, Tells}
use Rattle.share_commands.specs.Steps.{Runs}
use Rattle.share_commands.specs.declared.client.NoCall.{NoCall}
use Rattle.share_commands.specs.declared.client.NoCall.TheVariants as no_call
use Rattle.query_command.specs.declared.ends.End.{End}
use Rattle.query_command.specs.declared.ends.End.TheVariants as ends
use Rattle.share_commands.specs.declared.words.Command.{Command}
use Rattle.share_commands.specs.declared.words.Command.TheVariants as command
use Rattle.share_commands.specs.declared.words.CallWords.{CallWords}

-- ---- the profile

some_map : {X : Type 0} (o : Option X) (A B : X → Type 0) → ((x : X) → A x → B x) → IfSome o A → IfSome o B
some_map None A B f w = tt
some_map (Some x) A B f w = f x w

-- what was found in the store as it is afterwards was there at that moment
pub has_profile : (name : List ℕ) (found : Option Profile) (old new : Option Objects) → Grows old new → IfSome new (λ os. found ≡ profile_at name os) → HasProfile name found old new
has_profile name found old new grows w = (new, grows, Grows-itself new, some_map new (λ os. found ≡ profile_at name os) (λ os. profile_at name os ≡ found) (λ os e. sym e) w)

-- the profile that was found
pub profile_found : (name : List ℕ) (found : Option Profile) (old new : Option Objects) (before now : ℕ) → Grows old new → IfSome new (λ os. found ≡ profile_at name os) → IsProfile name old new before now (if_found found)
profile_found name (Some p) old new before now grows w = has_profile name (Some p) old new grows w
profile_found name None old new before now grows w = has_profile name None old new grows w

-- the store wasn't read
pub profile_unread : (name : List ℕ) (r : LoadRefusal) (old new : Option Objects) (before now : ℕ) → Cause before now (failed_load {X = Option Profile} (Err r)) → IsProfile name old new before now (Err (unread r))
profile_unread name refusal.StoreFault old new before now cause = cause.rose
profile_unread name refusal.NoMemory old new before now cause = tt

-- ---- the body

fits_if : (fits : Bool) (body : Option (List ℕ)) → fits ≡ true → (if fits then body else None) ≡ body
fits_if true body is = refl
fits_if false body is = absurd (true≢false (sym is))

none_if : (fits : Bool) (body : Option (List ℕ)) → fits ≡ false → (if fits then body else None) ≡ None
none_if true body is = absurd (true≢false is)
none_if false body is = refl

short_body : (bytes : List ℕ) → length bytes ≤ input_limit → input_body bytes ≡ body_in bytes
short_body bytes short = fits_if (nat_le (length bytes) input_limit) (body_in bytes) (le-leb (length bytes) input_limit short)

long_body : (bytes : List ℕ) → input_limit < length bytes → input_body bytes ≡ None
long_body bytes long = none_if (nat_le (length bytes) input_limit) (body_in bytes) (grind (arith, nat_tests, long))

each_body : (old : Option (List ℕ)) (bytes : List ℕ) (wanted : Option (List ℕ)) → IfSome old (λ left. left ≡ bytes) → input_body bytes ≡ wanted → IfSome old (λ left. input_body left ≡ wanted)
each_body None bytes wanted is body = tt
each_body (Some left) bytes wanted is body = ap input_body is ∙ body

-- what the whole input is
pub whole_body : (old new : Option (List ℕ)) (before now : ℕ) (bytes : List ℕ) (result : Result (List ℕ) NoCall) → IfSome old (λ left. left ≡ bytes) → IsReadToEnd old new → length bytes ≤ input_limit
    → IsBody bytes result → IsInputBody old new before now result
whole_body old new before now bytes (Ok body) is end short w = (each_body old bytes (Some body) is (short_body bytes short ∙ w), end)
whole_body old new before now bytes (Err no_call.Input) is end short w = each_body old bytes None is (short_body bytes short ∙ w)
whole_body old new before now bytes (Err no_call.NoMemory) is end short w = tt
whole_body old new before now bytes (Err other) is end short w = absurd w

-- too long an input is none
pub long_input : (old : Option (List ℕ)) → IfSome old (λ left. input_limit < length left) → IfSome old (λ left. input_body left ≡ None)
long_input None long = tt
long_input (Some left) long = long_body left long

-- ---- a run

-- what the notes are is no matter for why there is no call
noted_cause : (why : NoCall) (name : List ℕ) (e : CallWords) (old mid : Outside) (noted : Option (List ℕ)) (faults : ℕ) → HasNoCall why name e old mid → HasNoCall why name e old (record mid { noted = noted; note_faults = faults })
noted_cause no_call.Profile name e old mid noted faults w = w
noted_cause no_call.Input name e old mid noted faults w = w
noted_cause no_call.ReadFault name e old mid noted faults w = w
noted_cause no_call.StoreFault name e old mid noted faults w = w
noted_cause no_call.NoMemory name e old mid noted faults w = tt

-- nor is it for what a run says
pub noted_client : (name : List ℕ) (e : CallWords) (old mid : Outside) (noted : Option (List ℕ)) (faults : ℕ) (end : End) → IsClient name e old mid end → IsClient name e old (record mid { noted = noted; note_faults = faults }) end
noted_client name e old mid noted faults end (inl (why, is, cause, held, idle)) = inl (why, is, noted_cause why name e old mid noted faults cause, held, idle)
noted_client name e old mid noted faults end (inr (p, c, answer, is, profile, names, made)) = inr (p, c, answer, is, profile, names, made)

-- the profile, and then why there is no call
pub no_call_then : (name : List ℕ) (e : CallWords) (old mid new : Outside) (why : NoCall) (p : Profile) → LooksOnly old mid → ReadsOnly mid new → HasProfile name (Some p) old.objects mid.objects
    → CallOf e mid.left new.left mid.read_faults new.read_faults (Err why) → HasNoCall why name e old new
no_call_then name e old mid new no_call.Input p looks reads found w =
    (w.0, (p, subst (λ o. HasProfile name (Some p) old.objects o) (sym (ap (λ o. o.objects) reads)) found), subst (λ l. IfSome l (λ input. input_body input ≡ None)) (ap (λ o. o.left) looks.rest) w.1)
no_call_then name e old mid new no_call.ReadFault p looks reads found w = (w.0, subst (λ n. Rose n new.read_faults) (ap (λ o. o.read_faults) looks.rest) w.1)
no_call_then name e old mid new no_call.NoMemory p looks reads found w = tt
no_call_then name e old mid new other p looks reads found w = absurd w

-- the profile, and then the call
pub call_then : (name : List ℕ) (e : CallWords) (old mid new : Outside) (p : Profile) (c : Call) → LooksOnly old mid → ReadsOnly mid new → HasProfile name (Some p) old.objects mid.objects → NamesCall e c mid.left new.left
    → HasProfile name (Some p) old.objects new.objects × NamesCall e c old.left new.left
call_then name e old mid new p c looks reads found names =
    (subst (λ o. HasProfile name (Some p) old.objects o) (sym (ap (λ o. o.objects) reads)) found, subst (λ l. NamesCall e c l new.left) (ap (λ o. o.left) looks.rest) names)

-- no profile is no call
pub no_profile : (name : List ℕ) (e : CallWords) (old new : Outside) (why : NoCall) → IsProfile name old.objects new.objects old.store_faults new.store_faults (Err why) → HasNoCall why name e old new
no_profile name e old new no_call.Profile w = w
no_profile name e old new no_call.StoreFault w = w
no_profile name e old new no_call.NoMemory w = tt
no_profile name e old new other w = absurd w

pub looks_first : (old new : Outside) → LooksOnly old new → LooksAndReads old new
looks_first old new looks = record {
  held = ap (λ o. o.held) looks.rest;
  write_faults = ap (λ o. o.write_faults) looks.rest;
  notes = ap (λ o. o.noted) looks.rest;
  note_faults = ap (λ o. o.note_faults) looks.rest;
  looked = looks.looked;
  stored = looks.stored;
}

pub looks_then : (old mid new : Outside) → LooksOnly old mid → ReadsOnly mid new → LooksAndReads old new
looks_then old mid new looks reads = record {
  held = ap (λ o. o.held) reads ∙ ap (λ o. o.held) looks.rest;
  write_faults = ap (λ o. o.write_faults) reads ∙ ap (λ o. o.write_faults) looks.rest;
  notes = ap (λ o. o.noted) reads ∙ ap (λ o. o.noted) looks.rest;
  note_faults = ap (λ o. o.note_faults) reads ∙ ap (λ o. o.note_faults) looks.rest;
  looked = subst (λ a. Looked old.objects new.objects old.alone a) (sym (ap (λ o. o.alone) reads)) (subst (λ o. Looked old.objects o old.alone mid.alone) (sym (ap (λ o. o.objects) reads)) looks.looked);
  stored = ap (λ o. o.stored) reads ∙ looks.stored;
}

pub notes_on : (old mid new : Outside) → LooksAndReads old mid → LeavesRest mid new → NotesNothing old new
notes_on old mid new looks rest =
    let objects : mid.objects ≡ new.objects = sym (ap (λ o. o.objects) rest) in
    record {
      notes = ap (λ o. o.noted) rest ∙ looks.notes;
      note_faults = ap (λ o. o.note_faults) rest ∙ looks.note_faults;
      grows = subst (λ o. Grows old.objects o) objects looks.looked.grows;
      same = subst (λ o. OnTrue old.alone (o ≡ old.objects)) objects looks.looked.same;
      stored = ap (λ o. o.stored) rest ∙ looks.stored;
    }

pub notes_none : (old mid : Outside) → LooksAndReads old mid → NotesNothing old mid
notes_none old mid looks = record {
  notes = looks.notes;
  note_faults = looks.note_faults;
  grows = looks.looked.grows;
  same = looks.looked.same;
  stored = looks.stored;
}

module _ {V : Type 0} (coming : V → Option (List PeerLine)) (closed : V → Option (List ClosedLine)) (opens reads writes : V → ℕ) where
  -- a call that was made over the way
  pub called_runs : (name : List ℕ) (e : CallWords) (old mid new : Outside) (end : End) (p : Profile) (c : Call) (answer : Result ⊤ ClientFault) (way way' : V) → LooksAndReads old mid → LeavesRest mid new → end ≡ end_called answer
      → HasProfile name (Some p) old.objects mid.objects × NamesCall e c old.left mid.left → GoesOver coming closed opens reads writes p c answer mid.held new.held mid.write_faults new.write_faults way way' → RunsBy coming closed opens reads writes name e old new end way way'
  called_runs name e old mid new end p c answer way way' looks rest is prepared goes =
      inr (
        p,
        c,
        answer,
        is,
        subst (λ o. HasProfile name (Some p) old.objects o) (sym (ap (λ o. o.objects) rest)) prepared.0,
        subst (λ l. NamesCall e c old.left l) (sym (ap (λ o. o.left) rest)) prepared.1,
        subst (λ h. GoesOver coming closed opens reads writes p c answer h new.held old.write_faults new.write_faults way way') looks.held
            (subst (λ n. GoesOver coming closed opens reads writes p c answer mid.held new.held n new.write_faults way way') looks.write_faults goes),
      )

  -- none was made
  pub uncalled_runs : (name : List ℕ) (e : CallWords) (old new : Outside) (end : End) (why : NoCall) (way : V) → LooksAndReads old new → end ≡ end_uncalled why → HasNoCall why name e old new → RunsBy coming closed opens reads writes name e old new end way way
  uncalled_runs name e old new end why way looks is cause = inl (why, is, cause, looks.held, refl)

  -- what a run says of its way it says of the rest
  pub without_way : (name : List ℕ) (e : CallWords) (old new : Outside) (end : End) (way way' : V) → RunsBy coming closed opens reads writes name e old new end way way' → IsClient name e old new end
  without_way name e old new end way way' (inl (why, is, cause, held, idle)) = inl (why, is, cause, held, tt)
  without_way name e old new end way way' (inr (p, c, answer, is, profile, names, made)) = inr (p, c, answer, is, profile, names, tt)

  pub client_runs : (name : List ℕ) (e : CallWords) (old new : Outside) (end : End) (way way' : V) → RunsBy coming closed opens reads writes name e old new end way way' → NotesNothing old new → Runs (Some (command.Client name e)) old new end
  client_runs name e old new end way way' runs none = record {
    means = without_way name e old new end way way' runs;
    notes = none.notes;
    note_faults = none.note_faults;
    grows = none.grows;
    same = none.same;
    stored = none.stored;
  }

  noted_runs : (name : List ℕ) (e : CallWords) (old mid : Outside) (noted : Option (List ℕ)) (faults : ℕ) (end : End) (way way' : V) → RunsBy coming closed opens reads writes name e old mid end way way'
      → RunsBy coming closed opens reads writes name e old (record mid { noted = noted; note_faults = faults }) end way way'
  noted_runs name e old mid noted faults end way way' (inl (why, is, cause, held, idle)) = inl (why, is, noted_cause why name e old mid noted faults cause, held, idle)
  noted_runs name e old mid noted faults end way way' (inr (p, c, answer, is, profile, names, made)) = inr (p, c, answer, is, profile, names, made)

  -- what a run says of its way it says of the outside as the notes leave it
  pub way_told : (asked : Option Command) (old mid new : Outside) (text : List ℕ) (end : End) (way way' : V) → Tells mid new text → UsesWay coming closed opens reads writes asked old mid end way way' → UsesWay coming closed opens reads writes asked old new end way way'
  way_told None old mid new text end way way' tells u = u
  way_told (Some command.Help) old mid new text end way way' tells u = u
  way_told (Some command.Version) old mid new text end way way' tells u = u
  way_told (Some (command.Query location)) old mid new text end way way' tells u = u
  way_told (Some command.Stdio) old mid new text end way way' tells u = u
  way_told (Some (command.Rehearse number)) old mid new text end way way' tells u = u
  way_told (Some (command.Serve port workers)) old mid new text end way way' tells u = u
  way_told (Some (command.Client name e)) old mid new text end way way' tells u = subst (λ o. RunsBy coming closed opens reads writes name e old o end way way') (sym tells.rest) (noted_runs name e old mid new.noted new.note_faults end way way' u)

  pub way_still : (asked : Option Command) (o : Outside) (way : V) → UsesWay coming closed opens reads writes asked o o ends.NoMemory way way
  way_still None o way = refl
  way_still (Some command.Help) o way = refl
  way_still (Some command.Version) o way = refl
  way_still (Some (command.Query location)) o way = refl
  way_still (Some command.Stdio) o way = refl
  way_still (Some (command.Rehearse number)) o way = refl
  way_still (Some (command.Serve port workers)) o way = refl
  way_still (Some (command.Client name e)) o way = inl (no_call.NoMemory, refl, tt, refl, refl)
