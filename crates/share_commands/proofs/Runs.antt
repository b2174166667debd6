-- From the parts of a run to the whole.
use Rattle.std.proofs.Common.{◌≡◌, ℕ, List, Option, Some, None, Bool, true, false, refl, sym, ap, subst, inl, inr}
use Rattle.std.specs.Prelude.{take}
use Rattle.std.specs.Bool.{OnFalse, OnTrue}
use Rattle.std.specs.Io.KnownBytes.{append_known}
use Rattle.edge_core.specs.Faults.{Rose}
use Rattle.edge_core.specs.Objects.{Grows}
use Rattle.edge_core.proofs.Growth.{Grows-itself}
use Rattle.std.proofs.lemmas.Bool.{OnFalse_from, OnTrue_from}
use Rattle.query_command.specs.Answer.{QueryEnds, QueryRuns}
use Rattle.query_command.specs.Ends.{note}
use Rattle.query_command.specs.Outside.{Outside}
use Rattle.query_command.specs.Writing.{Notes, Prints, Tells}
use Rattle.query_command.specs.declared.ends.End.{End}
use Rattle.query_command.specs.declared.ends.End.TheVariants as ends
use Rattle.query_command.proofs.Queries.{prints_rest}
use Rattle.share_commands.specs.declared.words.TheConstants.{HELP, VERSION}
use Rattle.share_loop.specs.Summaries.{IsSummary}
use Rattle.share_commands.proofs.Calling.{noted_client}
use Rattle.share_commands.specs.Clients.{IsClient}
use Rattle.share_commands.specs.declared.client.NoCall.TheVariants as no_call
use Rattle.share_commands.specs.Run.{Because, IsText, TextEnds, IsRun, is_stdio}
use Rattle.share_commands.specs.Steps.{Runs}
use Rattle.share_config.specs.declared.config.Config.{Config}
use Rattle.hub_catalog.specs.CatalogCalls.{Step}
use Rattle.share_commands.specs.Serve.{IsServe, OpensServer}
use Rattle.share_commands.specs.Stdio.{IsStdio, IsUnserved}
use Rattle.share_commands.specs.declared.opening.NoServer.{NoServer}
use Rattle.share_commands.specs.declared.opening.NoServer.TheVariants as no_server
use Rattle.share_commands.specs.declared.words.Command.{Command}
use Rattle.share_commands.specs.declared.words.Command.TheVariants as command

text_means : (asked : Option Command) (old new : Outside) (text : List ℕ) (end : End) → IsText asked text → Prints text old new end → TextEnds asked old new end
text_means asked old new text ends.Done is p = (text, is, p.1)
text_means asked old new text ends.WriteFault is p = (p.1, (text, is, p.2))
text_means asked old new text other is p = absurd p

-- A text was printed that the command prints, whatever was read and stored.
text_runs : (asked : Option Command) (text : List ℕ) (old new : Outside) (end : End) → (TextEnds asked old new end → Because asked old new end) → is_stdio asked ≡ false → IsText asked text → Prints text old new end → Runs asked old new end
text_runs asked text old new end because not_stdio is p =
    let rest = prints_rest text old new end p in
    let objects : old.objects ≡ new.objects = sym (ap (λ o. o.objects) rest) in
    record {
      means = because (text_means asked old new text end is p);
      notes = ap (λ o. o.noted) rest;
      note_faults = ap (λ o. o.note_faults) rest;
      grows = subst (λ o. Grows old.objects o) objects (Grows-itself old.objects);
      same = OnFalse_from (is_stdio asked) _ (λ no. OnTrue_from old.alone (new.objects ≡ old.objects) (λ e. sym objects));
      stored = OnFalse_from (is_stdio asked) _ (λ no. ap (λ o. o.stored) rest);
    }

-- The commands' help, the version, or the lines of a rehearsal were printed.
pub help_runs : (text : List ℕ) (old new : Outside) (end : End) → text ≡ HELP.now → Prints text old new end → Runs (Some command.Help) old new end
help_runs text old new end is p = text_runs (Some command.Help) text old new end (λ m. m) refl is p

pub version_runs : (text : List ℕ) (old new : Outside) (end : End) → text ≡ VERSION.now → Prints text old new end → Runs (Some command.Version) old new end
version_runs text old new end is p = text_runs (Some command.Version) text old new end (λ m. m) refl is p

pub rehearsal_runs : (number : ℕ) (text : List ℕ) (old new : Outside) (end : End) → IsSummary text → Prints text old new end → Runs (Some (command.Rehearse number)) old new end
rehearsal_runs number text old new end is p = text_runs (Some (command.Rehearse number)) text old new end (λ m. m) refl is p

-- A query was answered.
pub query_runs : (location : List ℕ) (old new : Outside) (end : End) → QueryRuns location old new end → Runs (Some (command.Query location)) old new end
query_runs location old new end runs = record { means = runs.means; notes = runs.notes; note_faults = runs.note_faults; grows = runs.grows; same = runs.same; stored = runs.stored }

-- The line on the notes comes last.
notes_then : (old mid new : Outside) (text : List ℕ) → mid.noted ≡ old.noted → mid.note_faults ≡ old.note_faults → Notes mid new text → Notes old new text
notes_then old mid new text noted faults (inl n) = inl (subst (λ h. new.noted ≡ append_known h text) noted n)
notes_then old mid new text noted faults (inr (rose, (n, part))) = inr (subst (λ f. Rose f new.note_faults) faults rose, (n, subst (λ h. new.noted ≡ append_known h (take n text)) noted part))

-- a printed text speaks of the output alone
text_noted : (asked : Option Command) (old mid : Outside) (noted : Option (List ℕ)) (faults : ℕ) (end : End) → TextEnds asked old mid end → TextEnds asked old (record mid { noted = noted; note_faults = faults }) end
text_noted asked old mid noted faults ends.Words m = m
text_noted asked old mid noted faults ends.WriteFault m = m
text_noted asked old mid noted faults ends.NoMemory m = m
text_noted asked old mid noted faults ends.Done m = m
text_noted asked old mid noted faults other m = absurd m

text_then : (asked : Option Command) (old mid new : Outside) (text : List ℕ) (end : End) → Tells mid new text → TextEnds asked old mid end → TextEnds asked old new end
text_then asked old mid new text end tells m = subst (λ o. TextEnds asked old o end) (sym tells.rest) (text_noted asked old mid new.noted new.note_faults end m)

-- and a query of all but the notes
query_noted : (location : List ℕ) (old mid : Outside) (noted : Option (List ℕ)) (faults : ℕ) (end : End) → QueryEnds location old mid end → QueryEnds location old (record mid { noted = noted; note_faults = faults }) end
query_noted location old mid noted faults ends.Input m = m
query_noted location old mid noted faults ends.ReadFault m = m
query_noted location old mid noted faults (ends.Table why) m = m
query_noted location old mid noted faults ends.StoreFault m = m
query_noted location old mid noted faults ends.WriteFault m = m
query_noted location old mid noted faults ends.NoMemory m = m
query_noted location old mid noted faults ends.Done m = m
query_noted location old mid noted faults other m = absurd m

query_then : (location : List ℕ) (old mid new : Outside) (text : List ℕ) (end : End) → Tells mid new text → QueryEnds location old mid end → QueryEnds location old new end
query_then location old mid new text end tells m = subst (λ o. QueryEnds location old o end) (sym tells.rest) (query_noted location old mid new.noted new.note_faults end m)

-- and so does a session
stdio_noted : (old mid : Outside) (noted : Option (List ℕ)) (faults : ℕ) (end : End) → IsStdio old mid end → IsStdio old (record mid { noted = noted; note_faults = faults }) end
stdio_noted old mid noted faults end (inl (why, is, u)) = inl (why, is, record { reason = u.reason; left = u.left; held = u.held; coming = u.coming; same = u.same; stored = u.stored })
stdio_noted old mid noted faults end (inr (e, is, (config, s))) =
    inr (e, is, (config, record { pass = s.pass; begun = s.begun; looked = s.looked; stored = s.stored; configured = s.configured; opened = s.opened; last = s.last; kept = s.kept; kept_new = s.kept_new; grew = s.grew; known = s.known; session = s.session; cause = s.cause }))

stdio_then : (old mid new : Outside) (text : List ℕ) (end : End) → Tells mid new text → IsStdio old mid end → IsStdio old new end
stdio_then old mid new text end tells m = subst (λ o. IsStdio old o end) (sym tells.rest) (stdio_noted old mid new.noted new.note_faults end m)

-- and so does the opening of a server
unserved_noted : (why : NoServer) (old mid : Outside) (noted : Option (List ℕ)) (faults : ℕ) → IsUnserved why old mid → IsUnserved why old (record mid { noted = noted; note_faults = faults })
unserved_noted why old mid noted faults u = record { reason = u.reason; left = u.left; held = u.held; coming = u.coming; same = u.same; stored = u.stored }

opens_noted : (config : Config) (found : List Step) (old mid : Outside) (noted : Option (List ℕ)) (faults : ℕ) → OpensServer config found old mid → OpensServer config found old (record mid { noted = noted; note_faults = faults })
opens_noted config found old mid noted faults o = record { looked = o.looked; stored = o.stored; configured = o.configured; steps = o.steps; last = o.last; left = o.left; held = o.held; coming = o.coming }

pub unserved_told : (why : NoServer) (old mid new : Outside) (text : List ℕ) → Tells mid new text → IsUnserved why old mid → IsUnserved why old new
unserved_told why old mid new text tells u = subst (λ o. IsUnserved why old o) (sym tells.rest) (unserved_noted why old mid new.noted new.note_faults u)

pub opens_told : (config : Config) (found : List Step) (old mid new : Outside) (text : List ℕ) → Tells mid new text → OpensServer config found old mid → OpensServer config found old new
opens_told config found old mid new text tells o = subst (λ z. OpensServer config found old z) (sym tells.rest) (opens_noted config found old mid new.noted new.note_faults o)

serve_then : (old mid new : Outside) (text : List ℕ) (end : End) → Tells mid new text → IsServe old mid end → IsServe old new end
serve_then old mid new text end tells (inl (why, is, u)) = inl (why, is, unserved_told why old mid new text tells u)
serve_then old mid new text end tells (inr (e, is, (config, found, o))) = inr (e, is, (config, found, opens_told config found old mid new text tells o))

because_then : (asked : Option Command) (old mid new : Outside) (text : List ℕ) (end : End) → Tells mid new text → Because asked old mid end → Because asked old new end
because_then None old mid new text end tells m = text_then None old mid new text end tells m
because_then (Some command.Help) old mid new text end tells m = text_then (Some command.Help) old mid new text end tells m
because_then (Some command.Version) old mid new text end tells m = text_then (Some command.Version) old mid new text end tells m
because_then (Some (command.Query location)) old mid new text end tells m = query_then location old mid new text end tells m
because_then (Some (command.Rehearse number)) old mid new text end tells m = text_then (Some (command.Rehearse number)) old mid new text end tells m
because_then (Some command.Stdio) old mid new text end tells m = stdio_then old mid new text end tells m
because_then (Some (command.Serve port workers)) old mid new text end tells m = serve_then old mid new text end tells m
because_then (Some (command.Client name call_words)) old mid new text end tells m = subst (λ o. IsClient name call_words old o end) (sym tells.rest) (noted_client name call_words old mid new.noted new.note_faults end m)

pub told_runs : (asked : Option Command) (old mid new : Outside) (end : End) → Runs asked old mid end → Tells mid new (note end) → IsRun asked old new end
told_runs asked old mid new end runs tells =
    let objects : mid.objects ≡ new.objects = sym (ap (λ o. o.objects) tells.rest) in
    record {
      means = because_then asked old mid new (note end) end tells runs.means;
      notes = notes_then old mid new (note end) runs.notes runs.note_faults tells.notes;
      grows = subst (λ o. Grows old.objects o) objects runs.grows;
      same = subst (λ o. OnFalse (is_stdio asked) (OnTrue old.alone (o ≡ old.objects))) objects runs.same;
      stored = subst (λ n. OnFalse (is_stdio asked) (n ≡ old.stored)) (sym (ap (λ o. o.stored) tells.rest)) runs.stored;
    }

-- ---- words that are no command

on_true : {X : Type 0} (b : Bool) (x : X) → OnTrue b (x ≡ x)
on_true true x = refl
on_true false x = tt

pub wordless_runs : (o : Outside) → Runs None o o ends.Words
wordless_runs o = record { means = (refl, refl); notes = refl; note_faults = refl; grows = Grows-itself o.objects; same = on_true o.alone o.objects; stored = refl }

-- ---- want of memory before anything was done

on_false : (b : Bool) (A : Type 0) → A → OnFalse b A
on_false true A a = tt
on_false false A a = a

pub unserved_still : (o : Outside) → IsUnserved no_server.NoMemory o o
unserved_still o = record { reason = tt; left = refl; held = refl; coming = refl; same = on_true o.alone o.objects; stored = refl }

because_still : (asked : Option Command) (o : Outside) → Because asked o o ends.NoMemory
because_still None o = refl
because_still (Some command.Help) o = refl
because_still (Some command.Version) o = refl
because_still (Some (command.Query location)) o = refl
because_still (Some (command.Rehearse number)) o = refl
because_still (Some command.Stdio) o = inl (no_server.NoMemory, refl, unserved_still o)
because_still (Some (command.Serve port workers)) o = inl (no_server.NoMemory, refl, unserved_still o)
because_still (Some (command.Client name call_words)) o = inl (no_call.NoMemory, refl, tt, refl, tt)

pub runs_still : (asked : Option Command) (o : Outside) → Runs asked o o ends.NoMemory
runs_still asked o = record {
  means = because_still asked o;
  notes = refl;
  note_faults = refl;
  grows = Grows-itself o.objects;
  same = on_false (is_stdio asked) (OnTrue o.alone (o.objects ≡ o.objects)) (on_true o.alone o.objects);
  stored = on_false (is_stdio asked) (o.stored ≡ o.stored) refl;
}
