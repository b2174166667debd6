-- Where all is told and no count rose, the causes of an end leave what is expected.
use Rattle.std.proofs.Common.{◌≡◌, ℕ, List, [], ◌++◌, Option, Some, None, sym, ap, ◌∙◌, subst, refl, Result, Ok, Err, inl, inr, String, Global, true≢false}
use Rattle.std.specs.Prelude.{◌⊎◌, IfSome, option_map}
use Rattle.std.specs.Io.KnownBytes.{append_known}
use Rattle.std.proofs.lemmas.List.{append-nil}
use Rattle.edge_core.specs.Faults.{Rose}
use Rattle.edge_core.specs.Objects.{Objects, Grows, Between}
use Rattle.edge_core.proofs.Growth.{Grows-on, GrowsTo-same}
use Rattle.share_config.specs.declared.config.Config.{Config}
use Rattle.share_serve.specs.declared.serve.SessionEnd.{SessionEnd}
use Rattle.share_serve.specs.declared.serve.SessionEnd.TheVariants as session_end
use Rattle.share_config.specs.declared.profile.Profile.{Profile}
use Rattle.client_calls.specs.ProfileObjects.{profile_at}
use Rattle.client_calls.specs.declared.call.Call.{Call}
use Rattle.client_calls.specs.declared.call.Call.TheVariants as calls
use Rattle.share_commands.specs.Clients.{HasNoCall, HasProfile, IsClient, IsRead, NamesCall, call_in, end_uncalled, input_body}
use Rattle.share_commands.specs.declared.client.NoCall.{NoCall}
use Rattle.share_commands.specs.declared.client.NoCall.TheVariants as no_call
use Rattle.share_commands.specs.declared.words.CallWords.{CallWords}
use Rattle.share_commands.specs.declared.words.CallWords.TheVariants as worded
use Rattle.share_commands.specs.Configuration.{config_at}
use Rattle.query_command.specs.declared.ends.TableRefusal.{TableRefusal}
use Rattle.share_commands.specs.Words.{command_in}
use Rattle.query_command.specs.Ends.{status, note}
use Rattle.query_command.specs.Table.{lines_in}
use Rattle.query_command.specs.Answer.{IsAnswer, QueryEnds}
use Rattle.query_command.specs.Outside.{Outside}
use Rattle.query_command.specs.Query.{asked_in}
use Rattle.query_command.specs.Writing.{Notes}
use Rattle.share_commands.specs.Run.{Because, IsText, TextEnds, IsRun}
use Rattle.share_commands.specs.Serve.{IsServe}
use Rattle.share_commands.specs.Stdio.{Configures, IsServed, IsStdio, IsUnserved, end_after, end_without}
use Rattle.share_commands.specs.Expected.{Deed, Wanted, deed, serve, host, printed, answered, asked_of, configured, refused, queried, done, IsCalm, Fulfils, IsExact, IsExactAlone}
use Rattle.query_command.specs.declared.ends.End.{End}
use Rattle.query_command.specs.declared.ends.End.TheVariants as ends
use Rattle.share_commands.specs.declared.opening.NoServer.{NoServer}
use Rattle.share_commands.specs.declared.opening.NoServer.TheVariants as no_server
use Rattle.share_commands.specs.declared.words.Command.{Command}
use Rattle.share_commands.specs.declared.words.Command.TheVariants as command

noted_then : (old new : Outside) (text noted : List ℕ) → old.noted ≡ Some noted → (Rose old.note_faults new.note_faults → ⊥) → Notes old new text → new.noted ≡ Some (noted ++ text)
noted_then old new text noted told calm (inl n) = n ∙ ap (λ known. append_known known text) told
noted_then old new text noted told calm (inr n) = absurd (calm n.0)

kept_then : (old new : Outside) (held : List ℕ) → old.held ≡ Some held → new.held ≡ old.held → new.held ≡ Some (held ++ [])
kept_then old new held told same = same ∙ told ∙ ap Some (sym (append-nil held))

-- The run did that, of the objects at one moment of the call.
abbrev pub DoesAt : Option Command → (old new : Outside) → List ℕ → Objects → List ℕ → List ℕ → ℕ → Type 0
DoesAt asked old new input objects held noted result = (listed : Objects) × Grows (Some objects) (Some listed) × Grows (Some listed) new.objects × Fulfils (done asked input listed) old new result held noted

deed_then : (old new : Outside) (input : List ℕ) (objects : Objects) (held noted : List ℕ) (result : ℕ) (d : Deed) (wanted : Wanted) → IsCalm old new input objects held noted
    → result ≡ d.status → Notes old new d.notes → new.held ≡ Some (held ++ d.output) → deed d ≡ wanted → Fulfils wanted old new result held noted
deed_then old new input objects held noted result d wanted calm st n o e =
    subst (λ w. Fulfils w old new result held noted) e (record { status = st; notes = noted_then old new d.notes noted calm.tells_noted calm.note_writes n; output = o })

at_beginning : (asked : Option Command) (old new : Outside) (input : List ℕ) (objects : Objects) (held noted : List ℕ) (result : ℕ) → IsCalm old new input objects held noted → Grows old.objects new.objects
    → Fulfils (done asked input objects) old new result held noted → DoesAt asked old new input objects held noted result
at_beginning asked old new input objects held noted result calm grows does = (objects, (λ name bytes e. e), subst (λ o. Grows o new.objects) calm.tells_objects grows, does)

listed_at : (objects : Objects) (new : Option Objects) (P : Objects → Type 0) → Between (Some objects) new P → (listed : Objects) × Grows (Some objects) (Some listed) × Grows (Some listed) new × P listed
listed_at objects new P (None, begun, ended, p) = absurd (true≢false begun)
listed_at objects new P (Some listed, begun, ended, p) = (listed, begun, ended, p)

-- ---- commands that print one text

by_text : (asked : Option Command) (old new : Outside) (input : List ℕ) (objects : Objects) (held noted : List ℕ) (result : ℕ) (text : List ℕ) → IsCalm old new input objects held noted → Grows old.objects new.objects
    → IsText asked text → result ≡ 0 → Notes old new [] → new.held ≡ Some (held ++ text) → DoesAt asked old new input objects held noted result
by_text None old new input objects held noted result text calm grows is st n o = absurd is
by_text (Some command.Stdio) old new input objects held noted result text calm grows is st n o = absurd is
by_text (Some (command.Query location)) old new input objects held noted result text calm grows is st n o = absurd is
by_text (Some (command.Serve port workers)) old new input objects held noted result text calm grows is st n o = absurd is
by_text (Some (command.Client name call_words)) old new input objects held noted result text calm grows is st n o = absurd is
by_text (Some (command.Rehearse number)) old new input objects held noted result text calm grows is st n o =
    at_beginning (Some (command.Rehearse number)) old new input objects held noted result calm grows
    (text, is, deed_then old new input objects held noted result (printed text) (deed (printed text)) calm st n o refl)
by_text (Some command.Help) old new input objects held noted result text calm grows is st n o =
    at_beginning (Some command.Help) old new input objects held noted result calm grows (deed_then old new input objects held noted result (printed text) _ calm st n o (ap (λ t. deed (printed t)) is))
by_text (Some command.Version) old new input objects held noted result text calm grows is st n o =
    at_beginning (Some command.Version) old new input objects held noted result calm grows (deed_then old new input objects held noted result (printed text) _ calm st n o (ap (λ t. deed (printed t)) is))

text_law : (asked : Option Command) (old new : Outside) (end : End) (result : ℕ) (input : List ℕ) (objects : Objects) (held noted : List ℕ) → result ≡ status end → TextEnds asked old new end → Notes old new (note end) → Grows old.objects new.objects
    → IsCalm old new input objects held noted → (result ≡ 6) ⊎ DoesAt asked old new input objects held noted result
text_law asked old new ends.Words result input objects held noted st m n g calm =
    inr (at_beginning asked old new input objects held noted result calm g (deed_then old new input objects held noted result (refused ends.Words) _ calm st n (kept_then old new held calm.tells_held m.1) (sym (ap (λ a. done a input objects) m.0))))
text_law asked old new ends.WriteFault result input objects held noted st m n g calm = absurd (calm.writes m.0)
text_law asked old new ends.NoMemory result input objects held noted st m n g calm = inl st
text_law asked old new ends.Done result input objects held noted st (text, is, written) n g calm =
    inr (by_text asked old new input objects held noted result text calm g is st n (written ∙ ap (λ known. append_known known text) calm.tells_held))
text_law asked old new other result input objects held noted st m n g calm = absurd m

-- ---- queries

-- the deed of the answer is the expected one
by_answer : (location : List ℕ) (old new : Outside) (input : List ℕ) (objects : Objects) (held noted : List ℕ) (result : ℕ) (answer : Result (List ℕ) TableRefusal) → IsCalm old new input objects held noted
    → IsAnswer location old new answer → result ≡ (answered answer).status → Notes old new (answered answer).notes → new.held ≡ Some (held ++ (answered answer).output) → DoesAt (Some (command.Query location)) old new input objects held noted result
by_answer location old new input objects held noted result answer calm (query, asks, end, between) st n o =
    let (listed, begun, ended, lines) = listed_at objects new.objects (λ os. lines_in location query os ≡ answer) (subst (λ o. Between o new.objects (λ os. lines_in location query os ≡ answer)) calm.tells_objects between) in
    let asked : asked_in input ≡ Some query = subst (λ l. IfSome l (λ bytes. asked_in bytes ≡ Some query)) calm.tells_left asks in
    (listed, begun, ended, deed_then old new input objects held noted result (answered answer) _ calm st n o (ap (λ r. deed (answered r)) (sym lines) ∙ sym (ap (λ q. deed (queried location q listed)) asked)))

query_law : (location : List ℕ) (old new : Outside) (end : End) (result : ℕ) (input : List ℕ) (objects : Objects) (held noted : List ℕ) → result ≡ status end → QueryEnds location old new end → Notes old new (note end) → Grows old.objects new.objects
    → IsCalm old new input objects held noted → (result ≡ 6) ⊎ DoesAt (Some (command.Query location)) old new input objects held noted result
query_law location old new ends.Input result input objects held noted st m n g calm =
    inr (at_beginning (Some (command.Query location)) old new input objects held noted result calm g
    (deed_then old new input objects held noted result (refused ends.Input) _ calm st n (kept_then old new held calm.tells_held m.1)
    (sym (ap (λ q. deed (queried location q objects)) (subst (λ l. IfSome l (λ bytes. asked_in bytes ≡ None)) calm.tells_left m.0)))))
query_law location old new ends.ReadFault result input objects held noted st m n g calm = absurd (calm.reads m.0)
query_law location old new ends.StoreFault result input objects held noted st m n g calm = absurd (calm.stores m.1)
query_law location old new ends.WriteFault result input objects held noted st m n g calm = absurd (calm.writes m.0)
query_law location old new ends.NoMemory result input objects held noted st m n g calm = inl st
query_law location old new (ends.Table why) result input objects held noted st m n g calm =
    inr (by_answer location old new input objects held noted result (Err why) calm m.0 st n (kept_then old new held calm.tells_held m.1))
query_law location old new ends.Done result input objects held noted st (text, answer, written) n g calm =
    inr (by_answer location old new input objects held noted result (Ok text) calm answer st n (written ∙ ap (λ known. append_known known text) calm.tells_held))
query_law location old new other result input objects held noted st m n g calm = absurd m

-- ---- servers

-- what is wanted of a server of the configuration that the store has
abbrev pub WantsServer : Option Command → (Config → Wanted) → Type 0
WantsServer asked wanted = (input : List ℕ) (objects : Objects) → done asked input objects ≡ configured wanted (config_at objects)

-- what the configuration was at one moment is what is wanted there
wanted_at : (asked : Option Command) (wanted : Config → Wanted) (old new : Outside) (input : List ℕ) (objects : Objects) (held noted : List ℕ) (result : ℕ) (config : Option Config) → WantsServer asked wanted → IsCalm old new input objects held noted
    → Configures config old.objects new.objects → Fulfils (configured wanted config) old new result held noted → DoesAt asked old new input objects held noted result
wanted_at asked wanted old new input objects held noted result config wants calm found does =
    let (listed, begun, ended, is) = listed_at objects new.objects (λ os. config_at os ≡ config) (subst (λ o. Between o new.objects (λ os. config_at os ≡ config)) calm.tells_objects found) in
    (listed, begun, ended, subst (λ w. Fulfils w old new result held noted) (sym (wants input listed)) (subst (λ c. Fulfils (configured wanted c) old new result held noted) (sym is) does))

-- a record that is refused fulfils what is wanted of a server
abbrev pub TakesRefusal : (Config → Wanted) → Type 0
TakesRefusal wanted = (config : Config) (old new : Outside) (result : ℕ) (held noted : List ℕ) (end : End) (number : ℕ) → end ≡ ends.Record number → IsUnserved (no_server.Record number) old new → result ≡ status end → new.noted ≡ Some (noted ++ note end)
    → Fulfils (wanted config) old new result held noted

unserved_law : (asked : Option Command) (wanted : Config → Wanted) (why : NoServer) (old new : Outside) (end : End) (result : ℕ) (input : List ℕ) (objects : Objects) (held noted : List ℕ) → WantsServer asked wanted → TakesRefusal wanted → end ≡ end_without why → result ≡ status end
    → IsUnserved why old new → Notes old new (note end) → IsCalm old new input objects held noted → (result ≡ 6) ⊎ DoesAt asked old new input objects held noted result
unserved_law asked wanted no_server.Configuration old new end result input objects held noted wants takes is st u n calm =
    inr (wanted_at asked wanted old new input objects held noted result None wants calm u.reason
    (deed_then old new input objects held noted result (refused ends.Configuration) (configured wanted None) calm (st ∙ ap status is) (subst (λ e. Notes old new (note e)) is n) (kept_then old new held calm.tells_held u.held) refl))
unserved_law asked wanted (no_server.Record number) old new end result input objects held noted wants takes is st u n calm =
    inr (wanted_at asked wanted old new input objects held noted result (Some u.reason.0.0) wants calm u.reason.0.1
    (takes u.reason.0.0 old new result held noted end number is u st (noted_then old new (note end) noted calm.tells_noted calm.note_writes n)))
unserved_law asked wanted no_server.StoreFault old new end result input objects held noted wants takes is st u n calm = absurd (calm.stores u.reason)
unserved_law asked wanted no_server.NoMemory old new end result input objects held noted wants takes is st u n calm = inl (st ∙ ap status is)

-- ---- sessions

one_wanted : WantsServer (Some command.Stdio) serve
one_wanted = λ input objects. refl

one_refused : TakesRefusal serve
one_refused = λ config old new result held noted end number is u st n. record { end = end; cause = inl (number, is, u); told = st; notes = n }

-- a session that ended without a fault
served_well : (config : Config) (e : SessionEnd) (old new : Outside) (end : End) (result : ℕ) (input : List ℕ) (objects : Objects) (held noted : List ℕ) → end ≡ end_after e → result ≡ status end → IsServed config e old new → Notes old new (note end)
    → IsCalm old new input objects held noted → DoesAt (Some command.Stdio) old new input objects held noted result
served_well config e old new end result input objects held noted is st s n calm =
    wanted_at (Some command.Stdio) serve old new input objects held noted result (Some config) one_wanted calm (s.configured.0, s.configured.1, Grows-on s.configured.0 s.begun.objects new.objects s.configured.2 s.grew.objects, s.configured.3)
    (record { end = end; cause = inr (e, is, s); told = st; notes = noted_then old new (note end) noted calm.tells_noted calm.note_writes n })

cut_never : (old new : Outside) (input : List ℕ) (objects : Objects) (held noted : List ℕ) → IsCalm old new input objects held noted → IfSome old.objects (λ _. Rose old.store_faults new.store_faults) → ⊥
cut_never old new input objects held noted calm cause = calm.stores (subst (λ o. IfSome o (λ _. Rose old.store_faults new.store_faults)) calm.tells_objects cause)

served_law : (config : Config) (e : SessionEnd) (old new : Outside) (end : End) (result : ℕ) (input : List ℕ) (objects : Objects) (held noted : List ℕ) → end ≡ end_after e → result ≡ status end → IsServed config e old new → Notes old new (note end)
    → IsCalm old new input objects held noted → (result ≡ 6) ⊎ DoesAt (Some command.Stdio) old new input objects held noted result
served_law config (session_end.ReadFault served) old new end result input objects held noted is st s n calm = absurd (calm.reads s.cause)
served_law config (session_end.WriteFault served) old new end result input objects held noted is st s n calm = absurd (calm.writes s.cause)
served_law config (session_end.BodyCut served sent) old new end result input objects held noted is st s n calm = absurd (cut_never old new input objects held noted calm s.cause)
served_law config (session_end.NoMemory served) old new end result input objects held noted is st s n calm = inl (st ∙ ap status is)
served_law config e old new end result input objects held noted is st s n calm = inr (served_well config e old new end result input objects held noted is st s n calm)

stdio_law : (old new : Outside) (end : End) (result : ℕ) (input : List ℕ) (objects : Objects) (held noted : List ℕ) → result ≡ status end → IsStdio old new end → Notes old new (note end)
    → IsCalm old new input objects held noted → (result ≡ 6) ⊎ DoesAt (Some command.Stdio) old new input objects held noted result
stdio_law old new end result input objects held noted st (inl (why, is, u)) n calm = unserved_law (Some command.Stdio) serve why old new end result input objects held noted one_wanted one_refused is st u n calm
stdio_law old new end result input objects held noted st (inr (e, is, (config, s))) n calm = served_law config e old new end result input objects held noted is st s n calm

-- ---- workers

many_wanted : (port workers : ℕ) → WantsServer (Some (command.Serve port workers)) host
many_wanted port workers = λ input objects. refl

many_refused : TakesRefusal host
many_refused = λ config old new result held noted end number is u st n. record { end = end; cause = inl (number, is, u); told = st; notes = n }

serve_law : (port workers : ℕ) (old new : Outside) (end : End) (result : ℕ) (input : List ℕ) (objects : Objects) (held noted : List ℕ) → result ≡ status end → IsServe old new end → Notes old new (note end)
    → IsCalm old new input objects held noted → (result ≡ 6) ⊎ DoesAt (Some (command.Serve port workers)) old new input objects held noted result
serve_law port workers old new end result input objects held noted st (inl (why, is, u)) n calm =
    unserved_law (Some (command.Serve port workers)) host why old new end result input objects held noted (many_wanted port workers) many_refused is st u n calm
serve_law port workers old new end result input objects held noted st (inr (e, is, (config, found, o))) n calm =
    inr (wanted_at (Some (command.Serve port workers)) host old new input objects held noted result (Some config) (many_wanted port workers) calm o.configured
    (record { end = end; cause = inr (e, is, (found, o)); told = st; notes = noted_then old new (note end) noted calm.tells_noted calm.note_writes n }))

-- ---- clients

-- what the profile was at one moment is what is wanted there
profile_wanted : (name : List ℕ) (e : CallWords) (old new : Outside) (input : List ℕ) (objects : Objects) (held noted : List ℕ) (result : ℕ) (profile : Option Profile) → IsCalm old new input objects held noted
    → HasProfile name profile old.objects new.objects → Fulfils (asked_of profile (call_in e input)) old new result held noted → DoesAt (Some (command.Client name e)) old new input objects held noted result
profile_wanted name e old new input objects held noted result profile calm found does =
    let (listed, begun, ended, is) = listed_at objects new.objects (λ os. profile_at name os ≡ profile) (subst (λ o. Between o new.objects (λ os. profile_at name os ≡ profile)) calm.tells_objects found) in
    (listed, begun, ended, subst (λ p. Fulfils (asked_of p (call_in e input)) old new result held noted) (sym is) does)

no_body : (e : CallWords) (input : List ℕ) → IsRead e → input_body input ≡ None → call_in e input ≡ None
no_body (worded.Read table) input is none = ap (option_map (calls.Read table)) none
no_body (worded.Whole call) input is none = absurd is

names_call : (e : CallWords) (c : Call) (input : List ℕ) (old new : Option (List ℕ)) → old ≡ Some input → NamesCall e c old new → call_in e input ≡ Some c
names_call (worded.Read table) c input old new told ((body, is, reads), end) =
    ap (option_map (calls.Read table)) (subst (λ o. IfSome o (λ i. input_body i ≡ Some body)) told reads) ∙ ap Some (sym is)
names_call (worded.Whole call) c input old new told names = ap Some (sym names.0)

uncalled_law : (name : List ℕ) (e : CallWords) (why : NoCall) (old new : Outside) (end : End) (result : ℕ) (input : List ℕ) (objects : Objects) (held noted : List ℕ) → end ≡ end_uncalled why → result ≡ status end → HasNoCall why name e old new → new.held ≡ old.held
    → Notes old new (note end) → IsCalm old new input objects held noted → (result ≡ 6) ⊎ DoesAt (Some (command.Client name e)) old new input objects held noted result
uncalled_law name e no_call.Profile old new end result input objects held noted is st why same n calm =
    inr (profile_wanted name e old new input objects held noted result None calm why
    (deed_then old new input objects held noted result (refused ends.Profile) (asked_of None (call_in e input)) calm (st ∙ ap status is) (subst (λ x. Notes old new (note x)) is n) (kept_then old new held calm.tells_held same) refl))
uncalled_law name e no_call.Input old new end result input objects held noted is st (read, (p, found), none) same n calm =
    inr (profile_wanted name e old new input objects held noted result (Some p) calm found
    (deed_then old new input objects held noted result (refused ends.Input) (asked_of (Some p) (call_in e input)) calm (st ∙ ap status is) (subst (λ x. Notes old new (note x)) is n) (kept_then old new held calm.tells_held same)
    (ap (asked_of (Some p)) (sym (no_body e input read (subst (λ l. IfSome l (λ i. input_body i ≡ None)) calm.tells_left none))))))
uncalled_law name e no_call.ReadFault old new end result input objects held noted is st why same n calm = absurd (calm.reads why.1)
uncalled_law name e no_call.StoreFault old new end result input objects held noted is st why same n calm = absurd (calm.stores why)
uncalled_law name e no_call.NoMemory old new end result input objects held noted is st why same n calm = inl (st ∙ ap status is)

client_law : (name : List ℕ) (e : CallWords) (old new : Outside) (end : End) (result : ℕ) (input : List ℕ) (objects : Objects) (held noted : List ℕ) → result ≡ status end → IsClient name e old new end → Notes old new (note end)
    → IsCalm old new input objects held noted → (result ≡ 6) ⊎ DoesAt (Some (command.Client name e)) old new input objects held noted result
client_law name e old new end result input objects held noted st (inl (why, is, cause, same, idle)) n calm = uncalled_law name e why old new end result input objects held noted is st cause same n calm
client_law name e old new end result input objects held noted st (inr (p, c, answer, is, found, names, made)) n calm =
    inr (profile_wanted name e old new input objects held noted result (Some p) calm found
    (subst (λ k. Fulfils (asked_of (Some p) k) old new result held noted) (sym (names_call e c input old.left new.left calm.tells_left names))
    (record { end = end; cause = (answer, is); told = st; notes = noted_then old new (note end) noted calm.tells_noted calm.note_writes n })))

-- ---- every command

law_at : (asked : Option Command) (old new : Outside) (end : End) (result : ℕ) (input : List ℕ) (objects : Objects) (held noted : List ℕ) → result ≡ status end → Because asked old new end → Notes old new (note end) → Grows old.objects new.objects
    → IsCalm old new input objects held noted → (result ≡ 6) ⊎ DoesAt asked old new input objects held noted result
law_at None old new end result input objects held noted st m n g calm = text_law None old new end result input objects held noted st m n g calm
law_at (Some command.Help) old new end result input objects held noted st m n g calm = text_law (Some command.Help) old new end result input objects held noted st m n g calm
law_at (Some command.Version) old new end result input objects held noted st m n g calm = text_law (Some command.Version) old new end result input objects held noted st m n g calm
law_at (Some (command.Query location)) old new end result input objects held noted st m n g calm = query_law location old new end result input objects held noted st m n g calm
law_at (Some (command.Rehearse number)) old new end result input objects held noted st m n g calm = text_law (Some (command.Rehearse number)) old new end result input objects held noted st m n g calm
law_at (Some command.Stdio) old new end result input objects held noted st m n g calm = stdio_law old new end result input objects held noted st m n calm
law_at (Some (command.Client name call_words)) old new end result input objects held noted st m n g calm = client_law name call_words old new end result input objects held noted st m n calm
law_at (Some (command.Serve port workers)) old new end result input objects held noted st m n g calm = serve_law port workers old new end result input objects held noted st m n calm

pub exact_law : (words : List (String Global)) (old new : Outside) (end : End) (result : ℕ) → result ≡ status end → IsRun (command_in words) old new end → IsExact words old new result
exact_law words old new end result st run = λ input objects held noted calm. law_at (command_in words) old new end result input objects held noted st run.means run.notes run.grows calm

alone_at : (asked : Option Command) (old new : Outside) (input : List ℕ) (objects : Objects) (held noted : List ℕ) (result : ℕ) → old.objects ≡ Some objects → new.objects ≡ old.objects
    → (result ≡ 6) ⊎ DoesAt asked old new input objects held noted result → (result ≡ 6) ⊎ Fulfils (done asked input objects) old new result held noted
alone_at asked old new input objects held noted result told same (inl memory) = inl memory
alone_at asked old new input objects held noted result told same (inr (listed, begun, ended, does)) =
    let e : listed ≡ objects = sym (GrowsTo-same objects listed begun (subst (λ o. Grows (Some listed) o) (same ∙ told) ended)) in
    inr (subst (λ o. Fulfils (done asked input o) old new result held noted) e does)

pub alone_law : (words : List (String Global)) (old new : Outside) (end : End) (result : ℕ) → result ≡ status end → IsRun (command_in words) old new end → IsExactAlone words old new result
alone_law words old new end result st run = λ input objects held noted calm same.
    alone_at (command_in words) old new input objects held noted result calm.tells_objects same (exact_law words old new end result st run input objects held noted calm)
