-- From the store to a server, and from a session to a run.
use Rattle.std.proofs.Common.{◌≡◌, ℕ, ◌<◌, ◌≤◌, ◌^◌, List, [], ◌∷◌, length, Option, Some, None, refl, sym, ap, ◌∙◌, subst, arith, Result, Ok, Err, Bool, true, false, true≢false, inl, inr}
use Rattle.std.specs.Prelude.{All, IfOk, IfSome, nat_le, option_and_then, if◌then◌else◌}
use Rattle.std.specs.FinMap as map
use Rattle.std.proofs.lemmas.Bool.{le-leb}
use Rattle.std.proofs.lemmas.Bool.Decides.{nat_tests}
use Rattle.std.proofs.lemmas.List.Elements.{All-head}
use Rattle.turn_cell.specs.Entries.{IsHistory}
use Rattle.turn_cell.specs.Passes.{CellId}
use Rattle.edge_core.specs.Faults.{Cause, Rose}
use Rattle.edge_core.specs.Objects.{Objects, Grows, Lacks}
use Rattle.edge_core.proofs.Growth.{Grows-itself, Grows-on}
use Rattle.log_store.specs.Loads.{IsFetched}
use Rattle.log_store.specs.Refusals.{failed_load}
use Rattle.log_store.specs.declared.reading.Fetched.{Fetched}
use Rattle.log_store.specs.declared.reading.Fetched.TheVariants as fetched
use Rattle.log_store.specs.declared.refusal.LoadRefusal.{LoadRefusal}
use Rattle.log_store.specs.declared.refusal.LoadRefusal.TheVariants as load
use Rattle.catalog_log.specs.RecordNames.{record_name_of}
use Rattle.share_config.specs.Configuration.{config_in}
use Rattle.share_config.specs.declared.config.Config.{Config}
use Rattle.share_book.specs.declared.entry.Entry.{Entry}
use Rattle.share_book.specs.History.{caller_of}
use Rattle.share_book.specs.Legal.{May}
use Rattle.hub_calls.specs.Calls.{IsKnown, P}
use Rattle.hub_catalog.specs.CatalogCalls.{Step}
use Rattle.hub_catalog.specs.Edits.{AreSteps}
use Rattle.hub_catalog.specs.Opens.{OpensAs, first_history, failed_open}
use Rattle.hub_catalog.specs.declared.open.OpenRefusal.{OpenRefusal}
use Rattle.hub_catalog.specs.declared.open.OpenRefusal.TheVariants as refusal
use Rattle.hub_catalog.proofs.Rounding.{steps_wider}
use Rattle.share_serve.specs.Callers.{server_of}
use Rattle.share_serve.specs.Sessions.{HasCause, IsSession}
use Rattle.share_serve.specs.Sides.{hold, side}
use Rattle.share_serve.specs.declared.serve.SessionEnd.{SessionEnd}
use Rattle.share_serve.specs.declared.serve.SessionEnd.TheVariants as session_end
use Rattle.turn_cell.specs.Passes.{AllFresh, fresh}
use Rattle.share_commands.specs.Configuration.{config_at, config_name, config_of, if_config}
use Rattle.query_command.specs.Outside.{Outside}
use Rattle.share_commands.specs.Steps.{Runs}
use Rattle.share_commands.specs.Stdio.{Configures, HasReason, IsUnserved, Opens, RefusesRecord, end_after, end_without, record_in, shelf_of}
use Rattle.share_commands.specs.StdioSteps.{LooksOnly, OpensFor, ServesOne, without_hub, without_load}
use Rattle.share_commands.specs.declared.opening.NoServer.{NoServer}
use Rattle.share_commands.specs.declared.words.Command.TheVariants as command

-- ---- the configuration of an object

read_if : (fits : Bool) (read : Option Config) → fits ≡ true → (if fits then read else None) ≡ read
read_if true read is = refl
read_if false read is = absurd (true≢false (sym is))

none_if : (fits : Bool) (read : Option Config) → fits ≡ false → (if fits then read else None) ≡ None
none_if true read is = absurd (true≢false is)
none_if false read is = refl

short_config : (bytes : List ℕ) → length bytes ≤ 2 ^ 24 → config_of bytes ≡ if_config (config_in bytes)
short_config bytes short = read_if (nat_le (length bytes) (2 ^ 24)) (if_config (config_in bytes)) (le-leb (length bytes) (2 ^ 24) short)

long_config : (bytes : List ℕ) → 2 ^ 24 < length bytes → config_of bytes ≡ None
long_config bytes long = none_if (nat_le (length bytes) (2 ^ 24)) (if_config (config_in bytes)) (grind (arith, nat_tests, long))

-- bytes that were fetched state what the object does
pub bytes_config : (E : Type 0) (bytes : List ℕ) (object : Option (List ℕ)) (r : Result (Option Config) E) → (object ≡ Some bytes) × (length bytes ≤ 2 ^ 24) → IfOk r (λ found. found ≡ if_config (config_in bytes)) → IfOk r (λ found. found ≡ option_and_then config_of object)
bytes_config E bytes object (Ok found) f is = is ∙ sym (ap (option_and_then config_of) f.0 ∙ short_config bytes f.1)
bytes_config E bytes object (Err e) f is = tt

pub absent_config : (object : Option (List ℕ)) → IsFetched (2 ^ 24) object (Ok fetched.Absent) → None ≡ option_and_then config_of object
absent_config object f = sym (ap (option_and_then config_of) f)

pub long_object : (object : Option (List ℕ)) → IsFetched (2 ^ 24) object (Ok fetched.TooLong) → None ≡ option_and_then config_of object
long_object None f = absurd f
long_object (Some bytes) f = sym (long_config bytes f)

-- what was fetched by the name is the store's configuration
pub stored : (o : Option Objects) (name : List ℕ) (f : Fetched) (r : Result (Option Config) LoadRefusal) → name ≡ config_name → IfSome o (λ os. IsFetched (2 ^ 24) (map.get os name) (Ok f))
    → ((object : Option (List ℕ)) → IsFetched (2 ^ 24) object (Ok f) → IfOk r (λ found. found ≡ option_and_then config_of object)) → IfSome o (λ os. IfOk r (λ found. found ≡ config_at os))
stored None name f r e w h = tt
stored (Some os) name f r e w h = subst (λ (m : List ℕ). IfOk r (λ found. found ≡ option_and_then config_of (map.get os m))) e (h (map.get os name) w)

pub nothing_stored : (o : Option Objects) (refused : LoadRefusal) (r : Result (Option Config) LoadRefusal) → r ≡ Err refused → IfSome o (λ os. IfOk r (λ found. found ≡ config_at os))
nothing_stored None refused r e = tt
nothing_stored (Some os) refused r e = subst (λ (x : Result (Option Config) LoadRefusal). IfOk x (λ found. found ≡ config_at os)) (sym e) tt

-- ---- a server

some_map : {X : Type 0} (o : Option X) (A B : X → Type 0) → ((x : X) → A x → B x) → IfSome o A → IfSome o B
some_map None A B f w = tt
some_map (Some x) A B f w = f x w

-- what the store has when it was read it has at that moment of the call
pub configures : (found : Option Config) (old mid new : Option Objects) → Grows old mid → Grows mid new → IfSome mid (λ os. found ≡ config_at os) → Configures found old new
configures found old mid new first last w = (mid, first, last, some_map mid (λ os. found ≡ config_at os) (λ os. config_at os ≡ found) (λ os e. sym e) w)

pub load_reason : (refused : LoadRefusal) (old new : Option Objects) (before now : ℕ) → Cause before now (failed_load {X = ℕ} (Err refused)) → HasReason (without_load refused) old new before now
load_reason load.StoreFault old new before now cause = cause.rose
load_reason load.NoMemory old new before now cause = tt

-- a call of the store that failed behind others failed in all of them
later_rose : (before mid now : ℕ) → before ≤ mid → Rose mid now → Rose before now
later_rose before mid now le rose = omega (arith, le, rose)

refuses : (why : OpenRefusal) (number : ℕ) (old mid new : Option Objects) → record_in why ≡ Some number → Grows old mid → OpensAs (Err why) 1 mid new → RefusesRecord number old new
refuses why number old mid new is grows opens = (why, is, (opens.0, steps_wider old mid new new 0 opens.0 grows (Grows-itself new) opens.1, opens.2))

pub hub_reason : (why : OpenRefusal) (config : Config) (old mid new : Option Objects) (before between now : ℕ) → Grows old mid → Grows mid new → IfSome mid (λ os. Some config ≡ config_at os) → before ≤ between
    → Cause between now (failed_open {X = ℕ} (Err why)) → OpensAs (Err why) 1 mid new → HasReason (without_hub why) old new before now
hub_reason (refusal.Record number fault) config old mid new before between now first last found le cause opens =
    ((config, configures (Some config) old mid new first last found), refuses (refusal.Record number fault) number old mid new refl first opens)
hub_reason (refusal.Edit number fault) config old mid new before between now first last found le cause opens =
    ((config, configures (Some config) old mid new first last found), refuses (refusal.Edit number fault) number old mid new refl first opens)
hub_reason refusal.StoreFault config old mid new before between now first last found le cause opens = later_rose before between now le cause.rose
hub_reason refusal.NoMemory config old mid new before between now first last found le cause opens = tt

-- what the passes of a hub that was opened know of its history
pub known_first : (cell : CellId) (h : List Entry) (passes : List P) (callers : ℕ) → AllFresh cell h 0 passes → 0 < length passes → cell.callers ≡ callers → All IsKnown passes → IsHistory caller_of May callers h
known_first cell h [] callers begin some are known = absurd (omega (arith, some))
known_first cell h (p ∷ ps) callers begin some are known = subst (λ (k : ℕ). IsHistory caller_of May k h) are (subst IsKnown begin.0 (All-head IsKnown p ps known))

-- the passes of a hub that was opened are new
pub opens_for : (cell : CellId) (found : List Step) (passes : List P) (callers : ℕ) (old mid new : Option Objects) → length passes ≡ callers → cell.callers ≡ callers → AllFresh cell (first_history found) 0 passes → IsHistory caller_of May callers (first_history found)
    → Grows old mid → AreSteps mid new 0 found → Lacks (record_name_of (length found)) new → OpensFor callers cell passes old new
opens_for cell found passes callers old mid new count are all known grows steps lacks =
    record { count = count; callers_are = are; found = found; begin = all; known = known; steps = steps_wider old mid new new 0 found grows (Grows-itself new) steps; last = lacks }

-- one caller's pass is
pub opens_one : (cell : CellId) (passes : List P) (pass : P) (old new : Option Objects) → passes ≡ pass ∷ [] → OpensFor 1 cell passes old new → Opens pass old new
opens_one cell passes pass old new one opens =
    let is : pass ≡ fresh cell 0 (first_history opens.found) = (subst (AllFresh cell (first_history opens.found) 0) one opens.begin).0 in
    record { found = opens.found; one = ap (λ (p : P). p.cell.callers) is ∙ opens.callers_are; begins = subst (λ c. pass ≡ fresh c 0 (first_history opens.found)) (sym (ap (λ p. p.cell) is)) is; steps = opens.steps; last = opens.last }

pub one_of : (passes : List P) → length passes ≡ 1 → (pass : P) × (passes ≡ pass ∷ [])
one_of [] count = absurd cc
one_of (p ∷ []) count = (p, refl)
one_of (p ∷ q ∷ ps) count = absurd (omega (arith, count))

pub idle_one : (cell : CellId) (history : List Entry) (passes : List P) (pass : P) → passes ≡ pass ∷ [] → AllFresh cell history 0 passes → (pass.cell ≡ cell) × (pass.holds ≡ false)
idle_one cell history passes pass one all =
    let is : pass ≡ fresh cell 0 history = (subst (AllFresh cell history 0) one all).0 in
    (ap (λ p. p.cell) is, ap (λ p. p.holds) is)

-- ---- a session

told_cause : (old mid : Option Objects) (p q r : ℕ) → Grows old mid → p ≤ q → IfSome mid (λ _. Rose q r) → IfSome old (λ _. Rose p r)
told_cause None mid p q r grows le cause = tt
told_cause (Some os) None p q r grows le cause = absurd (true≢false grows)
told_cause (Some os) (Some ms) p q r grows le cause = later_rose p q r le cause

-- a cause stands where the sink's count goes on rising
pub cause_after : (e : SessionEnd) (n m a b c : ℕ) (objects : Option Objects) (p q : ℕ) → b ≤ c → HasCause e n m a b objects p q → HasCause e n m a c objects p q
cause_after (session_end.Done served) n m a b c objects p q later cause = tt
cause_after (session_end.Truncated at served) n m a b c objects p q later cause = tt
cause_after (session_end.BadMessage at flaw served) n m a b c objects p q later cause = tt
cause_after (session_end.ReadFault served) n m a b c objects p q later cause = cause
cause_after (session_end.WriteFault served) n m a b c objects p q later cause = omega (arith, later, cause)
cause_after (session_end.BodyCut served sent) n m a b c objects p q later cause = cause
cause_after (session_end.NoMemory served) n m a b c objects p q later cause = tt

-- the cause of an end in a session is one in the run
cause_before : (e : SessionEnd) (n m a b : ℕ) (old mid : Option Objects) (p q r : ℕ) → Grows old mid → p ≤ q → HasCause e n m a b mid q r → HasCause e n m a b old p r
cause_before (session_end.Done served) n m a b old mid p q r grows le cause = tt
cause_before (session_end.Truncated at served) n m a b old mid p q r grows le cause = tt
cause_before (session_end.BadMessage at flaw served) n m a b old mid p q r grows le cause = tt
cause_before (session_end.ReadFault served) n m a b old mid p q r grows le cause = cause
cause_before (session_end.WriteFault served) n m a b old mid p q r grows le cause = cause
cause_before (session_end.BodyCut served sent) n m a b old mid p q r grows le cause = told_cause old mid p q r grows le cause
cause_before (session_end.NoMemory served) n m a b old mid p q r grows le cause = tt

more_rose : (a b c : ℕ) → b ≤ c → Rose a b → Rose a c
more_rose a b c le rose = omega (arith, le, rose)

-- faults behind the session take no cause away
pub cause_behind : (e : SessionEnd) (n m a b c : ℕ) (o : Option Objects) (p q : ℕ) → b ≤ c → HasCause e n m a b o p q → HasCause e n m a c o p q
cause_behind (session_end.Done served) n m a b c o p q le cause = tt
cause_behind (session_end.Truncated at served) n m a b c o p q le cause = tt
cause_behind (session_end.BadMessage at flaw served) n m a b c o p q le cause = tt
cause_behind (session_end.ReadFault served) n m a b c o p q le cause = cause
cause_behind (session_end.WriteFault served) n m a b c o p q le cause = more_rose a b c le cause
cause_behind (session_end.BodyCut served sent) n m a b c o p q le cause = cause
cause_behind (session_end.NoMemory served) n m a b c o p q le cause = tt

-- ---- a run

pub unserved : (why : NoServer) (old new : Outside) → LooksOnly old new → HasReason why old.objects new.objects old.store_faults new.store_faults → IsUnserved why old new
unserved why old new looks reason = record { reason = reason; left = ap (λ o. o.left) looks.rest; held = ap (λ o. o.held) looks.rest; coming = ap (λ o. o.coming) looks.rest; same = looks.looked.same; stored = looks.stored }

pub unserved_runs : (why : NoServer) (old new : Outside) → LooksOnly old new → HasReason why old.objects new.objects old.store_faults new.store_faults → Runs (Some command.Stdio) old new (end_without why)
unserved_runs why old new looks reason = record {
  means = inl (why, refl, unserved why old new looks reason);
  notes = ap (λ o. o.noted) looks.rest;
  note_faults = ap (λ o. o.note_faults) looks.rest;
  grows = looks.looked.grows;
  same = tt;
  stored = tt;
}

pub served_runs : (config : Config) (pass : P) (e : SessionEnd) (old mid new : Outside) → LooksOnly old mid → Configures (Some config) old.objects mid.objects → Opens pass old.objects mid.objects → ServesOne (server_of config) pass e mid new
    → Runs (Some command.Stdio) old new (end_after e)
served_runs config pass e old mid new looks found opens serves = record {
  means = inr (
    e,
    refl,
    (
      config,
      record {
        pass = pass;
        begun = shelf_of mid;
        looked = looks.looked;
        stored = looks.stored;
        configured = found;
        opened = opens;
        last = serves.last;
        kept = serves.kept;
        kept_new = serves.kept_new;
        grew = serves.grew;
        known = subst (λ (k : ℕ). IsHistory caller_of May k serves.last.seen) (ap (λ (c : CellId). c.callers) serves.grew.pass.cell ∙ opens.one) serves.known;
        session = subst (λ o. IsSession (server_of config) o.left new.left (side o.coming (hold pass (shelf_of mid)) o.held serves.kept) (side new.coming (hold serves.last (shelf_of new)) new.held serves.kept_new) e) looks.rest serves.session;
        cause = cause_before e old.read_faults new.read_faults old.write_faults new.write_faults old.objects mid.objects old.store_faults mid.store_faults new.store_faults looks.looked.grows looks.later
            (subst (λ o. HasCause e o.read_faults new.read_faults o.write_faults new.write_faults mid.objects mid.store_faults new.store_faults) looks.rest serves.cause);
      },
    ),
  );
  notes = serves.notes ∙ ap (λ o. o.noted) looks.rest;
  note_faults = serves.note_faults ∙ ap (λ o. o.note_faults) looks.rest;
  grows = Grows-on old.objects mid.objects new.objects looks.looked.grows serves.grew.objects;
  same = tt;
  stored = tt;
}
