-- What a hub that is opened over a store finds of what the store had.
use Rattle.std.proofs.Common.{◌≡◌, ℕ, ◌+◌, ◌-◌, ◌≤◌, ◌^◌, zero, suc, List, [], ◌∷◌, ◌++◌, length, map, get_or, Option, Some, None, Ok, IfSome, option_map, true≢false, sym, refl, ap, ◌∙◌, subst, arith, append_assoc}
use Rattle.std.specs.Prelude.{All}
use Rattle.std.specs.List.{filter_map, slice_get}
use Rattle.std.specs.FinMap as finmap
use Rattle.std.proofs.lemmas.List.{append-nil}
use Rattle.std.proofs.lemmas.List.Elements.{All-cons, All-nil, filter_map-append}
use mathlib.Core.List.{IsPrefix}
use Rattle.turn_cell.specs.Passes.{AllFresh, CellId}
use Rattle.edge_core.specs.Objects.{Grows, GrowsTo, Objects}
use Rattle.edge_core.proofs.Growth.{Grows-on}
use Rattle.log_actions.specs.declared.actions.Action.{Action}
use Rattle.log_commit.specs.Names.{commit_name}
use Rattle.log_commit.specs.Texts.{commit_in}
use Rattle.log_store.specs.Backed.{IsBacked}
use Rattle.log_store.specs.Log.{log_in, text_at}
use Rattle.log_store.proofs.Backing.{loaded}
use Rattle.catalog_log.specs.RecordNames.{record_name_of}
use Rattle.share_catalog.specs.declared.edit.Edit.{Edit}
use Rattle.share_book.specs.declared.entry.Entry.{Entry}
use Rattle.share_book.specs.declared.entry.Act.TheVariants.{Abort, FoundEdit}
use Rattle.share_book.specs.declared.entry.LogStart.{LogStart}
use Rattle.share_book.specs.History.{block_on, commit_on, edit_in as edit_said, edits, entry, grown, start_in, starts}
use Rattle.share_book.specs.Legal.{IsKeptLog}
use Rattle.share_book.proofs.Growth.{get_stays}
use Rattle.hub_calls.specs.Calls.{P}
use Rattle.hub_catalog.specs.CatalogCalls.{Step, edit_in, finds}
use Rattle.hub_catalog.specs.CatalogTurns.{LoadOf, loading, start_from}
use Rattle.hub_catalog.specs.Edits.{AreSteps}
use Rattle.hub_catalog.specs.Opens.{first_history}
use Rattle.hub_catalog.specs.Records.{HasRecord, record_at, stored_record}
use Rattle.hub_catalog.proofs.Opening.{edits_finds}
use Rattle.hub_catalog.proofs.Rounding.{record_grown}
use Rattle.share_hub.specs.CatalogLaws.{LogsBegin, OpensFindAll, StoppedServersLoseNothing}

-- what holds of a history holds of each pass that has seen it
each_pass : (cell : CellId) (h : List Entry) (n : ℕ) (ps : List P) (Q : List Entry → Type 0) → Q h → AllFresh cell h n ps → All (λ p. Q p.seen) ps
each_pass cell h n [] Q w all = All-nil (λ p. Q p.seen)
each_pass cell h n (p ∷ ps) Q w all = All-cons (λ p. Q p.seen) p ps (subst Q (sym (ap (λ (x : P). x.seen) all.0)) w) (each_pass cell h (n + 1) ps Q w all.1)

-- ---- the edits

first_edits : (found : List Step) → edits (first_history found) ≡ map edit_in found
first_edits found = filter_map-append edit_said (finds 0 found) (entry 0 0 Abort ∷ []) ∙ append-nil (edits (finds 0 found)) ∙ edits_finds [] 0 found

-- edits that are recorded from a number on are those that were found from there
begin_found : (old : Option Objects) (new : Objects) (n : ℕ) (es : List Edit) (xs : List Step) → ((i : ℕ) (e : Edit) → slice_get es i ≡ Some e → HasRecord (Some new) (n + i) e) → AreSteps old (Some new) n xs
    → finmap.get new (record_name_of (n + length xs)) ≡ None → IsPrefix es (map edit_in xs)
begin_found old new n [] xs recorded steps none = (map edit_in xs, refl)
begin_found old new n (e ∷ es) [] recorded steps none = absurd (let c : None ≡ Some (Ok e) = sym (ap (option_map stored_record) none) ∙ recorded 0 e refl in cc)
begin_found old new n (e ∷ es) (x ∷ xs) recorded steps none =
    let at : n + 0 ≡ n = omega arith in
    let both : Some (Ok e) ≡ Some (Ok x.edit) = sym (recorded 0 e refl) ∙ ap (record_at new) at ∙ steps.0.0 in
    let same : e ≡ x.edit = cc in
    let last : n + length (x ∷ xs) ≡ n + 1 + length xs = omega arith in
    let rest =
    begin_found old new (n + 1) es xs (λ i d is. let next : n + suc i ≡ n + 1 + i = omega arith in subst (λ (m : ℕ). HasRecord (Some new) m d) next (recorded (suc i) d is)) steps.1
    (subst (λ (m : ℕ). finmap.get new (record_name_of m) ≡ None) last none) in
    (rest.0, λ i. same i ∷ rest.1 i)

pub all_found : OpensFindAll
all_found made callers old new es opens recorded =
    let found : List Step = opens.1.0 in
    let at : 0 + length found ≡ length found = omega arith in
    let front : IsPrefix es (map edit_in found) =
    begin_found old new 0 es found (λ i e is. let here : i ≡ 0 + i = omega arith in subst (λ (m : ℕ). HasRecord (Some new) m e) here (recorded i e is)) opens.1.2
    (subst (λ (m : ℕ). finmap.get new (record_name_of m) ≡ None) (sym at) opens.1.3) in
    each_pass made.0 (first_history found) 0 made.1.items (λ h. IsPrefix es (edits h)) (subst (λ (all : List Edit). IsPrefix es all) (sym (first_edits found)) front) opens.1.1

-- ---- the logs

-- objects stand for a log later on
backed_later : (location : List ℕ) (os later : Objects) (log : List (List Action)) → GrowsTo os later → IsBacked location (Some os) log → IsBacked location (Some later) log
backed_later location os later log grows backed v c is = kept (text_at location os v) refl (backed v c is)
  where
    kept : (o : Option (List ℕ)) → text_at location os v ≡ o → option_map commit_in o ≡ Some (Ok c) → option_map commit_in (text_at location later v) ≡ Some (Ok c)
    kept None at e = absurd cc
    kept (Some bytes) at e = ap (option_map commit_in) (grows (commit_name location v) bytes at) ∙ e

module _ (location : List ℕ) (log : List (List Action)) (os : Objects) (old new : Option Objects) (grows : Grows (Some os) old) (backed : IsBacked location (Some os) log) (kept : IsKeptLog log) (short : length log ≤ 2 ^ 63) where
  -- the commits of a load begin with the log
  abbrev Begins : LogStart → Type 0
  Begins s = s.location ≡ location → IsPrefix log s.commits

  begins_at : (s : LogStart) (seen : Option Objects) → Grows (Some os) seen → IfSome seen (λ now. s ≡ start_from s.location now) → Begins s
  begins_at s None g is at = absurd (true≢false g)
  begins_at s (Some now) g is at =
      let whole : IsPrefix log (log_in location now).commits = loaded location now log short kept.0 kept.1 (backed_later location os now log g backed) in
      subst (λ (cs : List (List Action)). IsPrefix log cs) (sym (ap (λ (x : LogStart). x.commits) is ∙ ap (λ (l : List ℕ). (log_in l now).commits) at)) whole

  begins_of : (e : Edit) (s : LogStart) → LoadOf old new e (Some s) → Begins s
  begins_of e s w = begins_at s w.1.0 (Grows-on (Some os) old w.1.0 grows w.1.1) w.1.3

  after_load : (o : Option LogStart) (e : Edit) (more : List Entry) (i : ℕ) (s : LogStart) → LoadOf old new e o → slice_get (starts (loading 0 o (FoundEdit e) ++ more)) i ≡ Some s → ((k : ℕ) → slice_get (starts more) k ≡ Some s → Begins s) → Begins s
  after_load None e more i s w is rest = rest i is
  after_load (Some t) e more zero s w is rest = let same : t ≡ s = cc in subst Begins same (begins_of e t w)
  after_load (Some t) e more (suc i) s w is rest = rest i is

  each_start : (n : ℕ) (xs : List Step) → AreSteps old new n xs → (i : ℕ) (s : LogStart) → slice_get (starts (finds 0 xs)) i ≡ Some s → Begins s
  each_start n [] steps i s is = absurd cc
  each_start n (x ∷ xs) steps i s is = after_load x.load x.edit (finds 0 xs) i s steps.0.1 is (λ k at. each_start (n + 1) xs steps.1 k s at)

  behind : (cs more : List (List Action)) → IsPrefix log cs → IsPrefix log (cs ++ more)
  behind cs more front = (front.0 ++ more, sym (append_assoc log front.0 more) ∙ ap (λ (l : List (List Action)). l ++ more) front.1)

  table_begins : (cs : List (List Action)) (bs : List ℕ) (o : Option LogStart) → ((s : LogStart) → o ≡ Some s → Begins s) → IfSome (option_map (grown cs bs) o) (λ t. t.location ≡ location → IsPrefix log t.commits)
  table_begins cs bs None f = tt
  table_begins cs bs (Some s) f = λ at. behind s.commits cs (f s refl at)

  logs_begin : (found : List Step) → AreSteps old new 0 found → LogsBegin location log (first_history found)
  logs_begin found steps j =
      let h : List Entry = first_history found in
      let same : starts h ≡ starts (finds 0 found) = filter_map-append start_in (finds 0 found) (entry 0 0 Abort ∷ []) ∙ append-nil (starts (finds 0 found)) in
      table_begins (filter_map (commit_on j) h) (filter_map (block_on j) h) (slice_get (starts h) (j - 1)) (λ s is. each_start 0 found steps (j - 1) s (ap (λ (ss : List LogStart). slice_get ss (j - 1)) (sym same) ∙ is))

edit_front : (es all : List Edit) (n : ℕ) (e : Edit) → slice_get es n ≡ Some e → IsPrefix es all → slice_get all n ≡ Some e
edit_front es all n e is front = sym (ap (λ (l : List Edit). slice_get l n) front.1) ∙ get_stays es front.0 n e is

each_front : (es : List Edit) (n : ℕ) (e : Edit) (ps : List P) → slice_get es n ≡ Some e → All (λ p. IsPrefix es (edits p.seen)) ps → All (λ p. slice_get (edits p.seen) n ≡ Some e) ps
each_front es n e ps is w k d lt = edit_front es (edits (get_or ps k d).seen) n e is (w k d lt)

pub nothing_lost : StoppedServersLoseNothing
nothing_lost = record {
  edits = λ made callers os new old es n e recorded is grows opens.
      each_front es n e made.1.items is (all_found made callers old new es opens (λ i d at. record_grown (Some os) (Some new) i d grows (recorded i d at)));
  logs = λ made callers os new old location log backed kept short grows opens.
      each_pass made.0 (first_history opens.1.0) 0 made.1.items (LogsBegin location log) (logs_begin location log os old (Some new) grows backed kept short opens.1.0 opens.1.2) opens.1.1;
}
