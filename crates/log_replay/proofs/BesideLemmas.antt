-- A state's files, and beside them what else holds.
use Rattle.std.proofs.Common.{◌≡◌, ℕ, ◌+◌, List, [], ◌∷◌, ◌++◌, true, T, Option, Some, None, Ok, Err, option_map, map, fold, refl, sym, ap, ◌∙◌, subst, Less}
use Rattle.std.specs.Prelude.{filter_map}
use Rattle.std.specs.List.{AllByRecursion, cons_option, last_or}
use Rattle.std.specs.List.Sorted.{IsStrictlySortedBy}
use Rattle.std.specs.Ordering.{nat_cmp}
use Rattle.std.specs.Cmp.Lexicographic.{slice_cmp}
use Rattle.std.specs.FinMap as map
use Rattle.std.specs.FinMap.Entries.{below_all}
use Rattle.std.proofs.lemmas.Cmp.{nat_list_cmp_total}
use Rattle.std.proofs.lemmas.List.{append-nil}
use Rattle.std.proofs.lemmas.List.Elements.{filter_map-append}
use Rattle.std.proofs.lemmas.List.Sums.{fold-append}
use Rattle.log_actions.specs.declared.actions.Action.{Action}
use Rattle.log_actions.specs.declared.actions.Action.TheVariants as action
use Rattle.log_actions.specs.declared.actions.AddFile.{AddFile}
use Rattle.log_actions.specs.declared.actions.Protocol.{Protocol}
use Rattle.log_actions.specs.declared.actions.MetaData.{MetaData}
use Rattle.log_actions.specs.declared.actions.Txn.{Txn}
use Rattle.log_replay.specs.declared.refusal.ReplayRefusal.{ReplayRefusal}
use Rattle.log_replay.specs.declared.refusal.NoState.{NoState}
use Rattle.log_replay.specs.declared.refusal.NoState.TheVariants.{NoMemory, Refusal}
use Rattle.log_replay.specs.declared.held.Held.{Held}
use Rattle.log_replay.specs.declared.snapshot.Parts.{Parts}
use Rattle.log_replay.specs.Reconciliation.{as_meta, as_protocol, as_txn, at_keys, last_meta, last_protocol, last_txns, latest_txns, live, live_files}
use Rattle.log_replay.specs.Standing.{refusal_at}
use Rattle.log_replay.specs.State.{State, state_after, state_from}
use Rattle.log_replay.specs.Snapshots.{Answers, PathsRise, checkpoint_of, next_state}
use Rattle.log_replay.specs.Applied.{AreParts, Holds, after, state_in, support_of}
use Rattle.log_replay.specs.Listing.{Changes, at_path, bare_of}
use Rattle.log_replay.proofs.LiveLemmas.{get-live, latest}
use Rattle.log_replay.proofs.PathLemmas.{AreKeyed}
use Rattle.log_replay.proofs.CheckpointLemmas.{last_in_order, latest_adds, latest_txns_none}
use Rattle.log_replay.proofs.PartLemmas.{made_of, unmade}
use Rattle.log_replay.proofs.RefusalLemmas.{none_of_ok, refusal_of_err}

-- ---- the files

abbrev pairs_of : List AddFile → List (List ℕ × AddFile)
pairs_of fs = map (λ f. (f.path, f)) fs

below : (x : List ℕ) (fs : List AddFile) → AllByRecursion (λ y. slice_cmp nat_cmp x y ≡ Less) (map (λ f. f.path) fs) → below_all (slice_cmp nat_cmp) x (pairs_of fs) ≡ true
below x [] h = refl
below x (f ∷ fs) h = rw h.0 (below x fs h.1)

sorted : (fs : List AddFile) → PathsRise fs → map.is_sorted (slice_cmp nat_cmp) (pairs_of fs) ≡ true
unfolding IsStrictlySortedBy
sorted [] h = refl
sorted (f ∷ fs) h = rw (below f.path fs h.0) (sorted fs h.1)

keyed : (fs : List AddFile) → AreKeyed (λ f. f.path) (pairs_of fs)
keyed [] = tt
keyed (f ∷ fs) = (refl, keyed fs)

values_of : (fs : List AddFile) → map (λ e. e.1) (pairs_of fs) ≡ fs
values_of [] = refl
values_of (f ∷ fs) = ap (λ r. f ∷ r) (values_of fs)

-- the latest at a path in a state's actions and more
latest_after : (s : State) (own : List Action) (q : List ℕ) → latest q None (checkpoint_of s ++ own) ≡ fold (after q) (at_path q s.files) own
latest_after s own q =
    fold-append (after q) None (checkpoint_of s) own
    ∙ ap (λ o. fold (after q) o own) (fold-append (after q) None (map (λ t. action.Txn t) s.txns) (map (λ f. action.Add f) s.files)
    ∙ ap (λ o. latest q o (map (λ f. action.Add f) s.files)) (latest_txns_none q None s.txns) ∙ latest_adds q None s.files)

-- files in order that the actions changed at each path are the live files
pub changed_files : (s : State) (own : List Action) (new : List AddFile) → PathsRise new → Changes s.files new own → new ≡ live_files (checkpoint_of s ++ own)
changed_files s own new rise changes =
    let good : T (map.is_sorted (slice_cmp nat_cmp) (pairs_of new)) = subst T (sym (sorted new rise)) tt in
    let same : map.from_sorted (pairs_of new) ≡ live (checkpoint_of s ++ own)
    = map.same_map nat_list_cmp_total (map.slice_cmp-IsAntisymmetric map.nat_cmp-IsAntisymmetric) (map.from_sorted (pairs_of new)) (live (checkpoint_of s ++ own))
    (λ q. map.get-from_sorted (slice_cmp nat_cmp) (pairs_of new) q good
    ∙ sym (last_in_order (λ f. f.path) q (pairs_of new) good (keyed new))
    ∙ ap (at_path q) (values_of new)
    ∙ changes q ∙ sym (latest_after s own q) ∙ sym (get-live (checkpoint_of s ++ own) q)) in
    sym (values_of new) ∙ ap (map (λ e. e.1)) (sym (map.entries-from_sorted (slice_cmp nat_cmp) (pairs_of new) good)) ∙ ap map.values same

-- ---- the rest

no_files : {X : Type 0} (f : Action → Option X) (fs : List AddFile) → ((a : AddFile) → f (action.Add a) ≡ None) → filter_map f (map (λ a. action.Add a) fs) ≡ []
no_files f [] none = refl
no_files f (a ∷ fs) none = rw (none a) (no_files f fs none)

skip_files : {X : Type 0} (f : Action → Option X) (s : State) (own : List Action) → ((a : AddFile) → f (action.Add a) ≡ None) → filter_map f (bare_of s ++ own) ≡ filter_map f (checkpoint_of s ++ own)
skip_files f s own none =
    filter_map-append f (bare_of s) own
    ∙ ap (λ r. r ++ filter_map f own) (ap (λ r. cons_option (f (action.Protocol s.protocol)) (cons_option (f (action.MetaData s.meta)) r))
    (sym (append-nil (filter_map f (map (λ t. action.Txn t) s.txns))) ∙ ap (λ r. filter_map f (map (λ t. action.Txn t) s.txns) ++ r) (sym (no_files f s.files none)) ∙ sym (filter_map-append f (map (λ t. action.Txn t) s.txns) (map (λ a. action.Add a) s.files))))
    ∙ sym (filter_map-append f (checkpoint_of s) own)

same_protocol : (s : State) (own : List Action) → last_protocol (bare_of s ++ own) ≡ last_protocol (checkpoint_of s ++ own)
same_protocol s own = ap (last_or None) (skip_files as_protocol s own (λ a. refl))

same_meta : (s : State) (own : List Action) → last_meta (bare_of s ++ own) ≡ last_meta (checkpoint_of s ++ own)
same_meta s own = ap (last_or None) (skip_files as_meta s own (λ a. refl))

same_txns : (s : State) (own : List Action) → last_txns (bare_of s ++ own) ≡ last_txns (checkpoint_of s ++ own)
same_txns s own = ap (λ ts. map.values (at_keys (λ t. t.app) (latest_txns ts))) (skip_files as_txn s own (λ a. refl))

-- what is held after a state, but its files, and the actions of a version
pub record IsBeside (s : State) (own : List Action) (held : Held) (v : ℕ) (actions : List Action) : Type 0 where
  pub holds : Holds held (bare_of s ++ own)
  pub at : v ≡ s.version + 1
  pub tested : actions ≡ own

refusal_is : (s : State) (own : List Action) (held : Held) (version : ℕ) (tested : List Action) → IsBeside s own held version tested
    → refusal_at version (option_map (λ p. p.now) held.protocol) (option_map (λ m. m.now) held.meta) tested
    ≡ refusal_at (s.version + 1) (last_protocol (checkpoint_of s ++ own)) (last_meta (checkpoint_of s ++ own)) own
refusal_is s own held version tested n = rw (n.at, n.tested, n.holds.protocol, n.holds.meta, same_protocol s own, same_meta s own) refl

pub beside_refused : (s : State) (own : List Action) (held : Held) (version : ℕ) (tested : List Action) (e : ReplayRefusal) → IsBeside s own held version tested
    → support_of version (option_map (λ p. p.now) held.protocol) (option_map (λ m. m.now) held.meta) tested ≡ Err e → next_state s own ≡ Err e
beside_refused s own held version tested e n is =
    let refusal = sym (refusal_is s own held version tested n) ∙ refusal_of_err _ e is in
    ap (λ r. state_from r (s.version + 1) (live_files (checkpoint_of s ++ own)) (last_protocol (checkpoint_of s ++ own)) (last_meta (checkpoint_of s ++ own)) (last_txns (checkpoint_of s ++ own))) refusal

beside_none : (s : State) (own : List Action) (held : Held) (version : ℕ) (tested : List Action) → IsBeside s own held version tested
    → support_of version (option_map (λ p. p.now) held.protocol) (option_map (λ m. m.now) held.meta) tested ≡ Ok tt
    → refusal_at (s.version + 1) (last_protocol (checkpoint_of s ++ own)) (last_meta (checkpoint_of s ++ own)) own ≡ None
beside_none s own held version tested n is = sym (refusal_is s own held version tested n) ∙ none_of_ok _ is

no_state : (e : ReplayRefusal) (s : State) → Ok s ≡ Err e → ⊥
no_state e s is = cc

other_files : (v : ℕ) (fs gs : List AddFile) (p : Option Protocol) (m : Option MetaData) (ts us : List Txn) (e : ReplayRefusal) → state_from None v fs p m ts ≡ Err e → state_from None v gs p m us ≡ Err e
other_files v fs gs None m ts us e is = is
other_files v fs gs (Some p) None ts us e is = is
other_files v fs gs (Some p) (Some m) ts us e is = absurd (no_state e _ is)

unmade_by : (s : State) (own : List Action) (v : ℕ) (e : ReplayRefusal) → state_after None v (bare_of s ++ own) ≡ Err e → state_after None v (checkpoint_of s ++ own) ≡ Err e
unmade_by s own v e is =
    ap (λ p. state_from None v (live_files (checkpoint_of s ++ own)) p (last_meta (checkpoint_of s ++ own)) (last_txns (checkpoint_of s ++ own))) (sym (same_protocol s own))
    ∙ ap (λ m. state_from None v (live_files (checkpoint_of s ++ own)) (last_protocol (bare_of s ++ own)) m (last_txns (checkpoint_of s ++ own))) (sym (same_meta s own))
    ∙ other_files v (live_files (bare_of s ++ own)) (live_files (checkpoint_of s ++ own)) (last_protocol (bare_of s ++ own)) (last_meta (bare_of s ++ own)) (last_txns (bare_of s ++ own)) (last_txns (checkpoint_of s ++ own)) e is

parts_by : (s : State) (own : List Action) (e : NoState) → AreParts (bare_of s ++ own) (Err e) → AreParts (checkpoint_of s ++ own) (Err e)
parts_by s own (Refusal r) are = λ v. unmade_by s own v r (are v)
parts_by s own NoMemory are = tt

pub beside_unmade : (s : State) (own : List Action) (held : Held) (version : ℕ) (tested : List Action) (e : NoState) → IsBeside s own held version tested
    → support_of version (option_map (λ p. p.now) held.protocol) (option_map (λ m. m.now) held.meta) tested ≡ Ok tt → AreParts (bare_of s ++ own) (Err e) → Answers (Err e) (next_state s own)
beside_unmade s own held version tested e n is are = unmade (checkpoint_of s ++ own) (s.version + 1) _ e (parts_by s own e are) (beside_none s own held version tested n is)

pub beside_made : (s : State) (own : List Action) (held : Held) (version : ℕ) (tested : List Action) (parts : Parts) (new : List AddFile) → IsBeside s own held version tested
    → support_of version (option_map (λ p. p.now) held.protocol) (option_map (λ m. m.now) held.meta) tested ≡ Ok tt → AreParts (bare_of s ++ own) (Ok parts)
    → PathsRise new → Changes s.files new own
    → next_state s own ≡ Ok (record { version = version; files = new; protocol = parts.protocol.now; meta = parts.meta.now; txns = map (λ t. t.now) parts.txns.items })
beside_made s own held version tested parts new n is are rise changes =
    let actions = bare_of s ++ own in
    let of = made_of None version (live_files actions) (last_protocol actions) (last_meta actions) (last_txns actions) (state_in version parts) (are version) in
    rw (beside_none s own held version tested n is, sym (changed_files s own new rise changes), sym (same_protocol s own), sym (same_meta s own), sym (same_txns s own), of.protocol, of.meta, sym of.txns, sym n.at) refl

abbrev pub state_with : ℕ → List AddFile → Protocol → MetaData → List Txn → State
state_with v fs p m ts = record { version = v; files = fs; protocol = p; meta = m; txns = ts }

pub state_same : (v : ℕ) (fs : List AddFile) (p q : Protocol) (m k : MetaData) (ts us : List Txn) → p ≡ q → m ≡ k → ts ≡ us → state_with v fs q k us ≡ state_with v fs p m ts
state_same v fs p q m k ts us ep em et = rw (ep, em, et) refl

pub bare_is : (s : State) (p : Protocol) (m : MetaData) (ts : List Txn) → p ≡ s.protocol → m ≡ s.meta → ts ≡ s.txns
    → (action.Protocol p ∷ action.MetaData m ∷ []) ++ map (λ t. action.Txn t) ts ≡ bare_of s
bare_is s p m ts ep em et = rw (ep, em, et) refl
