-- A state stands for the log that it is of: what is in force after more actions is the same.
use Rattle.std.proofs.Common.{◌≡◌, ℕ, ◌+◌, ◌-◌, ◌<◌, List, [], ◌∷◌, ◌++◌, Bool, true, false, cond, T, Option, Some, None, Ok, Err, map, length, refl, sym, ap, ◌∙◌, subst, bytes_eq, Less, arith, length-append, true≢false, Equal, Ordering}
use Rattle.std.specs.Prelude.{filter, filter_map}
use Rattle.std.specs.List.{last_or}
use Rattle.std.specs.Ordering.{nat_cmp, is_eq}
use Rattle.std.specs.Cmp.Lexicographic.{slice_cmp}
use Rattle.std.specs.Cmp.{tied_itself}
use Rattle.std.specs.FinMap as map
use Rattle.std.specs.FinMap.Entries.{below_all, is_sorted}
use Rattle.std.proofs.lemmas.Cmp.{nat_list_cmp_total}
use Rattle.std.proofs.lemmas.Slice.Eq.{bytes_eq-Decides}
use Rattle.std.proofs.lemmas.List.Sums.{fold-append}
use Rattle.log_actions.specs.declared.actions.Action.{Action}
use Rattle.log_actions.specs.declared.actions.Action.TheVariants as action
use Rattle.log_actions.specs.declared.actions.AddFile.{AddFile}
use Rattle.log_actions.specs.declared.actions.Protocol.{Protocol}
use Rattle.log_actions.specs.declared.actions.MetaData.{MetaData}
use Rattle.log_actions.specs.declared.actions.Txn.{Txn}
use Rattle.log_replay.specs.declared.refusal.ReplayRefusal.{ReplayRefusal}
use Rattle.log_replay.specs.Reconciliation.{actions_in, as_meta, as_protocol, as_txn, at_keys, has_app, last_meta, last_protocol, last_txns, latest_txns, live, live_adds, live_files}
use Rattle.log_replay.specs.Support.{refusal_of}
use Rattle.log_replay.specs.Standing.{IsSupported, refusal_at, standing_of}
use Rattle.log_replay.specs.State.{State, state_from, state_of}
use Rattle.log_replay.specs.Snapshots.{checkpoint_of, next_state}
use Rattle.log_replay.specs.Applied.{after, txns_of}
use Rattle.log_replay.proofs.AppliedLemmas.{last_or-filter_map, txns-append}
use Rattle.log_replay.proofs.LiveLemmas.{get-live, keys_tie, latest}
use Rattle.log_replay.proofs.TxnLemmas.{get-latest}
use Rattle.log_replay.proofs.PathLemmas.{AreKeyed, entries_keyed, halves, less}
use Rattle.log_replay.proofs.NextLemmas.{actions_push, next_refusal}
use Rattle.log_replay.proofs.PartLemmas.{made_of}

not_less : (o : Ordering) → o ≡ Equal → o ≡ Less → ⊥
not_less o e l = true≢false (sym (ap is_eq e) ∙ ap is_eq l)

-- a key that rises above another isn't it
apart : (x y : List ℕ) → slice_cmp nat_cmp x y ≡ Less → bytes_eq y x ≡ false
apart x y is =
    elim (bytes_eq y x) as (λ b. bytes_eq y x ≡ b → b ≡ false) [
      | true ↦ λ e. absurd (not_less _ (subst (λ z. slice_cmp nat_cmp x z ≡ Equal) (sym ((bytes_eq-Decides y x).0 e)) (tied_itself nat_list_cmp_total x)) is)
      | false ↦ λ e. refl
    ] refl

none_above : {V : Type 0} (key : V → List ℕ) (x : List ℕ) (es : List (List ℕ × V)) → T (below_all (slice_cmp nat_cmp) x es) → AreKeyed key es → filter (λ v. bytes_eq (key v) x) (map (λ e. e.1) es) ≡ []
none_above key x [] h keyed = refl
none_above key x (e ∷ es) h keyed =
    let parts = halves _ _ h in
    let here : bytes_eq (key e.1) x ≡ false = subst (λ k. bytes_eq k x ≡ false) keyed.0 (apart x e.0 (less _ parts.0)) in
    rw here (none_above key x es parts.1 keyed.1)

last_case : {V : Type 0} (key : V → List ℕ) (q : List ℕ) (e : List ℕ × V) (es : List (List ℕ × V)) (b : Bool) → bytes_eq e.0 q ≡ b → T (below_all (slice_cmp nat_cmp) e.0 es) → AreKeyed key es
    → last_or None (filter (λ v. bytes_eq (key v) q) (map (λ e. e.1) es)) ≡ map.find (slice_cmp nat_cmp) q es
    → last_or None (cond b (e.1 ∷ filter (λ v. bytes_eq (key v) q) (map (λ e. e.1) es)) (filter (λ v. bytes_eq (key v) q) (map (λ e. e.1) es))) ≡ cond b (Some e.1) (map.find (slice_cmp nat_cmp) q es)
last_case key q e es true is h keyed ih =
    let same : e.0 ≡ q = (bytes_eq-Decides e.0 q).0 is in
    ap (last_or (Some e.1)) (none_above key q es (subst (λ k. T (below_all (slice_cmp nat_cmp) k es)) same h) keyed)
last_case key q e es false is h keyed ih = ih

-- among values in order of their keys, the last with a key is the only one
pub last_in_order : {V : Type 0} (key : V → List ℕ) (q : List ℕ) (es : List (List ℕ × V)) → T (is_sorted (slice_cmp nat_cmp) es) → AreKeyed key es
    → last_or None (filter (λ v. bytes_eq (key v) q) (map (λ e. e.1) es)) ≡ map.find (slice_cmp nat_cmp) q es
last_in_order key q [] h keyed = refl
last_in_order key q (e ∷ es) h keyed =
    let parts = halves _ _ h in
    ap (λ b. last_or None (cond b (e.1 ∷ filter (λ v. bytes_eq (key v) q) (map (λ e. e.1) es)) (filter (λ v. bytes_eq (key v) q) (map (λ e. e.1) es)))) (ap (λ k. bytes_eq k q) (sym keyed.0))
    ∙ last_case key q e es (bytes_eq e.0 q) refl parts.0 keyed.1 (last_in_order key q es parts.1 keyed.1)
    ∙ ap (λ b. cond b (Some e.1) (map.find (slice_cmp nat_cmp) q es)) (sym (keys_tie q e.0))

last_at_keys : {V : Type 0} (key : V → List ℕ) (q : List ℕ) (vs : List V) → last_or None (filter (λ v. bytes_eq (key v) q) (map.values (at_keys key vs))) ≡ map.get (at_keys key vs) q
last_at_keys key q vs = last_in_order key q (map.entries (at_keys key vs)) (map.entries_sorted (at_keys key vs)) (entries_keyed key vs) ∙ sym (map.get-entries (at_keys key vs) q)

add_more : (b : Bool) (f : AddFile) (fs : List AddFile) (o : Option AddFile) → last_or (cond b (Some f) o) fs ≡ last_or o (cond b (f ∷ fs) fs)
add_more true f fs o = refl
add_more false f fs o = refl

pub latest_adds : (q : List ℕ) (o : Option AddFile) (fs : List AddFile) → latest q o (map (λ f. action.Add f) fs) ≡ last_or o (filter (λ f. bytes_eq f.path q) fs)
latest_adds q o [] = refl
latest_adds q o (f ∷ fs) = latest_adds q (after q o (action.Add f)) fs ∙ add_more (bytes_eq f.path q) f (filter (λ f. bytes_eq f.path q) fs) o

pub latest_txns_none : (q : List ℕ) (o : Option AddFile) (ts : List Txn) → latest q o (map (λ t. action.Txn t) ts) ≡ o
latest_txns_none q o [] = refl
latest_txns_none q o (t ∷ ts) = latest_txns_none q o ts

-- the file at a path in a checkpoint of the live files is the latest there
latest_of : (s : State) (actions : List Action) (q : List ℕ) → s.files ≡ live_files actions → latest q None (checkpoint_of s) ≡ latest q None actions
latest_of s actions q files =
    fold-append (after q) None (map (λ t. action.Txn t) s.txns) (map (λ f. action.Add f) s.files)
    ∙ ap (λ o. latest q o (map (λ f. action.Add f) s.files)) (latest_txns_none q None s.txns)
    ∙ ap (λ fs. latest q None (map (λ f. action.Add f) fs)) files
    ∙ latest_adds q None (live_files actions) ∙ last_at_keys (λ f. f.path) q (live_adds actions) ∙ get-live actions q

files_same : (s : State) (actions own : List Action) → s.files ≡ live_files actions → live_files (actions ++ own) ≡ live_files (checkpoint_of s ++ own)
files_same s actions own files =
    ap map.values (map.same_map nat_list_cmp_total (map.slice_cmp-IsAntisymmetric map.nat_cmp-IsAntisymmetric) (live (actions ++ own)) (live (checkpoint_of s ++ own))
    (λ q. get-live (actions ++ own) q ∙ fold-append (after q) None actions own ∙ ap (λ o. latest q o own) (sym (latest_of s actions q files)) ∙ sym (fold-append (after q) None (checkpoint_of s) own) ∙ sym (get-live (checkpoint_of s ++ own) q)))

txns_alone : (ts : List Txn) (fs : List AddFile) → filter_map as_txn (map (λ t. action.Txn t) ts ++ map (λ f. action.Add f) fs) ≡ ts
txns_alone [] [] = refl
txns_alone [] (f ∷ fs) = txns_alone [] fs
txns_alone (t ∷ ts) fs = ap (λ r. t ∷ r) (txns_alone ts fs)

-- the last txn of an application in a checkpoint of the last txns is its last
last_of : (s : State) (actions : List Action) (q : List ℕ) → s.txns ≡ last_txns actions → last_or None (txns_of q (checkpoint_of s)) ≡ last_or None (txns_of q actions)
last_of s actions q txns =
    ap (λ ts. last_or None (filter (has_app q) ts)) (txns_alone s.txns s.files ∙ txns) ∙ last_at_keys (λ t. t.app) q (latest_txns (filter_map as_txn actions)) ∙ get-latest (filter_map as_txn actions) q

txns_same : (s : State) (actions own : List Action) → s.txns ≡ last_txns actions → last_txns (actions ++ own) ≡ last_txns (checkpoint_of s ++ own)
txns_same s actions own txns =
    ap map.values (map.same_map nat_list_cmp_total (map.slice_cmp-IsAntisymmetric map.nat_cmp-IsAntisymmetric) (at_keys (λ t. t.app) (latest_txns (filter_map as_txn (actions ++ own)))) (at_keys (λ t. t.app) (latest_txns (filter_map as_txn (checkpoint_of s ++ own))))
    (λ q. get-latest (filter_map as_txn (actions ++ own)) q ∙ txns-append q None actions own ∙ ap (λ o. last_or o (txns_of q own)) (sym (last_of s actions q txns)) ∙ sym (txns-append q None (checkpoint_of s) own)
    ∙ sym (get-latest (filter_map as_txn (checkpoint_of s ++ own)) q)))

none_of_files : {X : Type 0} (f : Action → Option X) (ts : List Txn) (fs : List AddFile) → ((t : Txn) → f (action.Txn t) ≡ None) → ((a : AddFile) → f (action.Add a) ≡ None)
    → filter_map f (map (λ t. action.Txn t) ts ++ map (λ f. action.Add f) fs) ≡ []
none_of_files f [] [] no_txn no_add = refl
none_of_files f [] (a ∷ fs) no_txn no_add = rw (no_add a) (none_of_files f [] fs no_txn no_add)
none_of_files f (t ∷ ts) fs no_txn no_add = rw (no_txn t) (none_of_files f ts fs no_txn no_add)

protocol_same : (s : State) (actions own : List Action) → last_protocol actions ≡ Some s.protocol → last_protocol (actions ++ own) ≡ last_protocol (checkpoint_of s ++ own)
protocol_same s actions own is =
    last_or-filter_map as_protocol None actions own
    ∙ ap (λ o. last_or o (filter_map as_protocol own)) (is ∙ ap (λ ps. last_or (Some s.protocol) ps) (sym (none_of_files as_protocol s.txns s.files (λ t. refl) (λ a. refl))))
    ∙ sym (last_or-filter_map as_protocol None (checkpoint_of s) own)

meta_same : (s : State) (actions own : List Action) → last_meta actions ≡ Some s.meta → last_meta (actions ++ own) ≡ last_meta (checkpoint_of s ++ own)
meta_same s actions own is =
    last_or-filter_map as_meta None actions own
    ∙ ap (λ o. last_or o (filter_map as_meta own)) (is ∙ ap (λ ms. last_or (Some s.meta) ms) (sym (none_of_files as_meta s.txns s.files (λ t. refl) (λ a. refl))))
    ∙ sym (last_or-filter_map as_meta None (checkpoint_of s) own)

pub supported : (log : List (List Action)) → 0 < length log → refusal_of log ≡ None → IsSupported log
supported [] some is = absurd (omega (arith, some))
supported (c ∷ cs) some is = is

no_state : (e : ReplayRefusal) (s : State) → Err e ≡ Ok s → ⊥
no_state e s is = cc

pub not_empty : (log : List (List Action)) (s : State) → state_of log ≡ Ok s → 0 < length log
not_empty [] s is = absurd (no_state _ s is)
not_empty (c ∷ cs) s is = omega arith

same_from : (r q : Option ReplayRefusal) (v n : ℕ) (fs gs : List AddFile) (p o : Option Protocol) (m k : Option MetaData) (ts us : List Txn) → r ≡ q → v ≡ n → fs ≡ gs → p ≡ o → m ≡ k → ts ≡ us
    → state_from r v fs p m ts ≡ state_from q n gs o k us
same_from r q v n fs gs p o m k ts us er ev ef ep em et = rw (er, ev, ef, ep, em, et) refl

refusal_same : (p o : Option Protocol) (m k : Option MetaData) (v n : ℕ) (own : List Action) → p ≡ o → m ≡ k → v ≡ n → refusal_at v p m own ≡ refusal_at n o k own
refusal_same p o m k v n own ep em ev = rw (ep, em, ev) refl

-- the state of a log with one commit more is the state after that of the log
pub state_push : (log : List (List Action)) (s : State) (own : List Action) → state_of log ≡ Ok s → state_of (log ++ own ∷ []) ≡ next_state s own
state_push log s own is =
    let some = not_empty log s is in
    let of = made_of (refusal_of log) (length log - 1) (live_files (actions_in log)) (last_protocol (actions_in log)) (last_meta (actions_in log)) (last_txns (actions_in log)) s is in
    let longer : length (log ++ own ∷ []) ≡ length log + 1 = length-append log (own ∷ []) in
    let at : length log ≡ s.version + 1 = omega (arith, of.version, some) in
    let push = actions_push log own in
    let p : last_protocol (actions_in (log ++ own ∷ [])) ≡ last_protocol (checkpoint_of s ++ own) = ap last_protocol push ∙ protocol_same s (actions_in log) own of.protocol in
    let m : last_meta (actions_in (log ++ own ∷ [])) ≡ last_meta (checkpoint_of s ++ own) = ap last_meta push ∙ meta_same s (actions_in log) own of.meta in
    same_from _ _ _ _ _ _ _ _ _ _ _ _
    (next_refusal log own _ _ _ (supported log some of.refusal) refl refl refl ∙ refusal_same _ _ _ _ _ _ own p m at)
    (omega (arith, longer, at))
    (ap live_files push ∙ files_same s (actions_in log) own of.files)
    p m
    (ap last_txns push ∙ txns_same s (actions_in log) own of.txns)

-- how a log stands, by its state
pub state_stands : (log : List (List Action)) (s : State) (v : ℕ) (p : Protocol) (m : MetaData) → v ≡ s.version + 1 → p ≡ s.protocol → m ≡ s.meta → state_of log ≡ Ok s
    → record { versions = v; protocol = Some p; meta = Some m } ≡ standing_of log
state_stands log s v p m ev ep em is =
    let some = not_empty log s is in
    let of = made_of (refusal_of log) (length log - 1) (live_files (actions_in log)) (last_protocol (actions_in log)) (last_meta (actions_in log)) (last_txns (actions_in log)) s is in
    let at : v ≡ length log = omega (arith, of.version, some, ev) in
    let protocol : Some p ≡ last_protocol (actions_in log) = ap (λ (x : Protocol). Some x) ep ∙ sym of.protocol in
    let meta : Some m ≡ last_meta (actions_in log) = ap (λ (x : MetaData). Some x) em ∙ sym of.meta in
    λ i. record { versions = at i; protocol = protocol i; meta = meta i }
