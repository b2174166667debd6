-- The protocols, metaData and txns of a mirror's commit.
use Rattle.std.proofs.Common.{◌≡◌, ◌&&◌, Bool, true, false, cond, not, List, [], ◌∷◌, ◌++◌, ℕ, Option, Some, None, is_some, map, fold, refl, sym, ap, ◌∙◌, subst, bytes_eq, true≢false}
use Rattle.std.specs.Prelude.{filter, filter_map, option_map}
use Rattle.std.specs.List.{last_or, list_any}
use Rattle.std.specs.Option.{option_or}
use Rattle.std.proofs.lemmas.List.{append-nil}
use Rattle.std.proofs.lemmas.List.Elements.{filter_map-append}
use Rattle.std.proofs.lemmas.List.Sums.{fold-append}
use Rattle.log_actions.specs.declared.actions.Action.{Action}
use Rattle.log_actions.specs.declared.actions.Action.TheVariants as action
use Rattle.log_actions.specs.declared.actions.AddFile.{AddFile}
use Rattle.log_actions.specs.declared.actions.MetaData.{MetaData}
use Rattle.log_actions.specs.declared.actions.Protocol.{Protocol}
use Rattle.log_actions.specs.declared.actions.RemoveFile.{RemoveFile}
use Rattle.log_actions.specs.declared.actions.Txn.{Txn}
use Rattle.log_replay.specs.Reconciliation.{as_meta, as_protocol, as_txn}
use Rattle.log_replay.specs.Applied.{after}
use Rattle.log_replay.specs.State.{State}
use Rattle.mirror_table.specs.Same.{same_meta, same_protocol}
use Rattle.mirror_table.specs.Goals.{Goal}
use Rattle.mirror_table.specs.Targets.{adds, commit_to, differences, files_of, mark_of, meta_change, protocol_change, remove_at, removes}
use Rattle.mirror_table.proofs.SameLemmas.{meta_decides, protocol_decides}

no_removes : {X : Type 0} (f : Action → Option X) → ((r : RemoveFile) → f (action.Remove r) ≡ None) → (now : ℕ) (fs : List AddFile) → filter_map f (map (remove_at now) fs) ≡ []
no_removes f none now [] = refl
no_removes f none now (a ∷ fs) = rw (none _) (no_removes f none now fs)

no_adds : {X : Type 0} (f : Action → Option X) → ((a : AddFile) → f (action.Add a) ≡ None) → (fs : List AddFile) → filter_map f (map (λ a. action.Add a) fs) ≡ []
no_adds f none [] = refl
no_adds f none (a ∷ fs) = rw (none a) (no_adds f none fs)

-- removes and adds are nothing else
no_files : {X : Type 0} (f : Action → Option X) → ((r : RemoveFile) → f (action.Remove r) ≡ None) → ((a : AddFile) → f (action.Add a) ≡ None) → (now : ℕ) (live wanted : List AddFile)
    → filter_map f (removes now live wanted ++ adds live wanted) ≡ []
no_files f no_remove no_add now live wanted =
    filter_map-append f (removes now live wanted) (adds live wanted) ∙ ap (λ r. r ++ filter_map f (adds live wanted)) (no_removes f no_remove now _) ∙ no_adds f no_add _

-- what the commit has of a kind that isn't a file's is in its protocol and its metaData
kinds : {X : Type 0} (f : Action → Option X) → ((r : RemoveFile) → f (action.Remove r) ≡ None) → ((a : AddFile) → f (action.Add a) ≡ None) → (state : Option State) (now : ℕ) (g : Goal)
    → filter_map f (differences state now g) ≡ filter_map f (protocol_change state g.protocol) ++ filter_map f (meta_change state g.meta)
kinds f no_remove no_add state now g =
    let live = files_of state in
    filter_map-append f (protocol_change state g.protocol) (meta_change state g.meta ++ (removes now live g.files ++ adds live g.files))
    ∙ ap (λ r. filter_map f (protocol_change state g.protocol) ++ r) (filter_map-append f (meta_change state g.meta) (removes now live g.files ++ adds live g.files)
    ∙ ap (λ r. filter_map f (meta_change state g.meta) ++ r) (no_files f no_remove no_add now live g.files) ∙ append-nil _)

no_meta_in : (state : Option State) (p : Protocol) → filter_map as_meta (protocol_change state p) ≡ []
no_meta_in None p = refl
no_meta_in (Some s) p = elim (same_protocol s.protocol p) as (λ b. filter_map as_meta (cond b [] (action.Protocol p ∷ [])) ≡ []) [ true ↦ refl | false ↦ refl ]

no_protocol_in : (state : Option State) (m : MetaData) → filter_map as_protocol (meta_change state m) ≡ []
no_protocol_in None m = refl
no_protocol_in (Some s) m = elim (same_meta s.meta m) as (λ b. filter_map as_protocol (cond b [] (action.MetaData m ∷ [])) ≡ []) [ true ↦ refl | false ↦ refl ]

no_txn_first : (state : Option State) (p : Protocol) → filter_map as_txn (protocol_change state p) ≡ []
no_txn_first None p = refl
no_txn_first (Some s) p = elim (same_protocol s.protocol p) as (λ b. filter_map as_txn (cond b [] (action.Protocol p ∷ [])) ≡ []) [ true ↦ refl | false ↦ refl ]

no_txn_second : (state : Option State) (m : MetaData) → filter_map as_txn (meta_change state m) ≡ []
no_txn_second None m = refl
no_txn_second (Some s) m = elim (same_meta s.meta m) as (λ b. filter_map as_txn (cond b [] (action.MetaData m ∷ [])) ≡ []) [ true ↦ refl | false ↦ refl ]

-- the txns of the commit
pub txns_in : (state : Option State) (now : ℕ) (g : Goal) → filter_map as_txn (commit_to state now g) ≡ mark_of g ∷ []
txns_in state now g = ap (λ r. mark_of g ∷ r) (kinds as_txn (λ r. refl) (λ a. refl) state now g ∙ ap (λ r. r ++ filter_map as_txn (meta_change state g.meta)) (no_txn_first state g.protocol) ∙ no_txn_second state g.meta)

protocol_case : (s : State) (p : Protocol) (b : Bool) → same_protocol s.protocol p ≡ b → option_or (last_or None (filter_map as_protocol (cond b [] (action.Protocol p ∷ [])))) (Some s.protocol) ≡ Some p
protocol_case s p true is = ap Some ((protocol_decides s.protocol p).0 is)
protocol_case s p false is = refl

protocol_new : (state : Option State) (p : Protocol) → option_or (last_or None (filter_map as_protocol (protocol_change state p))) (option_map (λ s. s.protocol) state) ≡ Some p
protocol_new None p = refl
protocol_new (Some s) p = protocol_case s p (same_protocol s.protocol p) refl

-- the protocol that holds behind the commit
pub protocol_reached : (state : Option State) (now : ℕ) (g : Goal) → option_or (last_or None (filter_map as_protocol (commit_to state now g))) (option_map (λ s. s.protocol) state) ≡ Some g.protocol
protocol_reached state now g =
    ap (λ ps. option_or (last_or None ps) (option_map (λ s. s.protocol) state))
    (kinds as_protocol (λ r. refl) (λ a. refl) state now g ∙ ap (λ r. filter_map as_protocol (protocol_change state g.protocol) ++ r) (no_protocol_in state g.meta) ∙ append-nil _)
    ∙ protocol_new state g.protocol

meta_case : (s : State) (m : MetaData) (b : Bool) → same_meta s.meta m ≡ b → option_or (last_or None (filter_map as_meta (cond b [] (action.MetaData m ∷ [])))) (Some s.meta) ≡ Some m
meta_case s m true is = ap Some ((meta_decides s.meta m).0 is)
meta_case s m false is = refl

meta_new : (state : Option State) (m : MetaData) → option_or (last_or None (filter_map as_meta (meta_change state m))) (option_map (λ s. s.meta) state) ≡ Some m
meta_new None m = refl
meta_new (Some s) m = meta_case s m (same_meta s.meta m) refl

-- and the metaData
pub meta_reached : (state : Option State) (now : ℕ) (g : Goal) → option_or (last_or None (filter_map as_meta (commit_to state now g))) (option_map (λ s. s.meta) state) ≡ Some g.meta
meta_reached state now g =
    ap (λ ms. option_or (last_or None ms) (option_map (λ s. s.meta) state))
    (kinds as_meta (λ r. refl) (λ a. refl) state now g ∙ ap (λ r. r ++ filter_map as_meta (meta_change state g.meta)) (no_meta_in state g.protocol))
    ∙ meta_new state g.meta

protocol_passed : (q : List ℕ) (o : Option AddFile) (state : Option State) (p : Protocol) → fold (after q) o (protocol_change state p) ≡ o
protocol_passed q o None p = refl
protocol_passed q o (Some s) p = elim (same_protocol s.protocol p) as (λ b. fold (after q) o (cond b [] (action.Protocol p ∷ [])) ≡ o) [ true ↦ refl | false ↦ refl ]

meta_passed : (q : List ℕ) (o : Option AddFile) (state : Option State) (m : MetaData) → fold (after q) o (meta_change state m) ≡ o
meta_passed q o None m = refl
meta_passed q o (Some s) m = elim (same_meta s.meta m) as (λ b. fold (after q) o (cond b [] (action.MetaData m ∷ [])) ≡ o) [ true ↦ refl | false ↦ refl ]

-- the files of a path are changed by the removes and the adds alone
pub files_changed : (q : List ℕ) (o : Option AddFile) (state : Option State) (now : ℕ) (g : Goal)
    → fold (after q) o (commit_to state now g) ≡ fold (after q) o (removes now (files_of state) g.files ++ adds (files_of state) g.files)
files_changed q o state now g =
    let rest = removes now (files_of state) g.files ++ adds (files_of state) g.files in
    fold-append (after q) o (protocol_change state g.protocol) (meta_change state g.meta ++ rest) ∙ ap (λ r. fold (after q) r (meta_change state g.meta ++ rest)) (protocol_passed q o state g.protocol)
    ∙ fold-append (after q) o (meta_change state g.meta) rest ∙ ap (λ r. fold (after q) r rest) (meta_passed q o state g.meta)
