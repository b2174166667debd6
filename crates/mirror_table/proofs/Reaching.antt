-- What the commit of a mirror reaches.
use Rattle.std.proofs.Common.{◌≡◌, ◌&&◌, ◌||◌, ◌-◌, ◌+◌, Bool, true, false, cond, List, [], ◌∷◌, ◌++◌, ℕ, Option, Some, None, Ok, Err, is_some, length, map, fold, refl, sym, ap, ◌∙◌, subst, bytes_eq, true≢false}
use Rattle.std.specs.Prelude.{filter, filter_map, option_map, option_to_list, unwrap_or}
use Rattle.std.specs.List.{last_or, list_any}
use Rattle.std.specs.Option.{option_or}
use Rattle.std.specs.Ordering.{nat_cmp, is_eq}
use Rattle.std.specs.Cmp.Lexicographic.{slice_cmp}
use Rattle.std.specs.FinMap as map
use Rattle.std.proofs.lemmas.List.{append-nil}
use Rattle.std.proofs.lemmas.Bool.Decides.{Decides-int_eq}
use Rattle.log_actions.specs.declared.actions.Action.{Action}
use Rattle.log_actions.specs.declared.actions.Action.TheVariants as action
use Rattle.log_actions.specs.declared.actions.Txn.{Txn}
use Rattle.log_replay.specs.Applied.{after, txns_of}
use Rattle.log_replay.specs.Listing.{Changes, at_path}
use Rattle.log_replay.specs.Reconciliation.{actions_in, as_meta, as_protocol, as_txn, at_keys, has_app, last_meta, last_protocol, last_txns, latest_txns, live_files}
use Rattle.log_replay.specs.Snapshots.{PathsRise, checkpoint_of}
use Rattle.log_replay.specs.Standing.{IsSupported, refusal_at}
use Rattle.log_replay.specs.State.{IsHead, State, state_after, state_of}
use Rattle.log_replay.specs.Support.{refusal_of}
use Rattle.log_replay.proofs.AppliedLemmas.{txns-append}
use Rattle.log_replay.proofs.BesideLemmas.{changed_files}
use Rattle.log_replay.proofs.CheckpointLemmas.{state_push}
use Rattle.log_replay.proofs.HeadLemmas.{head_stands}
use Rattle.log_replay.proofs.ListingLemmas.{rise_none, same}
use Rattle.log_replay.proofs.NextLemmas.{actions_push, held_push}
use Rattle.log_replay.proofs.PartLemmas.{made_of, state_is}
use Rattle.log_replay.proofs.PathLemmas.{live_files_rise}
use Rattle.log_replay.proofs.TxnLemmas.{get-latest}
use Rattle.mirror_table.specs.Same.{same_meta, same_protocol}
use Rattle.mirror_table.specs.Goals.{Goal, Mirrors, is_mark}
use Rattle.mirror_table.specs.Laws.{TargetReaches, TargetSettles}
use Rattle.mirror_table.specs.Targets.{adds, commit_to, differences, files_of, has_mark, is_none_of, mark_of, meta_change, protocol_change, removes, target}
use Rattle.mirror_table.proofs.SameLemmas.{meta_decides, protocol_decides}
use Rattle.mirror_table.proofs.CommitLemmas.{files_changed, meta_reached, protocol_reached, txns_in}
use Rattle.mirror_table.proofs.FileLemmas.{files_reached, nothing_added, nothing_removed}

-- ---- the txn

passes : (Txn → Bool) → Option Txn → Type 0
passes test None = ⊥
passes test (Some t) = test t ≡ true

either : (a b : Bool) → b ≡ true → (a || b) ≡ true
either true b is = refl
either false b is = is

-- a value that is found by its key is one of the values
found_value : (test : Txn → Bool) (q : List ℕ) (es : List (List ℕ × Txn)) (t : Txn) → map.find (slice_cmp nat_cmp) q es ≡ Some t → test t ≡ true → list_any test (map (λ e. e.1) es) ≡ true
unfolding passes
found_value test q [] t found is = absurd (true≢false (sym (ap is_some found)))
found_value test q (e ∷ es) t found is =
    elim (is_eq (slice_cmp nat_cmp q e.0)) as (λ b. cond b (Some e.1) (map.find (slice_cmp nat_cmp) q es) ≡ Some t → (test e.1 || list_any test (map (λ e. e.1) es)) ≡ true) [
      | true ↦ λ found. ap (λ b. b || list_any test (map (λ e. e.1) es)) (subst (passes test) (sym found) is)
      | false ↦ λ found. either (test e.1) _ (found_value test q es t found is)
    ] found

own_mark : (g : Goal) → is_mark g (mark_of g) ≡ true
own_mark g = λ i. same g.app g.app refl i && (Decides-int_eq (mark_of g).version (mark_of g).version).1 refl i

-- the last txn of the application is the commit's
mark_found : (before : List Action) (state : Option State) (now : ℕ) (g : Goal) → last_or None (txns_of g.app (before ++ commit_to state now g)) ≡ Some (mark_of g)
mark_found before state now g =
    let o = last_or None (txns_of g.app before) in
    txns-append g.app None before (commit_to state now g) ∙ ap (λ ts. last_or o (filter (has_app g.app) ts)) (txns_in state now g)
    ∙ ap (λ b. last_or o (cond b (mark_of g ∷ []) [])) (same g.app g.app refl)

mark_reached : (actions before : List Action) (state : Option State) (now : ℕ) (g : Goal) → actions ≡ before ++ commit_to state now g → list_any (is_mark g) (last_txns actions) ≡ true
mark_reached actions before state now g is =
    let last = at_keys (λ t. t.app) (latest_txns (filter_map as_txn actions)) in
    found_value (is_mark g) g.app (map.entries last) (mark_of g)
    (sym (map.get-entries last g.app) ∙ get-latest (filter_map as_txn actions) g.app ∙ ap (λ a. last_or None (txns_of g.app a)) is ∙ mark_found before state now g)
    (own_mark g)

-- ---- the files

head_rises : (log : List (List Action)) (state : Option State) → IsHead log state → PathsRise (files_of state)
head_rises log None is = rise_none
head_rises log (Some s) is =
    let of = made_of (refusal_of log) (length log - 1) (live_files (actions_in log)) (last_protocol (actions_in log)) (last_meta (actions_in log)) (last_txns (actions_in log)) s is in
    subst PathsRise (sym of.files) (live_files_rise (actions_in log))

changes : (state : Option State) (now : ℕ) (g : Goal) → PathsRise (files_of state) → PathsRise g.files → Changes (files_of state) g.files (commit_to state now g)
changes state now g rise_live rise q = files_reached now (files_of state) g.files q rise_live rise ∙ sym (files_changed q (at_path q (files_of state)) state now g)

-- a state without files
bare : Goal → State
bare g = record { version = 0; files = []; protocol = g.protocol; meta = g.meta; txns = [] }

files_begun : (now : ℕ) (g : Goal) → PathsRise g.files → g.files ≡ live_files (commit_to None now g)
unfolding bare
files_begun now g rise = changed_files (bare g) (commit_to None now g) g.files rise (changes None now g rise_none rise)

files_after : (log : List (List Action)) (s t : State) (own : List Action) → state_of log ≡ Ok s → state_of (log ++ own ∷ []) ≡ Ok t → t.files ≡ live_files (checkpoint_of s ++ own)
files_after log s t own is made =
    let actions = checkpoint_of s ++ own in
    let of = made_of (refusal_at (s.version + 1) (last_protocol actions) (last_meta actions) own) (s.version + 1) (live_files actions) (last_protocol actions) (last_meta actions) (last_txns actions) t (sym (state_push log s own is) ∙ made) in
    of.files

files_are : (log : List (List Action)) (state : Option State) (now : ℕ) (g : Goal) (t : State) → IsHead log state → PathsRise g.files → state_of (log ++ commit_to state now g ∷ []) ≡ Ok t
    → t.files ≡ live_files (actions_in (log ++ commit_to state now g ∷ [])) → t.files ≡ g.files
files_are log None now g t head rise made are =
    are ∙ ap (λ l. live_files (actions_in (l ++ commit_to None now g ∷ []))) head ∙ ap live_files (actions_push [] (commit_to None now g)) ∙ sym (files_begun now g rise)
files_are log (Some s) now g t head rise made are =
    files_after log s t (commit_to (Some s) now g) head made ∙ sym (changed_files s (commit_to (Some s) now g) g.files rise (changes (Some s) now g (head_rises log (Some s) head) rise))

-- ---- the state behind the commit

refused_none : (log : List (List Action)) (c : List Action) → IsSupported (log ++ c ∷ []) → refusal_of (log ++ c ∷ []) ≡ None
refused_none [] c is = is
refused_none (d ∷ ds) c is = is

commit_reaches : (log : List (List Action)) (state : Option State) (now : ℕ) (g : Goal) → IsHead log state → PathsRise g.files → IsSupported (log ++ commit_to state now g ∷ [])
    → (s : State) × (state_of (log ++ commit_to state now g ∷ []) ≡ Ok s) × Mirrors s g
commit_reaches log state now g head rise good =
    let own = commit_to state now g in
    let all = log ++ own ∷ [] in
    let stands = head_stands log state head in
    let p : last_protocol (actions_in all) ≡ Some g.protocol
    = held_push as_protocol log own ∙ ap (option_or (last_or None (filter_map as_protocol own))) (sym stands.1) ∙ protocol_reached state now g in
    let m : last_meta (actions_in all) ≡ Some g.meta
    = held_push as_meta log own ∙ ap (option_or (last_or None (filter_map as_meta own))) (sym stands.2) ∙ meta_reached state now g in
    let t : State = record { version = length all - 1; files = live_files (actions_in all); protocol = g.protocol; meta = g.meta; txns = last_txns (actions_in all) } in
    let made : state_of all ≡ Ok t
    = ap (λ r. state_after r (length all - 1) (actions_in all)) (refused_none log own good) ∙ state_is (actions_in all) (length all - 1) (live_files (actions_in all)) g.protocol g.meta (last_txns (actions_in all)) refl p m refl in (
      t,
      made,
      record {
        protocol = refl;
        meta = refl;
        files = files_are log state now g t head rise made refl;
        mark = mark_reached (actions_in all) (actions_in log) state now g (actions_push log own);
      },
    )

-- ---- where there is no commit

both : (a b : Bool) → (a && b) ≡ true → (a ≡ true) × (b ≡ true)
both true b is = (refl, is)
both false b is = absurd (true≢false (sym is))

nothing : (actions : List Action) → is_none_of actions ≡ true → actions ≡ []
nothing [] is = refl
nothing (a ∷ actions) is = absurd (true≢false (sym is))

-- a state from which nothing differs mirrors the goal
mirrors_already : (s : State) (now : ℕ) (g : Goal) → PathsRise s.files → PathsRise g.files → has_mark (Some s) g ≡ true → differences (Some s) now g ≡ [] → Mirrors s g
mirrors_already s now g rise_live rise mark none =
    let own : g.files ≡ live_files (checkpoint_of s ++ []) = changed_files s [] g.files rise (λ q. changes (Some s) now g rise_live rise q ∙ ap (fold (after q) (at_path q s.files)) none) in
    record {
      protocol = ap (λ o. unwrap_or o s.protocol) (sym (ap (λ d. option_or (last_or None (filter_map as_protocol d)) (Some s.protocol)) none) ∙ protocol_reached (Some s) now g);
      meta = ap (λ o. unwrap_or o s.meta) (sym (ap (λ d. option_or (last_or None (filter_map as_meta d)) (Some s.meta)) none) ∙ meta_reached (Some s) now g);
      files = changed_files s [] s.files rise_live (λ q. refl) ∙ sym own;
      mark = mark;
    }

reaches_by : (log : List (List Action)) (state : Option State) (now : ℕ) (g : Goal) (b : Bool) → (has_mark state g && is_none_of (differences state now g)) ≡ b → IsHead log state → PathsRise g.files
    → IsSupported (log ++ option_to_list (cond b None (Some (commit_to state now g))))
    → (s : State) × (state_of (log ++ option_to_list (cond b None (Some (commit_to state now g)))) ≡ Ok s) × Mirrors s g
reaches_by log None now g true is head rise good = absurd (true≢false (sym is))
reaches_by log (Some s) now g true is head rise good =
    let parts = both _ _ is in
    (s, ap state_of (append-nil log) ∙ head, mirrors_already s now g (head_rises log (Some s) head) rise parts.0 (nothing _ parts.1))
reaches_by log state now g false is head rise good = commit_reaches log state now g head rise good

pub reaches : TargetReaches
reaches log state now g head rise good = reaches_by log state now g (has_mark state g && is_none_of (differences state now g)) refl head rise good

no_differences : (s : State) (now : ℕ) (g : Goal) → PathsRise g.files → Mirrors s g → differences (Some s) now g ≡ []
no_differences s now g rise m =
    let p : protocol_change (Some s) g.protocol ≡ [] = ap (λ b. cond b [] (action.Protocol g.protocol ∷ [])) ((protocol_decides s.protocol g.protocol).1 m.protocol) in
    let k : meta_change (Some s) g.meta ≡ [] = ap (λ b. cond b [] (action.MetaData g.meta ∷ [])) ((meta_decides s.meta g.meta).1 m.meta) in
    let r : removes now s.files g.files ≡ [] = ap (λ fs. removes now fs g.files) m.files ∙ nothing_removed now g.files rise in
    let a : adds s.files g.files ≡ [] = ap (λ fs. adds fs g.files) m.files ∙ nothing_added g.files rise in
    λ i. p i ++ (k i ++ (r i ++ a i))

pub settles : TargetSettles
settles s now g rise m =
    let no : (has_mark (Some s) g && is_none_of (differences (Some s) now g)) ≡ true = λ i. m.mark i && is_none_of (no_differences s now g rise m i) in
    ap (λ b. cond b None (Some (commit_to (Some s) now g))) no
