-- What is admitted is lawful, and rests on what still holds.
use Rattle.std.proofs.Common.{◌≡◌, ℕ, ◌+◌, List, [], ◌∷◌, ◌++◌, Bool, true, false, cond, not, Option, Some, None, Result, Ok, Err, is_some, option_map, length, take, refl, sym, ap, ◌∙◌, subst, bytes_eq, true≢false}
use Rattle.std.specs.Prelude.{◌||◌, ◌&&◌}
use Rattle.std.specs.List.{list_all, list_any, position_from}
use Rattle.std.specs.Option.{option_or}
use Rattle.std.proofs.lemmas.Bool.{or_parts}
use Rattle.std.proofs.lemmas.Cmp.{nat_list_eq_equiv}
use Rattle.std.proofs.lemmas.Slice.Eq.{bytes_eq-Decides}
use Rattle.log_actions.specs.Commits.{is_meta_data, is_protocol}
use Rattle.log_actions.specs.declared.actions.Action.{Action}
use Rattle.log_actions.specs.declared.actions.Action.TheVariants as action
use Rattle.log_actions.specs.declared.actions.AddFile.{AddFile}
use Rattle.log_commit.specs.Rules.{broken_rule}
use Rattle.log_replay.specs.Reconciliation.{actions_in, last_meta, last_protocol, live_files, names}
use Rattle.log_replay.specs.State.{State}
use Rattle.log_actions.specs.Printing.{has_vector}
use Rattle.log_replay.proofs.LiveLemmas.{latest}
use Rattle.commit_check.specs.Admission.{absent, appends_only, bad_offer, bad_place, conflict_of, first_bad, has_no_name, is_live_at, is_unfit, path_of, read_ahead, removes_absent, removes_data, takes_data, unless_conflict, unwritten, whole_place, winners_conflict, won}
use Rattle.commit_check.specs.Laws.{AdmittedIsLawful, ReadStillHolds}
use Rattle.commit_check.specs.Lawful.{is_append_only, is_info, is_lawful, is_lawful_action, is_live}
use Rattle.commit_check.specs.Offers.{added_path, commit_with, is_one_of, paths_added, paths_removed, read_state, removed_path, state_at}
use Rattle.commit_check.specs.Winners.{adds_read, adds_same, changes_read, has_app_of, removes_same}
use Rattle.commit_check.specs.declared.conflict.Conflict.{Conflict}
use Rattle.commit_check.specs.declared.conflict.Conflict.TheVariants as conflict
use Rattle.commit_check.specs.declared.offer.Offer.{Offer}
use Rattle.commit_check.proofs.Chosen.{made_of_log, state_there}
use Rattle.commit_check.proofs.Entries.{latest_stays, live_is}
use Rattle.commit_check.proofs.Places.{none_passes}
use Rattle.commit_check.proofs.Still.{Free, actions_split, any_or, later, none_later, still, unnamed}

-- ---- no conflict

pub some_conflict : (c : Conflict) → Some c ≡ None → ⊥
some_conflict c e = cc

pub neither : (a b : Option Conflict) → option_or a b ≡ None → (a ≡ None) × (b ≡ None)
neither None b e = (refl, e)
neither (Some c) b e = absurd (some_conflict c e)

abbrev actions_or : List Action → Result (List Action) Conflict → List Action
actions_or xs (Ok c) = c
actions_or xs (Err f) = xs

no_ok : (e : Conflict) (xs : List Action) → Err e ≡ Ok xs → ⊥
no_ok e xs h = cc

pub no_conflict : (o : Option Conflict) (all commit : List Action) → unless_conflict o all ≡ Ok commit → (o ≡ None) × (commit ≡ all)
no_conflict None all commit is = (refl, sym (ap (actions_or all) is))
no_conflict (Some c) all commit is = absurd (no_ok c commit is)

none_mapped : (told : ℕ → Conflict) (o : Option ℕ) → option_map told o ≡ None → o ≡ None
none_mapped told None is = refl
none_mapped told (Some n) is = absurd (some_conflict (told n) is)

or_none : (a b : Option ℕ) → option_or a b ≡ None → a ≡ None
or_none None b e = refl
or_none (Some n) b e = absurd (true≢false (ap is_some e))

unless_case : (b : Bool) (c : Conflict) → cond b (Some c) None ≡ None → b ≡ false
unless_case true c e = absurd (some_conflict c e)
unless_case false c e = refl

-- what holds of an offer without a conflict
pub record Passes (log : List (List Action)) (offer : Offer) : Type 0 where
  pub bad : first_bad offer.location [] offer.actions ≡ None
  pub appends : takes_data (last_meta (actions_in log)) offer.actions ≡ false
  pub there : list_any (removes_absent (read_state log offer.read)) offer.actions ≡ false
  pub free : Free log offer.read offer.reads offer.actions

passes_own : (log : List (List Action)) (now : ℕ) (offer : Offer) → conflict_of log now offer ≡ None → Passes log offer
passes_own log now offer e =
    let state = read_state log offer.read in
    let said = absent state offer.actions in
    let late = option_or (appends_only (last_meta (actions_in log)) offer.actions) said in
    let bad = option_or (bad_offer log now offer) late in
    let early = option_or (unwritten (last_protocol (actions_in log)) offer.actions) bad in
    let own = neither (option_or (read_ahead (length log) offer.read) early) (winners_conflict log state offer) e in
    let after_ahead = neither (read_ahead (length log) offer.read) early own.0 in
    let after_unwritten = neither (unwritten (last_protocol (actions_in log)) offer.actions) bad after_ahead.1 in
    let after_bad = neither (bad_offer log now offer) late after_unwritten.1 in
    let after_appends = neither (appends_only (last_meta (actions_in log)) offer.actions) said after_bad.1 in
    let six = won (λ v. conflict.ConcurrentAppend v) (adds_read offer.reads state) log offer.read in
    let five = won (λ v. conflict.ConcurrentDeleteRead v) (changes_read offer.reads state) log offer.read in
    let four = won (λ v. conflict.ConcurrentAddAdd v) (adds_same offer.actions) log offer.read in
    let three = won (λ v. conflict.ConcurrentDeleteDelete v) (removes_same offer.actions) log offer.read in
    let two = won (λ v. conflict.ConcurrentTransaction v) (has_app_of offer.actions) log offer.read in
    let one = won (λ v. conflict.MetadataChanged v) is_meta_data log offer.read in
    let zeroth = won (λ v. conflict.ProtocolChanged v) is_protocol log offer.read in
    let w0 = neither zeroth (option_or one (option_or two (option_or three (option_or four (option_or five six))))) own.1 in
    let w1 = neither one (option_or two (option_or three (option_or four (option_or five six)))) w0.1 in
    let w2 = neither two (option_or three (option_or four (option_or five six))) w1.1 in
    let w3 = neither three (option_or four (option_or five six)) w2.1 in
    let w4 = neither four (option_or five six) w3.1 in
    let w5 = neither five six w4.1 in
    record {
      bad = or_none (first_bad offer.location [] offer.actions) (whole_place log now offer) (none_mapped (λ n. conflict.BadOffer n) (bad_place log now offer) after_bad.0);
      appends = unless_case (takes_data (last_meta (actions_in log)) offer.actions) conflict.AppendOnly after_appends.0;
      there = none_passes (removes_absent state) 0 offer.actions (none_mapped (λ n. conflict.RemoveAbsent n) (position_from (removes_absent state) 0 offer.actions) after_appends.1);
      free = record {
        protocol = none_later (λ v. conflict.ProtocolChanged v) is_protocol log offer.read w0.0;
        meta = none_later (λ v. conflict.MetadataChanged v) is_meta_data log offer.read w1.0;
        removed = none_later (λ v. conflict.ConcurrentDeleteDelete v) (removes_same offer.actions) log offer.read w3.0;
        added = none_later (λ v. conflict.ConcurrentAddAdd v) (adds_same offer.actions) log offer.read w4.0;
        changed = none_later (λ v. conflict.ConcurrentDeleteRead v) (changes_read offer.reads state) log offer.read w5.0;
        appended = none_later (λ v. conflict.ConcurrentAppend v) (adds_read offer.reads state) log offer.read w5.1;
      };
    }

-- ---- each action

fit_case : (u b : Bool) (i : ℕ) (o : Option ℕ) (rest : Bool) → cond (u || b) (Some i) o ≡ None → (o ≡ None → rest ≡ false) → (u || rest) ≡ false
fit_case true b i o rest e h = absurd (true≢false (ap is_some e))
fit_case false true i o rest e h = absurd (true≢false (ap is_some e))
fit_case false false i o rest e h = h e

all_fit : (location : List ℕ) (front actions : List Action) → first_bad location front actions ≡ None → list_any (is_unfit location) actions ≡ false
all_fit location front [] e = refl
all_fit location front (a ∷ actions) e =
    fit_case (is_unfit location a) (is_some (broken_rule 1 front a)) (length front) (first_bad location (front ++ a ∷ []) actions) (list_any (is_unfit location) actions) e (all_fit location (front ++ a ∷ []) actions)

not_case : (b rest : Bool) → (not b || rest) ≡ false → (b ≡ true) × (rest ≡ false)
not_case true rest e = (refl, e)
not_case false rest e = absurd (true≢false e)

here_or : (a b c : Bool) → (a || b) ≡ true → (a ≡ true → c ≡ true) → (b ≡ true → c ≡ true) → c ≡ true
here_or true b c e first then = first refl
here_or false b c e first then = then e

-- what is removed is live at the version that was read
removed_live : (state : Option State) (actions : List Action) (q : List ℕ) → list_any (removes_absent state) actions ≡ false → list_any (bytes_eq q) (paths_removed actions) ≡ true → is_live_at state q ≡ true
removed_live state [] q none among = absurd (true≢false (sym among))
removed_live state (action.Protocol x ∷ actions) q none among = removed_live state actions q none among
removed_live state (action.MetaData x ∷ actions) q none among = removed_live state actions q none among
removed_live state (action.Add x ∷ actions) q none among = removed_live state actions q none among
removed_live state (action.Cdc x ∷ actions) q none among = removed_live state actions q none among
removed_live state (action.Txn x ∷ actions) q none among = removed_live state actions q none among
removed_live state (action.CommitInfo x ∷ actions) q none among = removed_live state actions q none among
removed_live state (action.Remove f ∷ actions) q none among =
    let here = not_case (is_live_at state f.path) (list_any (removes_absent state) actions) none in
    here_or (bytes_eq q f.path) (list_any (bytes_eq q) (paths_removed actions)) (is_live_at state q) among
    (λ e. let same : q ≡ f.path = (bytes_eq-Decides q f.path).0 e in subst (λ x. is_live_at state x ≡ true) (sym same) here.0)
    (λ rest. removed_live state actions q here.1 rest)

live_at_head : (log : List (List Action)) (version : ℕ) (state : Option State) (q : List ℕ) → state_at log version ≡ state → list_any (names q) (later log (Some version)) ≡ false → is_live_at state q ≡ true
    → is_live (live_files (actions_in log)) q ≡ true
live_at_head log version None q is none live = absurd (true≢false (sym live))
live_at_head log version (Some s) q is none live =
    let xs = actions_in (take (version + 1) log) in
    let of = made_of_log (take (version + 1) log) s (state_there log version s is) in
    live_is (actions_in log) q
    ∙ ap (λ ys. is_some (latest q None ys)) (actions_split log version)
    ∙ ap is_some (latest_stays q xs (later log (Some version)) none)
    ∙ sym (live_is xs q) ∙ ap (λ fs. is_live fs q) (sym of.files) ∙ live

-- what is removed is live at the head
removed_at_head : (log : List (List Action)) (read : Option ℕ) (actions : List Action) (q : List ℕ) → list_any (removes_absent (read_state log read)) actions ≡ false
    → list_any (λ a. is_one_of (paths_removed actions) (added_path a)) (later log read) ≡ false → list_any (removes_same actions) (later log read) ≡ false
    → list_any (bytes_eq q) (paths_removed actions) ≡ true → is_live (live_files (actions_in log)) q ≡ true
removed_at_head log None actions q there added removed among = absurd (true≢false (sym (removed_live None actions q there among)))
removed_at_head log (Some version) actions q there added removed among =
    live_at_head log version (state_at log version) q refl (unnamed (paths_removed actions) q (later log (Some version)) among added removed) (removed_live (state_at log version) actions q there among)

data_case : (only d rest : Bool) → (only && (d || rest)) ≡ false → ((only && d) ≡ false) × ((only && rest) ≡ false)
data_case false d rest e = (refl, refl)
data_case true true rest e = absurd (true≢false e)
data_case true false rest e = (refl, e)

lawful_add : (v : Bool) (rest : Bool) → v ≡ false → rest ≡ true → (not v && rest) ≡ true
lawful_add v rest ev er = rw (ev, er) refl

lawful_remove : (v l d rest : Bool) → v ≡ false → l ≡ true → d ≡ false → rest ≡ true → ((not v && (l && not d)) && rest) ≡ true
lawful_remove v l d rest ev el ed er = rw (ev, el, ed, er) refl

or_true : (b : Bool) → (b || true) ≡ true
or_true true = refl
or_true false = refl

-- each action is lawful
all_lawful : (files : List AddFile) (only : Bool) (actions : List Action) → list_any has_vector actions ≡ false → (only && list_any removes_data actions) ≡ false
    → ((q : List ℕ) → list_any (bytes_eq q) (paths_removed actions) ≡ true → is_live files q ≡ true) → list_all (is_lawful_action files only) actions ≡ true
all_lawful files only [] vectors data_kept live = refl
all_lawful files only (action.Protocol x ∷ actions) vectors data_kept live = all_lawful files only actions vectors data_kept live
all_lawful files only (action.MetaData x ∷ actions) vectors data_kept live = all_lawful files only actions vectors data_kept live
all_lawful files only (action.Cdc x ∷ actions) vectors data_kept live = all_lawful files only actions vectors data_kept live
all_lawful files only (action.Txn x ∷ actions) vectors data_kept live = all_lawful files only actions vectors data_kept live
all_lawful files only (action.CommitInfo x ∷ actions) vectors data_kept live = all_lawful files only actions vectors data_kept live
all_lawful files only (action.Add f ∷ actions) vectors data_kept live =
    let v = or_parts f.vector (list_any has_vector actions) vectors in
    lawful_add f.vector (list_all (is_lawful_action files only) actions) v.0 (all_lawful files only actions v.1 data_kept live)
all_lawful files only (action.Remove f ∷ actions) vectors data_kept live =
    let v = or_parts f.vector (list_any has_vector actions) vectors in
    let d = data_case only f.data_change (list_any removes_data actions) data_kept in
    lawful_remove f.vector (is_live files f.path) (only && f.data_change) (list_all (is_lawful_action files only) actions) v.0
    (live f.path (ap (λ b. b || list_any (bytes_eq f.path) (paths_removed actions)) (nat_list_eq_equiv.refl f.path))) d.0
    (all_lawful files only actions v.1 d.1 (λ q among. live q (ap (λ b. bytes_eq q f.path || b) among ∙ or_true (bytes_eq q f.path))))

lawful_case : (i l : Bool) → i ≡ false → l ≡ true → (not i && l) ≡ true
lawful_case i l ei el = rw (ei, el) refl

lawful_passes : (log : List (List Action)) (now : ℕ) (offer : Offer) → Passes log offer → is_lawful log (commit_with now offer.actions) ≡ true
lawful_passes log now offer p =
    let fit = all_fit offer.location [] offer.actions p.bad in
    let infos = any_or is_info (λ a. has_vector a || has_no_name offer.location (path_of a)) offer.actions fit in
    let vectors = any_or has_vector (λ a. has_no_name offer.location (path_of a)) offer.actions infos.1 in
    let adds = any_or (λ a. is_one_of (paths_added offer.actions) (added_path a)) (λ a. is_one_of (paths_removed offer.actions) (added_path a) || is_one_of (paths_added offer.actions) (removed_path a)) (later log offer.read) p.free.added in
    let retakes = any_or (λ a. is_one_of (paths_removed offer.actions) (added_path a)) (λ a. is_one_of (paths_added offer.actions) (removed_path a)) (later log offer.read) adds.1 in
    lawful_case (list_any is_info offer.actions) (list_all (is_lawful_action (live_files (actions_in log)) (is_append_only (last_meta (actions_in log)))) offer.actions) infos.0
    (all_lawful (live_files (actions_in log)) (is_append_only (last_meta (actions_in log))) offer.actions vectors.0 p.appends
    (λ q among. removed_at_head log offer.read offer.actions q p.there retakes.0 p.free.removed among))

-- ---- the laws

pub admitted_lawful : AdmittedIsLawful
admitted_lawful log now offer commit is =
    let e = no_conflict (conflict_of log now offer) (commit_with now offer.actions) commit is in
    ap (is_lawful log) e.1 ∙ lawful_passes log now offer (passes_own log now offer e.0)

pub read_holds : ReadStillHolds
read_holds log now offer commit state head is at last =
    let e = no_conflict (conflict_of log now offer) (commit_with now offer.actions) commit is in
    still log offer.read offer.reads offer.actions state head (passes_own log now offer e.0).free at last
