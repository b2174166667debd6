-- What the code finds in the winning commits is what they show.
use Rattle.std.proofs.Common.{◌≡◌, ℕ, ◌+◌, ◌-◌, List, Bool, true, false, cond, Option, Some, None, Result, Ok, Err, is_some, option_map, length, take, refl, sym, ap, subst, true≢false}
use Rattle.std.proofs.Math.Path.{fun_ext}
use Rattle.std.specs.Prelude.{◌||◌, nat_lt, unwrap_or}
use Rattle.std.specs.Option.{option_or}
use Rattle.std.specs.Result.{result_ok}
use Rattle.log_actions.specs.declared.actions.Action.{Action}
use Rattle.log_replay.specs.Reconciliation.{actions_in, last_meta, last_protocol, last_txns, live_files}
use Rattle.log_replay.specs.Support.{refusal_of}
use Rattle.log_replay.specs.Snapshots.{PathsRise}
use Rattle.log_replay.specs.State.{State, state_of}
use Rattle.log_replay.specs.declared.refusal.ReplayRefusal.{ReplayRefusal}
use Rattle.log_replay.proofs.PartLemmas.{IsMadeOf, made_of}
use Rattle.log_replay.proofs.PathLemmas.{live_files_rise}
use Rattle.commit_check.specs.Admission.{winners_conflict}
use Rattle.commit_check.specs.Known.{Knows}
use Rattle.commit_check.specs.Offers.{added_file, added_path, app_of, apps_of, paths_added, paths_removed, read_state, removed_path, state_at}
use Rattle.commit_check.specs.ReadFiles.{IsReading}
use Rattle.commit_check.specs.Shown.{first_from, first_shown, shown, told}
use Rattle.commit_check.specs.Winners.{adds_read, adds_same, changes_read, has_app_of, next_version, removes_same, winners}
use Rattle.commit_check.specs.declared.conflict.Conflict.{Conflict}
use Rattle.commit_check.specs.declared.conflict.Conflict.TheVariants as conflict
use Rattle.commit_check.specs.declared.offer.Offer.{Offer}
use Rattle.commit_check.specs.declared.offered.Offered.{Offered}
use Rattle.commit_check.specs.declared.reading.Reading.{Reading}
use Rattle.commit_check.specs.declared.winners.Sign.TheVariants as sign
use Rattle.commit_check.proofs.Paths.{reads_file, reads_path}
use Rattle.commit_check.proofs.Sets.{has_is}

ok_of : (r : Result State ReplayRefusal) (s : State) → result_ok r ≡ Some s → r ≡ Ok s
ok_of (Ok t) s is = ap (λ o. Ok (unwrap_or o t)) is
ok_of (Err e) s is = absurd (true≢false (sym (ap is_some is)))

state_case : (b : Bool) (r : Result State ReplayRefusal) (s : State) → cond b (result_ok r) None ≡ Some s → r ≡ Ok s
state_case true r s is = ok_of r s is
state_case false r s is = absurd (true≢false (sym (ap is_some is)))

-- what a log's state is made of
pub made_of_log : (log : List (List Action)) (s : State) → state_of log ≡ Ok s
    → IsMadeOf (refusal_of log) (length log - 1) (live_files (actions_in log)) (last_protocol (actions_in log)) (last_meta (actions_in log)) (last_txns (actions_in log)) s
made_of_log log s is = made_of (refusal_of log) (length log - 1) (live_files (actions_in log)) (last_protocol (actions_in log)) (last_meta (actions_in log)) (last_txns (actions_in log)) s is

-- the state of a version is that of the log up to it
pub state_there : (log : List (List Action)) (version : ℕ) (s : State) → state_at log version ≡ Some s → state_of (take (version + 1) log) ≡ Ok s
state_there log version s is = state_case (nat_lt version (length log)) (state_of (take (version + 1) log)) s is

-- the paths of the state that was read rise
pub read_rises : (log : List (List Action)) (read : Option ℕ) (s : State) → read_state log read ≡ Some s → PathsRise s.files
read_rises log None s is = absurd (true≢false (sym (ap is_some is)))
read_rises log (Some version) s is =
    let front = take (version + 1) log in
    subst PathsRise (sym (made_of_log front s (state_there log version s is)).files) (live_files_rise (actions_in front))

or_three : (a b c x y z : Bool) → a ≡ x → b ≡ y → c ≡ z → (a || (b || c)) ≡ (x || (y || z))
or_three a b c x y z p q r = rw (p, q, r) refl

or_two : (a b x y : Bool) → a ≡ x → b ≡ y → (a || b) ≡ (x || y)
or_two a b x y p q = rw (p, q) refl

-- what is told of a test that says the same
same_told : (say : ℕ → Conflict) (from : ℕ) (commits : List (List Action)) (p r : Action → Bool) → ((a : Action) → p a ≡ r a) → option_map say (first_from p from commits) ≡ option_map say (first_from r from commits)
same_told say from commits p r same = ap (λ t. option_map say (first_from t from commits)) (fun_ext same)

-- the first conflict of the code is that of the winning commits
pub shown_is : (log : List (List Action)) (offer : Offer) (o : Offered) (r : Reading) → Knows o offer.actions → IsReading offer.reads (read_state log offer.read) r
    → first_shown o r (next_version offer.read) (winners log offer.read) ≡ winners_conflict log (read_state log offer.read) offer
shown_is log offer o r k is =
    let state = read_state log offer.read in
    let rise = read_rises log offer.read in
    let from = next_version offer.read in
    let won = winners log offer.read in
    let transaction = same_told (λ v. conflict.ConcurrentTransaction v) from won (shown sign.Transaction o r) (has_app_of offer.actions) (λ a. has_is o.apps (apps_of offer.actions) (app_of a) k.apps) in
    let deleted = same_told (λ v. conflict.ConcurrentDeleteDelete v) from won (shown sign.DeleteDelete o r) (removes_same offer.actions) (λ a. has_is o.removed (paths_removed offer.actions) (removed_path a) k.removed) in
    let added = same_told (λ v. conflict.ConcurrentAddAdd v) from won (shown sign.AddAdd o r) (adds_same offer.actions) (λ a. or_three _ _ _ _ _ _
    (has_is o.added (paths_added offer.actions) (added_path a) k.added) (has_is o.removed (paths_removed offer.actions) (added_path a) k.removed) (has_is o.added (paths_added offer.actions) (removed_path a) k.added)) in
    let changed = same_told (λ v. conflict.ConcurrentDeleteRead v) from won (shown sign.DeleteRead o r) (changes_read offer.reads state) (λ a. or_two _ _ _ _
    (reads_path offer.reads state r (added_path a) is rise) (reads_path offer.reads state r (removed_path a) is rise)) in
    let appended = same_told (λ v. conflict.ConcurrentAppend v) from won (shown sign.Append o r) (adds_read offer.reads state) (λ a. reads_file offer.reads state r (added_file a) is) in
    λ i. option_or (told (λ v. conflict.ProtocolChanged v) sign.Protocol o r from won) (option_or (told (λ v. conflict.MetadataChanged v) sign.MetaData o r from won)
    (option_or (transaction i) (option_or (deleted i) (option_or (added i) (option_or (changed i) (appended i))))))
