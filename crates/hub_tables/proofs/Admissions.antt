-- The states of a supported log, and the commit of an admitted offer.
use Rattle.std.proofs.Common.{◌≡◌, ℕ, ◌+◌, ◌<◌, ◌≤◌, ◌^◌, List, [], ◌∷◌, ◌++◌, length, take, Bool, true, false, cond, nat_lt, Option, Some, None, Ok, is_some, option_map, sym, refl, ap, ◌∙◌, subst, arith, true≢false}
use Rattle.std.specs.Prelude.{◌||◌, ◌&&◌, not, IfSome, drop}
use Rattle.std.specs.List.{list_all, list_any}
use Rattle.std.specs.Option.{option_or}
use Rattle.std.specs.Result.{result_ok}
use Rattle.std.proofs.lemmas.Bool.{and_parts, not-true, or_parts}
use Rattle.std.proofs.lemmas.List.{length-drop, length-take, take_all}
use Rattle.share_book.specs.Bases.{CanReplay, Makes, MakesHead}
use Rattle.share_book.specs.Legal.{IsKeptLog, There}
use Rattle.share_book.specs.TableView.{TableLog}
use Rattle.share_book.specs.Tables.{IsState}
use Rattle.share_book.specs.declared.replay.Replay.{Replay}
use Rattle.share_book.specs.declared.table.LogState.{LogState}
use Rattle.share_book.proofs.States.{supported_up_to}
use Rattle.log_actions.specs.declared.actions.Action.{Action}
use Rattle.log_actions.specs.declared.actions.Action.TheVariants as action
use Rattle.log_actions.specs.declared.actions.AddFile.{AddFile}
use Rattle.log_actions.specs.CommitTexts.{commit_text}
use Rattle.log_actions.specs.Printing.{has_vector}
use Rattle.log_replay.specs.Reconciliation.{actions_in, last_meta, last_protocol, live_files}
use Rattle.log_replay.specs.Standing.{IsSupported}
use Rattle.log_replay.specs.State.{IsHead, State, state_of}
use Rattle.log_replay.specs.Support.{refusal_of}
use Rattle.commit_check.specs.Admission.{absent, admitted, appends_only, bad_offer, bad_place, begins_badly, conflict_of, first_bad, is_bad_whole, is_long, read_ahead, unless_conflict, unwritten, whole_place, winners_conflict}
use Rattle.commit_check.specs.Lawful.{begins_with_info, is_append_only, is_lawful, is_lawful_action}
use Rattle.commit_check.specs.Offers.{commit_with, read_state}
use Rattle.commit_check.specs.Winners.{next_version, winners}
use Rattle.commit_check.specs.declared.conflict.Conflict.{Conflict}
use Rattle.commit_check.specs.declared.conflict.Conflict.TheVariants as conflict
use Rattle.commit_check.specs.declared.offer.Offer.{Offer}
use Rattle.commit_check.proofs.Chosen.{state_there}
use Rattle.commit_check.proofs.Lawfulness.{admitted_lawful}
use Rattle.hub_tables.specs.CommitRounds.{IsFit}
use Rattle.hub_tables.specs.OfferLogs.{IsOfferLog, MakesRead}
use Rattle.hub_tables.specs.declared.offer_log.OfferLog.{OfferLog}

-- ---- states

-- the head of the log up to a version is the state of the version
head_is_state : (log : List (List Action)) (v : ℕ) (o : Option State) → v < length log → IsHead (take (v + 1) log) o → o ≡ read_state log (Some v)
head_is_state log v None lt is =
    let n : length (take (v + 1) log) ≡ 0 = ap (λ (l : List (List Action)). length l) is in
    let m = length-take (v + 1) log in
    absurd (omega (arith, lt))
head_is_state log v (Some s) lt is = sym (ap (λ (b : Bool). cond b (result_ok (state_of (take (v + 1) log))) None) (there v (length log) lt) ∙ ap result_ok is)
  where
    there : (a b : ℕ) → a < b → nat_lt a b ≡ true
    there a b l = search (arith, l)

-- what makes the state that was read makes that of a version that the log has
pub makes_read : (read : Option ℕ) (commits : List (List Action)) (o : Option Replay) (r : Replay) → MakesRead read commits o → o ≡ Some r → (v : ℕ) × (read ≡ Some v) × (v < length commits) × Makes (take (v + 1) commits) r
makes_read None commits o r m e = absurd (cc (sym m ∙ e))
makes_read (Some v) commits None r m e = absurd (cc e)
makes_read (Some v) commits (Some x) r m e = let same : x ≡ r = cc e in (v, refl, m.0, subst (Makes (take (v + 1) commits)) same m.1)

-- the log up to that version can be replayed
pub front_made : (commits : List (List Action)) (v : ℕ) (r : Replay) → IsSupported commits → v < length commits → Makes (take (v + 1) commits) r
    → (front : List (List Action)) × IsSupported front × (0 < length front) × Makes front r
front_made commits v r good lt m = let long = length-take (v + 1) commits in (take (v + 1) commits, supported_up_to commits (v + 1) good, omega (arith, long, lt), m)

-- its state is the one that was read
pub read_found : (read : Option ℕ) (commits : List (List Action)) (v : ℕ) (s : State) → read ≡ Some v → v < length commits → state_of (take (v + 1) commits) ≡ Ok s → Some s ≡ read_state commits read
read_found read commits v s is lt made = head_is_state commits v (Some s) lt made ∙ ap (read_state commits) (sym is)

no_state : (a b : ℕ) (o : Option State) → b ≤ a → None ≡ cond (nat_lt a b) o None
no_state a b o le = sym (ap (λ (c : Bool). cond c o None) (past a b le))
  where
    past : (a b : ℕ) → b ≤ a → nat_lt a b ≡ false
    past a b l = search (arith, l)

-- where nothing makes it, none was read, or the version isn't kept
pub none_read : (read : Option ℕ) (commits : List (List Action)) (o : Option Replay) → MakesRead read commits o → o ≡ None → None ≡ read_state commits read
none_read None commits o m e = refl
none_read (Some v) commits None m e = no_state v (length commits) (result_ok (state_of (take (v + 1) commits))) m
none_read (Some v) commits (Some r) m e = absurd (cc e)

-- where nothing came after it, the state that was read is the last
pub last_read : (read : Option ℕ) (commits : List (List Action)) (s : State) → Some s ≡ read_state commits read → length (winners commits read) ≡ 0 → state_of commits ≡ Ok s
last_read None commits s is none = absurd (cc is)
last_read (Some v) commits s is none =
    let n = length-drop (v + 1) commits in
    ap state_of (sym (take_all (v + 1) commits (omega (arith, n, none)))) ∙ state_there commits v s (sym is)

-- what makes the last state, where something does
pub makes_head : (commits : List (List Action)) (o : Option Replay) (r : Replay) → MakesHead commits o → o ≡ Some r → (0 < length commits) × Makes commits r
makes_head commits None r m e = absurd (cc e)
makes_head commits (Some x) r m e = let same : x ≡ r = cc e in (m.0, subst (Makes commits) same m.1)

pub none_made : (commits : List (List Action)) (o : Option Replay) → MakesHead commits o → o ≡ None → commits ≡ []
none_made commits None m e = m
none_made commits (Some r) m e = absurd (cc e)

-- what one turn finds of a log
pub found_there : (o : Option TableLog) (read : Option ℕ) (l : OfferLog) (s : LogState) → There o (λ t. l.winners ≡ drop (next_version read) t.commits) → There o (λ t. MakesRead read t.commits l.read) → There o (λ t. MakesHead t.commits l.head)
    → There o (λ t. IsState t s × IsKeptLog t.commits) → l.versions ≡ s.kept → IfSome l.read CanReplay → IfSome l.head CanReplay → There o (λ t. IsOfferLog read t.commits l)
found_there None read l s w r h k n f g = w
found_there (Some t) read l s w r h k n f g = record { supported = k.1.0; counted = sym (n ∙ k.0.kept); winners = w; read = r; head = h; read_fits = f; head_fits = g }

-- ---- offers

neither : (a b : Option Conflict) → option_or a b ≡ None → (a ≡ None) × (b ≡ None)
neither None b e = (refl, e)
neither (Some c) b e = absurd (cc e)

no_conflict : (o : Option Conflict) (all commit : List Action) → unless_conflict o all ≡ Ok commit → (o ≡ None) × (commit ≡ all)
no_conflict None all commit is = (refl, sym (cc is))
no_conflict (Some c) all commit is = absurd (cc is)

none_mapped : (told : ℕ → Conflict) (o : Option ℕ) → option_map told o ≡ None → o ≡ None
none_mapped told None is = refl
none_mapped told (Some n) is = absurd (cc is)

later_none : (a b : Option ℕ) → option_or a b ≡ None → b ≡ None
later_none None b e = e
later_none (Some n) b e = absurd (cc e)

place_case : (b : Bool) (n : ℕ) → cond b (Some n) None ≡ None → b ≡ false
place_case true n e = absurd (cc e)
place_case false n e = refl

not_some : {X : Type 0} (o : Option X) → is_some o ≡ false → o ≡ None
not_some None e = refl
not_some (Some x) e = absurd (true≢false e)

not_long : (n : ℕ) → nat_lt (2 ^ 24) n ≡ false → n ≤ 2 ^ 24
not_long n e = search (arith, e)

whole_fits : (log : List (List Action)) (now : ℕ) (o : Offer) → conflict_of log now o ≡ None → is_bad_whole log now o ≡ false
whole_fits log now o e =
    let state = read_state log o.read in
    let late = option_or (appends_only (last_meta (actions_in log)) o.actions) (absent state o.actions) in
    let bad = option_or (bad_offer log now o) late in
    let early = option_or (unwritten (last_protocol (actions_in log)) o.actions) bad in
    let own = neither (option_or (read_ahead (length log) o.read) early) (winners_conflict log state o) e in
    let after_ahead = neither (read_ahead (length log) o.read) early own.0 in
    let after_unwritten = neither (unwritten (last_protocol (actions_in log)) o.actions) bad after_ahead.1 in
    let after_bad = neither (bad_offer log now o) late after_unwritten.1 in
    place_case (is_bad_whole log now o) (length o.actions) (later_none (first_bad o.location [] o.actions) (whole_place log now o) (none_mapped (λ n. conflict.BadOffer n) (bad_place log now o) after_bad.0))

-- a log takes the commit of an admitted offer
pub admitted_fits : (log : List (List Action)) (now : ℕ) (o : Offer) (c : List Action) → admitted log now o ≡ Ok c → IsFit log c
admitted_fits log now o c is =
    let all : List Action = commit_with now o.actions in
    let own = no_conflict (conflict_of log now o) all c is in
    let parts = or_parts (is_some (refusal_of (log ++ all ∷ []))) (begins_badly o.read o.actions || is_long all) (whole_fits log now o own.0) in
    let rest = or_parts (begins_badly o.read o.actions) (is_long all) parts.1 in
    record {
      lawful = admitted_lawful log now o c is;
      supported = subst (λ (x : List Action). refusal_of (log ++ x ∷ []) ≡ None) (sym own.1) (not_some (refusal_of (log ++ all ∷ [])) parts.0);
      short = subst (λ (x : List Action). length (commit_text x) ≤ 2 ^ 24) (sym own.1) (not_long (length (commit_text all)) rest.1);
    }

or_from : (x y : Bool) → x ≡ false → y ≡ false → (x || y) ≡ false
or_from x y ex ey = rw (ex, ey) refl

none_drawn : (files : List AddFile) (only : Bool) (c : List Action) → list_all (is_lawful_action files only) c ≡ true → list_any has_vector c ≡ false
none_drawn files only [] all = refl
none_drawn files only (action.Add f ∷ c) all =
    let parts = and_parts (not f.vector) (list_all (is_lawful_action files only) c) all in
    or_from f.vector (list_any has_vector c) (not-true f.vector parts.0) (none_drawn files only c parts.1)
none_drawn files only (action.Remove f ∷ c) all =
    let parts = and_parts (is_lawful_action files only (action.Remove f)) (list_all (is_lawful_action files only) c) all in
    let own = and_parts (not f.vector) _ parts.0 in
    or_from f.vector (list_any has_vector c) (not-true f.vector own.0) (none_drawn files only c parts.1)
none_drawn files only (action.Protocol x ∷ c) all = none_drawn files only c all
none_drawn files only (action.MetaData x ∷ c) all = none_drawn files only c all
none_drawn files only (action.Cdc x ∷ c) all = none_drawn files only c all
none_drawn files only (action.Txn x ∷ c) all = none_drawn files only c all
none_drawn files only (action.CommitInfo x ∷ c) all = none_drawn files only c all

-- a commit that a server adds has no deletion vector
pub plain_own : (log : List (List Action)) (c : List Action) → is_lawful log c ≡ true → list_any has_vector c ≡ false
plain_own log c is = none_drawn (live_files (actions_in log)) (is_append_only (last_meta (actions_in log))) c (and_parts (begins_with_info c) _ is).1
