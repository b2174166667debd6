-- The states of a supported log.
use Rattle.std.proofs.Common.{◌≡◌, ℕ, zero, suc, ◌+◌, ◌-◌, ◌<◌, ◌≤◌, ◌^◌, List, [], ◌∷◌, ◌++◌, length, map, take, drop, get_or, true, Option, Some, None, Result, Ok, Err, is_some, sym, refl, ap, ◌∙◌, subst, arith, true≢false, append_assoc, length-append}
use Rattle.std.specs.Arc.{arc_value}
use Rattle.std.specs.declared.sync.Arc.{Arc}
use Rattle.std.specs.declared.alloc.Global.{Global}
use Rattle.std.specs.Prelude.{MatchOption}
use Rattle.std.specs.List.{drop-map, slice_get}
use Rattle.std.proofs.lemmas.List.{append-nil, length-drop, length-map, length-take, take-append-drop, take-append-le, take-map, take-take, take_all}
use Rattle.log_actions.specs.declared.actions.Action.{Action}
use Rattle.log_actions.specs.declared.actions.AddFile.{AddFile}
use Rattle.log_actions.specs.declared.actions.MetaData.{MetaData}
use Rattle.log_actions.specs.declared.actions.Protocol.{Protocol}
use Rattle.log_actions.specs.declared.actions.Txn.{Txn}
use Rattle.log_replay.specs.Reconciliation.{actions_in, last_meta, last_protocol, last_txns, live_files}
use Rattle.log_replay.specs.Snapshots.{Answers, checkpoint_of, next_state}
use Rattle.log_replay.specs.Standing.{IsSupported, refusal_at}
use Rattle.log_replay.specs.State.{State, state_from, state_of}
use Rattle.log_replay.specs.Support.{cause_under, own_actions, refusal_of}
use Rattle.log_replay.specs.declared.refusal.NoState.{NoState}
use Rattle.log_replay.specs.declared.refusal.NoState.TheVariants as no_state
use Rattle.log_replay.specs.declared.refusal.ReplayRefusal.{ReplayRefusal}
use Rattle.log_replay.proofs.CheckpointLemmas.{not_empty}
use Rattle.log_replay.proofs.NextLemmas.{actions_push, supported_read}
use Rattle.log_replay.proofs.Reached.{Arcs, log_more}
use Rattle.log_replay.proofs.RefusalLemmas.{IsRead, not_refused}
use Rattle.share_book.specs.Bases.{CanReplay, IsBase, IsStateIn, after_base, first_left}
use Rattle.share_book.specs.declared.replay.Replay.{Replay}
use Rattle.share_book.proofs.Bookkeeping.{slice_get_left}

-- ---- the beginnings of a supported log

read_front : (xs ys : List (List Action)) (v : ℕ) → v < length xs → IsRead (xs ++ ys) v → IsRead xs v
read_front xs ys v lt r =
    let t : take (v + 1) (xs ++ ys) ≡ take (v + 1) xs = take-append-le (v + 1) xs ys (omega arith) in
    let s : slice_get (xs ++ ys) v ≡ slice_get xs v = slice_get_left xs ys v lt in
    record {
      protocol = sym (ap (λ (l : List (List Action)). is_some (last_protocol (actions_in l))) t) ∙ r.protocol;
      meta = sym (ap (λ (l : List (List Action)). is_some (last_meta (actions_in l))) t) ∙ r.meta;
      cause = sym (λ i. cause_under (last_protocol (actions_in (t i))) (last_meta (actions_in (t i))) (own_actions (s i))) ∙ r.cause;
    }

pub supported_front : (xs ys : List (List Action)) → IsSupported (xs ++ ys) → IsSupported xs
supported_front [] ys s = tt
supported_front (x ∷ xs) ys s = not_refused (x ∷ xs) (omega arith) (λ v lt. read_front (x ∷ xs) ys v lt (supported_read (x ∷ xs ++ ys) s v (let n = length-append (x ∷ xs) ys in omega arith)))

pub supported_up_to : (log : List (List Action)) (n : ℕ) → IsSupported log → IsSupported (take n log)
supported_up_to log n s = supported_front (take n log) (drop n log) (subst IsSupported (sym (take-append-drop n log)) s)

pub supported_take : (commits : Arcs) (n : ℕ) → IsSupported (map arc_value commits) → IsSupported (map arc_value (take n commits))
supported_take commits n s = subst IsSupported (take-map arc_value n commits) (supported_up_to (map arc_value commits) n s)

-- ---- its states

made : (r : Option ReplayRefusal) (v : ℕ) (files : List AddFile) (p : Option Protocol) (m : Option MetaData) (txns : List Txn) → r ≡ None → is_some p ≡ true → is_some m ≡ true → (s : State) × (state_from r v files p m txns ≡ Ok s)
made (Some r) v files p m txns e f g = absurd (cc e)
made None v files None m txns e f g = absurd (true≢false (sym f))
made None v files (Some p) None txns e f g = absurd (true≢false (sym g))
made None v files (Some p) (Some m) txns e f g = (record { version = v; files = files; protocol = p; meta = m; txns = txns }, refl)

unrefused : (log : List (List Action)) → IsSupported log → 0 < length log → refusal_of log ≡ None
unrefused [] s lt = absurd (omega (arith, lt))
unrefused (c ∷ cs) s lt = s

-- a supported log has a state
supported_state : (log : List (List Action)) → IsSupported log → 0 < length log → (s : State) × (state_of log ≡ Ok s)
supported_state log s lt =
    let last : length log - 1 < length log = omega (arith, lt) in
    let r = supported_read log s (length log - 1) last in
    let whole : take (length log - 1 + 1) log ≡ log = take_all (length log - 1 + 1) log (omega (arith, lt)) in
    made (refusal_of log) (length log - 1) (live_files (actions_in log)) (last_protocol (actions_in log)) (last_meta (actions_in log)) (last_txns (actions_in log)) (unrefused log s lt)
    (subst (λ (l : List (List Action)). is_some (last_protocol (actions_in l)) ≡ true) whole r.protocol)
    (subst (λ (l : List (List Action)). is_some (last_meta (actions_in l)) ≡ true) whole r.meta)

never_refused : (log : List (List Action)) (r : ReplayRefusal) → IsSupported log → 0 < length log → state_of log ≡ Err r → ⊥
never_refused log r s lt e =
    let st = supported_state log s lt in
    let clash : Err r ≡ Ok st.0 = sym e ∙ st.1 in
    cc clash

-- a replay doesn't refuse a supported log
pub replays : (log : List (List Action)) (res : Result State NoState) (e : NoState) (r : ReplayRefusal) → res ≡ Err e → e ≡ no_state.Refusal r → Answers res (state_of log) → IsSupported log → 0 < length log → ⊥
replays log res e r is kind w s lt = never_refused log r s lt (subst (λ (x : Result State NoState). Answers x (state_of log)) (is ∙ ap (λ (y : NoState). Err y) kind) w)

-- ---- their versions

version_from : (r : Option ReplayRefusal) (v : ℕ) (files : List AddFile) (p : Option Protocol) (m : Option MetaData) (txns : List Txn) (s : State) → state_from r v files p m txns ≡ Ok s → s.version ≡ v
version_from (Some r) v files p m txns s e = absurd (cc e)
version_from None v files None m txns s e = absurd (cc e)
version_from None v files (Some p) None txns s e = absurd (cc e)
version_from None v files (Some p) (Some m) txns s e =
    let same : record { version = v; files = files; protocol = p; meta = m; txns = txns } ≡ s = cc e in
    sym (ap (λ (x : State). x.version) same)

pub version_is : (log : List (List Action)) (s : State) → state_of log ≡ Ok s → s.version ≡ length log - 1
version_is log s e = version_from (refusal_of log) (length log - 1) (live_files (actions_in log)) (last_protocol (actions_in log)) (last_meta (actions_in log)) (last_txns (actions_in log)) s e

next_version : (b : State) (own : List Action) (s : State) → next_state b own ≡ Ok s → s.version ≡ b.version + 1
next_version b own s e =
    let actions = checkpoint_of b ++ own in
    version_from (refusal_at (b.version + 1) (last_protocol actions) (last_meta actions) own) (b.version + 1) (live_files actions) (last_protocol actions) (last_meta actions) (last_txns actions) s e

-- ---- advancing over commits

-- the state after so many commits more
pub record Advanced (first : State) (commits : Arcs) (i : ℕ) (state : State) (start steps : ℕ) : Type 0 where
  pub version : state.version ≡ first.version + i
  pub reached : (log : List (List Action)) → state_of log ≡ Ok first → IsSupported (log ++ map arc_value commits) → state_of (log ++ take i (map arc_value commits)) ≡ Ok state
  pub counted : steps ≡ start + length (actions_in (take i (map arc_value commits)))

pub advanced_none : (first : State) (commits : Arcs) (start : ℕ) → Advanced first commits 0 first start start
advanced_none first commits start = record { version = omega arith; reached = λ log is s. ap state_of (append-nil log) ∙ is; counted = omega arith }

one_longer : (commits : Arcs) (log : List (List Action)) (i : ℕ) (c : Arc (List Action) Global) (own : List Action) → i < length commits → c ≡ get_or commits i c → own ≡ c.value
    → (log ++ take i (map arc_value commits)) ++ own ∷ [] ≡ log ++ take (i + 1) (map arc_value commits)
one_longer commits log i c own lt is same =
    let more : take (i + 1) (map arc_value commits) ≡ take i (map arc_value commits) ++ own ∷ [] = log_more commits i c lt is ∙ (λ k. take i (map arc_value commits) ++ sym same k ∷ []) in
    append_assoc log (take i (map arc_value commits)) (own ∷ []) ∙ sym (ap (λ l. log ++ l) more)

counts_more : (commits : Arcs) (i : ℕ) (c : Arc (List Action) Global) (own : List Action) → i < length commits → c ≡ get_or commits i c → own ≡ c.value
    → length (actions_in (take (i + 1) (map arc_value commits))) ≡ length (actions_in (take i (map arc_value commits))) + length own
counts_more commits i c own lt is same =
    let more : take (i + 1) (map arc_value commits) ≡ take i (map arc_value commits) ++ own ∷ [] = log_more commits i c lt is ∙ (λ k. take i (map arc_value commits) ++ sym same k ∷ []) in
    ap (λ (l : List (List Action)). length (actions_in l)) more ∙ ap (λ (l : List Action). length l) (actions_push (take i (map arc_value commits)) own) ∙ length-append (actions_in (take i (map arc_value commits))) own

pub advanced_more : (first : State) (commits : Arcs) (i : ℕ) (c : Arc (List Action) Global) (state next : State) (start steps after : ℕ) (own : List Action) → i < length commits → c ≡ get_or commits i c → own ≡ c.value
    → Advanced first commits i state start steps → ((log : List (List Action)) → state_of log ≡ Ok state → state_of (log ++ own ∷ []) ≡ Ok next) → next_state state own ≡ Ok next → after ≡ steps + length own
    → Advanced first commits (i + 1) next start after
advanced_more first commits i c state next start steps after own lt is same a reached stepped counted =
    let v : state.version ≡ first.version + i = a.version in
    let w : next.version ≡ state.version + 1 = next_version state own next stepped in
    let n : steps ≡ start + length (actions_in (take i (map arc_value commits))) = a.counted in
    let m = counts_more commits i c own lt is same in
    record {
      version = omega (arith, v, w);
      reached = λ log at s. sym (ap state_of (one_longer commits log i c own lt is same)) ∙ reached (log ++ take i (map arc_value commits)) (a.reached log at s);
      counted = omega (arith, n, m, counted);
    }

pub advanced_all : (first : State) (commits : Arcs) (i : ℕ) (state : State) (start steps : ℕ) → length commits ≤ i → Advanced first commits i state start steps
    → ((log : List (List Action)) → state_of log ≡ Ok first → IsSupported (log ++ map arc_value commits) → state_of (log ++ map arc_value commits) ≡ Ok state) × (steps ≡ start + length (actions_in (map arc_value commits)))
advanced_all first commits i state start steps most a =
    let n = length-map commits arc_value in
    let whole : take i (map arc_value commits) ≡ map arc_value commits = take_all i (map arc_value commits) (omega arith) in (
      λ log at s. sym (ap (λ l. state_of (log ++ l)) whole) ∙ a.reached log at s,
      a.counted ∙ ap (λ (l : List (List Action)). start + length (actions_in l)) whole,
    )

-- a commit of a supported log isn't refused on the way
pub advance_stops : (first : State) (commits : Arcs) (i : ℕ) (c : Arc (List Action) Global) (state : State) (start steps : ℕ) (own : List Action) (r : Result State NoState) (e : NoState) → i < length commits → c ≡ get_or commits i c → own ≡ c.value
    → Advanced first commits i state start steps → ((log : List (List Action)) → state_of log ≡ Ok state → Answers r (state_of (log ++ own ∷ []))) → r ≡ Err e
    → (log : List (List Action)) → state_of log ≡ Ok first → IsSupported (log ++ map arc_value commits) → Answers (Err e) (state_of (log ++ map arc_value commits))
advance_stops first commits i c state start steps own r no_state.NoMemory lt is same a answers err log at s = tt
advance_stops first commits i c state start steps own r (no_state.Refusal why) lt is same a answers err log at s =
    let m : List (List Action) = map arc_value commits in
    let longer = one_longer commits log i c own lt is same in
    let told : Answers r (state_of (log ++ take (i + 1) m)) = subst (λ (l : List (List Action)). Answers r (state_of l)) longer (answers (log ++ take i m) (a.reached log at s)) in
    let parts : (log ++ take (i + 1) m) ++ drop (i + 1) m ≡ log ++ m = append_assoc log (take (i + 1) m) (drop (i + 1) m) ∙ ap (λ l. log ++ l) (take-append-drop (i + 1) m) in
    let front : IsSupported (log ++ take (i + 1) m) = supported_front (log ++ take (i + 1) m) (drop (i + 1) m) (subst IsSupported (sym parts) s) in
    let some = not_empty log first at in
    let long = length-append log (take (i + 1) m) in
    absurd (replays (log ++ take (i + 1) m) r (no_state.Refusal why) why err refl told front (omega arith))

-- ---- bases

-- a base up to a version is one of the log up to it
pub state_in_front : (commits : List (List Action)) (n : ℕ) (s : State) → s.version < n → IsStateIn commits s → IsStateIn (take n commits) s
state_in_front commits n s lt b =
    let long = length-take n commits in
    let there : s.version < length commits = b.there in
    record {
      there = omega arith;
      state = ap state_of (take-take (s.version + 1) n commits (omega arith)) ∙ b.state;
    }

-- and one of any longer log
pub state_in_longer : (commits more : List (List Action)) (s : State) → IsStateIn commits s → IsStateIn (commits ++ more) s
state_in_longer commits more s b =
    let long = length-append commits more in
    let there : s.version < length commits = b.there in
    record {
      there = omega arith;
      state = ap state_of (take-append-le (s.version + 1) commits more (omega arith)) ∙ b.state;
    }

-- the commits from one on
pub rest_of : (commits : Arcs) (first : ℕ) (cs : List (List Action)) → cs ≡ map arc_value (take (length commits - first) (drop first commits)) → cs ≡ drop first (map arc_value commits)
rest_of commits first cs is =
    let n = length-drop first commits in
    is ∙ ap (map arc_value) (take_all (length commits - first) (drop first commits) (omega arith)) ∙ sym (drop-map arc_value first commits)

pub first_within : (commits : List (List Action)) (base : Option State) → IsBase commits base → first_left base ≤ length commits
first_within commits None b = omega arith
first_within commits (Some s) b = let there : s.version < length commits = b.there in omega arith

-- what is left after a base can be replayed
pub can_replay : (commits : List (List Action)) (r : Replay) → 0 < length commits → length commits < 2 ^ 63 → IsBase commits r.base → r.commits ≡ after_base r.base commits → CanReplay r
can_replay commits r some few b left = by_base r.base b left
  where
    by_base : (base : Option State) → IsBase commits base → r.commits ≡ after_base base commits → MatchOption base (0 < length r.commits) (λ s. s.version + length r.commits < 2 ^ 63)
    by_base None b left = subst (λ (l : List (List Action)). 0 < length l) (sym left) some
    by_base (Some s) b left =
        let there : s.version < length commits = b.there in
        let n : length r.commits ≡ length (drop (s.version + 1) commits) = ap (λ (l : List (List Action)). length l) left in
        let m = length-drop (s.version + 1) commits in
        omega arith

-- the state that is made of a base and the commits after it is that of all
pub made_after : (commits : List (List Action)) (s : State) (rest : List (List Action)) (answer : Result State NoState) → IsStateIn commits s → rest ≡ drop (s.version + 1) commits → IsSupported commits
    → ((log : List (List Action)) → state_of log ≡ Ok s → IsSupported (log ++ rest) → Answers answer (state_of (log ++ rest))) → Answers answer (state_of commits)
made_after commits s rest answer b left good told =
    let whole : take (s.version + 1) commits ++ rest ≡ commits = ap (λ l. take (s.version + 1) commits ++ l) left ∙ take-append-drop (s.version + 1) commits in
    subst (λ (l : List (List Action)). Answers answer (state_of l)) whole (told (take (s.version + 1) commits) b.state (subst IsSupported (sym whole) good))

-- the state after all commits is one of the log
pub head_stands : (commits : List (List Action)) (s : State) → state_of commits ≡ Ok s → IsStateIn commits s
head_stands commits s is =
    let some = not_empty commits s is in
    let v = version_is commits s is in
    record {
      there = omega (arith, some, v);
      state = ap state_of (take_all (s.version + 1) commits (omega (arith, some, v))) ∙ is;
    }

take_length : (n : ℕ) (xs : List (List Action)) → take (length (take n xs)) xs ≡ take n xs
take_length zero xs = refl
take_length (suc n) [] = refl
take_length (suc n) (x ∷ xs) = ap (λ l. x ∷ l) (take_length n xs)

-- the state of a beginning of a log is one of it
pub front_stands : (commits : List (List Action)) (n : ℕ) (s : State) → state_of (take n commits) ≡ Ok s → IsStateIn commits s
front_stands commits n s is =
    let some = not_empty (take n commits) s is in
    let v = version_is (take n commits) s is in
    let long = length-take n commits in
    let at : s.version + 1 ≡ length (take n commits) = omega (arith, some, v) in
    record {
      there = omega arith;
      state = ap (λ (m : ℕ). state_of (take m commits)) at ∙ ap state_of (take_length n commits) ∙ is;
    }
