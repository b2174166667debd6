-- What the steps of a mirror's commit answer together.
use Rattle.std.proofs.Common.{◌≡◌, ◌==◌, ◌+◌, ◌-◌, ◌∷◌, [], ◌++◌, ◌&&◌, ℕ, suc, List, Bool, true, false, cond, not, Option, Some, None, Result, Ok, Err, is_ok, length, map, fold, is_some, refl, sym, ap, ◌∙◌, subst, true≢false, arith, append_assoc, eqb-true}
use Rattle.std.specs.Prelude.{IfOk, filter, option_map, option_to_list}
use Rattle.std.specs.Borrow.{Bor}
use Rattle.std.specs.FinMap as map
use Rattle.std.proofs.lemmas.Bool.{ne_eqb}
use Rattle.std.proofs.lemmas.List.{append-nil}
use Rattle.std.proofs.lemmas.List.Elements.{filter_agree}
use Rattle.log_actions.specs.Commits.{is_commit}
use Rattle.log_actions.specs.CommitTexts.{commit_text}
use Rattle.log_actions.specs.declared.actions.Action.{Action}
use Rattle.log_actions.specs.declared.actions.Action.TheVariants as action
use Rattle.log_actions.specs.declared.actions.AddFile.{AddFile}
use Rattle.log_commit.specs.Rules.{commit_from, first_broken, unless_broken}
use Rattle.log_commit.specs.declared.faults.CommitFault.{CommitFault}
use Rattle.log_commit.proofs.CommitRules.{from_commit, from_gives}
use Rattle.log_replay.specs.Applied.{after}
use Rattle.log_replay.specs.Reconciliation.{actions_in, last_meta, last_protocol, last_txns, live, live_adds, live_files}
use Rattle.log_replay.specs.Snapshots.{PathsRise}
use Rattle.log_replay.specs.Standing.{IsSupported}
use Rattle.log_replay.specs.State.{IsHead, State}
use Rattle.log_replay.specs.Support.{refusal_of}
use Rattle.log_replay.specs.declared.refusal.ReplayRefusal.{ReplayRefusal}
use Rattle.log_replay.proofs.CheckpointLemmas.{last_in_order, not_empty}
use Rattle.log_replay.proofs.HeadLemmas.{head_stands}
use Rattle.log_replay.proofs.LiveLemmas.{get-live}
use Rattle.log_replay.proofs.NextLemmas.{supported_more}
use Rattle.log_replay.proofs.PartLemmas.{made_of}
use Rattle.log_replay.proofs.PathLemmas.{entries_keyed, live_files_rise}
use Rattle.mirror_table.specs.Goals.{Goal, goal_of}
use Rattle.mirror_table.specs.Laws.{HasMirror}
use Rattle.mirror_table.specs.Refusals.{Answers, Suits, after_suits, followed, is_too_large, paths_of, placed_after, placed_or_none, some_commit, unless_refused, unsuited_goal}
use Rattle.mirror_table.specs.Targets.{adds, commit_to, differences, file_at, files_of, has_mark, has_path, is_none_of, mark_of, meta_change, protocol_change, remove_at, removes, target}
use Rattle.mirror_table.specs.declared.ends.NoTarget.{NoTarget}
use Rattle.mirror_table.specs.declared.ends.NoTarget.TheVariants as none
use Rattle.mirror_table.specs.declared.ends.Unsuited.{Unsuited}
use Rattle.mirror_table.specs.declared.ends.Unsuited.TheVariants as unsuited
use Rattle.mirror_table.specs.declared.shared.Shared.{Shared}
use Rattle.mirror_table.proofs.FileLemmas.{file_is}
use Rattle.mirror_table.proofs.Reaching.{reaches}

-- ---- the commit in its parts

-- the live file of a path is the latest there
live_at : (actions : List Action) (q : List ℕ) → file_at q (live_files actions) ≡ fold (after q) None actions
live_at actions q =
    file_is q (live_files actions) (live_files_rise actions)
    ∙ last_in_order (λ f. f.path) q (map.entries (live actions)) (map.entries_sorted (live actions)) (entries_keyed (λ f. f.path) (live_adds actions))
    ∙ sym (map.get-entries (live actions) q) ∙ get-live actions q

pub map_adds : (fs : List (Bor AddFile)) → map (λ f. action.Add f.now) fs ≡ map (λ f. action.Add f) (map (λ f. f.now) fs)
map_adds [] = refl
map_adds (f ∷ fs) = ap (λ r. action.Add f.now ∷ r) (map_adds fs)

moved : (p m r a : List Action) → ((p ++ m) ++ r) ++ a ≡ p ++ (m ++ (r ++ a))
moved p m r a = append_assoc (p ++ m) r a ∙ append_assoc p m (r ++ a)

-- the parts of a commit, one after another
pub record Parts (state : Option State) (now : ℕ) (g : Goal) (acts : List Action) (at : List ℕ → Option AddFile) (files : List AddFile) (a b c d e : List Action) : Type 0 where
  pub by_path : (q : List ℕ) → at q ≡ fold (after q) None acts
  pub wanted : g.files ≡ live_files acts
  pub sorted : files ≡ live_files acts
  pub begun : a ≡ action.CommitInfo (record { timestamp = Some now }) ∷ (action.Txn (mark_of g) ∷ [])
  pub protocol : b ≡ a ++ protocol_change state g.protocol
  pub meta : c ≡ b ++ meta_change state g.meta
  pub removed : d ≡ c ++ map (remove_at now) (filter (λ f. not (is_some (at f.path))) (files_of state))
  pub added : e ≡ d ++ adds (files_of state) files

pub are_whole : (state : Option State) (now : ℕ) (g : Goal) (acts : List Action) (at : List ℕ → Option AddFile) (files : List AddFile) (a b c d e : List Action) → Parts state now g acts at files a b c d e
    → e ≡ commit_to state now g
are_whole state now g acts at files a b c d e parts =
    let had = files_of state in
    let two : List Action = action.CommitInfo (record { timestamp = Some now }) ∷ (action.Txn (mark_of g) ∷ []) in
    let p = protocol_change state g.protocol in
    let m = meta_change state g.meta in
    let same : (f : AddFile) → not (is_some (at f.path)) ≡ not (has_path g.files f.path)
    = λ f. ap (λ o. not (is_some o)) (parts.by_path f.path ∙ sym (live_at acts f.path) ∙ ap (file_at f.path) (sym parts.wanted)) in
    let r : map (remove_at now) (filter (λ f. not (is_some (at f.path))) had) ≡ removes now had g.files = ap (map (remove_at now)) (filter_agree (λ f. not (is_some (at f.path))) (λ f. not (has_path g.files f.path)) same had) in
    let k : adds had files ≡ adds had g.files = ap (adds had) (parts.sorted ∙ sym parts.wanted) in
    let first : c ≡ two ++ (p ++ m) = parts.meta ∙ ap (λ x. x ++ m) (parts.protocol ∙ ap (λ x. x ++ p) parts.begun) in
    parts.added ∙ (λ i. (parts.removed ∙ (λ j. first j ++ r j)) i ++ k i) ∙ ap (λ x. two ++ x) (moved p m (removes now had g.files) (adds had g.files))

-- ---- its place in the log

-- how many versions a log with a state has
pub versions_of : (log : List (List Action)) (s : State) (n : ℕ) → IsHead log (Some s) → n ≡ s.version + 1 → length log ≡ n
versions_of log s n is e =
    let of = made_of (refusal_of log) (length log - 1) (live_files (actions_in log)) (last_protocol (actions_in log)) (last_meta (actions_in log)) (last_txns (actions_in log)) s is in
    omega (arith, of.version, not_empty log s is, e)

value_or : {X E : Type 0} → X → Result X E → X
value_or d (Ok x) = x
value_or d (Err e) = d

same_ok : {X E : Type 0} (x y : X) (r : Result X E) → r ≡ Ok x → r ≡ Ok y → x ≡ y
unfolding value_or
same_ok x y r a b = ap (value_or x) (sym a ∙ b)

no_ok : {X E : Type 0} (e : E) (x : X) (r : Result X E) → r ≡ Err e → r ≡ Ok x → ⊥
no_ok e x r a b = true≢false (sym (ap is_ok b) ∙ ap is_ok a)

commit_same : (o : Option CommitFault) (actions commit : List Action) → unless_broken o actions ≡ Ok commit → commit ≡ actions
commit_same None actions commit is = same_ok commit actions _ is refl
commit_same (Some e) actions commit is = absurd (no_ok e commit _ refl is)

not_commit : (actions : List Action) (e : CommitFault) (b : Bool) → is_commit actions ≡ b → commit_from actions ≡ Err e → b ≡ false
not_commit actions e true is fails = absurd (no_ok e actions _ fails (from_commit actions is))
not_commit actions e false is fails = refl

-- actions that break a rule of commits
pub placed_badly : (log : List (List Action)) (bytes : ℕ) (actions : List Action) (e : CommitFault) → commit_from actions ≡ Err e → placed_after log bytes actions ≡ Err (none.Unsuited unsuited.BadPath)
placed_badly log bytes actions e fails =
    ap (λ b. cond b (unless_refused (refusal_of (log ++ actions ∷ [])) bytes actions) (Err (none.Unsuited unsuited.BadPath))) (not_commit actions e (is_commit actions) refl fails)

-- actions that are a commit
pub placed_well : (log : List (List Action)) (bytes : ℕ) (actions commit : List Action) (result : Result (List Action) NoTarget) → commit_from actions ≡ Ok commit
    → Answers result (unless_refused (refusal_of (log ++ commit ∷ [])) bytes commit) → Answers result (placed_after log bytes actions)
placed_well log bytes actions commit result is told =
    let same : commit ≡ actions = commit_same _ actions commit is in
    let good : is_commit actions ≡ true = from_gives actions (subst (λ c. commit_from actions ≡ Ok c) same is) in
    subst (λ b. Answers result (cond b (unless_refused (refusal_of (log ++ actions ∷ [])) bytes actions) (Err (none.Unsuited unsuited.BadPath)))) (sym good)
    (subst (λ c. Answers result (unless_refused (refusal_of (log ++ c ∷ [])) bytes c)) same told)

-- ---- the answer

-- what isn't suited is told
pub followed_unsuited : (wanted : Option Unsuited) (e : NoTarget) (log : List (List Action)) (bytes : ℕ) (commit : Option (List Action)) → Suits wanted (Err e) → Answers {X = Option (List Action)} (Err e) (after_suits wanted log bytes commit)
followed_unsuited wanted (none.Unsuited u) log bytes commit told = ap (λ o. after_suits o log bytes commit) told
followed_unsuited wanted none.TooLarge log bytes commit told = absurd told
followed_unsuited wanted none.NoMemory log bytes commit told = tt

pub some_told : (result wanted : Result (List Action) NoTarget) → Answers result wanted → Answers (some_commit result) (some_commit wanted)
some_told (Ok x) wanted told = ap some_commit told
some_told (Err (none.Unsuited u)) wanted told = ap some_commit told
some_told (Err none.TooLarge) wanted told = ap some_commit told
some_told (Err none.NoMemory) wanted told = tt

two_alone : (actions rest : List Action) (a b : Action) → actions ≡ a ∷ (b ∷ rest) → (length actions == 2) ≡ is_none_of rest
two_alone actions [] a b is = ap (λ l. length l == 2) is
two_alone actions (c ∷ rest) a b is = ap (λ l. length l == 2) is ∙ ne_eqb (suc (suc (suc (length rest)))) 2 (λ e. absurd (omega (arith, e)))

-- whether a commit is made, by how many actions it would have
pub is_made : (state : Option State) (now : ℕ) (g : Goal) (actions : List Action) → actions ≡ commit_to state now g → target state now g ≡ cond ((length actions == 2) && has_mark state g) None (Some (commit_to state now g))
is_made state now g actions is =
    ap (λ b. cond b None (Some (commit_to state now g))) (swapped (has_mark state g) (is_none_of (differences state now g)) ∙ ap (λ b. b && has_mark state g) (sym (two_alone actions (differences state now g) _ _ is)))
  where
    swapped : (a b : Bool) → (a && b) ≡ (b && a)
    swapped true true = refl
    swapped true false = refl
    swapped false true = refl
    swapped false false = refl

pub followed_none : (log : List (List Action)) (state : Option State) (bytes now : ℕ) (g : Goal) (actions : List Action) → actions ≡ commit_to state now g → ((length actions == 2) && has_mark state g) ≡ true
    → placed_or_none log bytes (target state now g) ≡ Ok None
followed_none log state bytes now g actions is none = ap (placed_or_none log bytes) (is_made state now g actions is ∙ ap (λ b. cond b None (Some (commit_to state now g))) none)

pub followed_some : (log : List (List Action)) (state : Option State) (bytes now : ℕ) (g : Goal) (actions : List Action) (result : Result (Option (List Action)) NoTarget) → actions ≡ commit_to state now g
    → ((length actions == 2) && has_mark state g) ≡ false → Answers result (some_commit (placed_after log bytes actions)) → Answers result (placed_or_none log bytes (target state now g))
followed_some log state bytes now g actions result is some told =
    let all : placed_or_none log bytes (target state now g) ≡ some_commit (placed_after log bytes actions)
    = ap (placed_or_none log bytes) (is_made state now g actions is ∙ ap (λ b. cond b None (Some (commit_to state now g))) some) ∙ ap (λ c. some_commit (placed_after log bytes c)) (sym is) in
    subst (Answers result) (sym all) told

-- where all is suited
pub suited_told : (log : List (List Action)) (state : Option State) (location : List ℕ) (bytes now : ℕ) (s : Shared) (result : Result (Option (List Action)) NoTarget) → unsuited_goal location (paths_of s) s.meta.now ≡ None
    → Answers result (placed_or_none log bytes (target state now (goal_of s))) → Answers result (followed log state location bytes now s)
suited_told log state location bytes now s result suits told = subst (λ o. Answers result (after_suits o log bytes (target state now (goal_of s)))) (sym suits) told

-- ---- what it reaches

abbrev unless_by : Option ReplayRefusal → Bool → List Action → Result (List Action) NoTarget
unless_by (Some e) large commit = Err (none.Unsuited (unsuited.Unsupported e))
unless_by None large commit = cond large (Err none.TooLarge) (Ok commit)

unless_same : (r : Option ReplayRefusal) (bytes : ℕ) (commit : List Action) → unless_refused r bytes commit ≡ unless_by r (is_too_large bytes (length (commit_text commit))) commit
unless_same None bytes commit = refl
unless_same (Some e) bytes commit = refl

-- a commit that is answered is that which was to be placed, and the log with it is read
answered_by : (commit : List Action) (o : Option (List Action)) (b : Bool) (r : Option ReplayRefusal) (large : Bool)
    → some_commit (cond b (unless_by r large commit) (Err (none.Unsuited unsuited.BadPath))) ≡ Ok o → (o ≡ Some commit) × (r ≡ None)
answered_by commit o false r large is = absurd (no_ok (none.Unsuited unsuited.BadPath) o _ refl is)
answered_by commit o true (Some e) large is = absurd (no_ok (none.Unsuited (unsuited.Unsupported e)) o _ refl is)
answered_by commit o true None true is = absurd (no_ok none.TooLarge o _ refl is)
answered_by commit o true None false is = (same_ok o (Some commit) _ is refl, refl)

reaches_placed : (log : List (List Action)) (state : Option State) (bytes now : ℕ) (g : Goal) (o t : Option (List Action)) → IsHead log state → PathsRise g.files → target state now g ≡ t → placed_or_none log bytes t ≡ Ok o
    → HasMirror (log ++ option_to_list o) g
reaches_placed log state bytes now g o None head rise made is =
    let same : o ≡ target state now g = same_ok o None _ is refl ∙ sym made in
    let good : IsSupported (log ++ option_to_list (target state now g)) = subst (λ t. IsSupported (log ++ option_to_list t)) (sym made) (subst IsSupported (sym (append-nil log)) (head_stands log state head).0) in
    subst (λ t. HasMirror (log ++ option_to_list t) g) (sym same) (reaches log state now g head rise good)
reaches_placed log state bytes now g o (Some commit) head rise made is =
    let told = answered_by commit o (is_commit commit) (refusal_of (log ++ commit ∷ [])) (is_too_large bytes (length (commit_text commit)))
    (sym (ap (λ r. some_commit (cond (is_commit commit) r (Err (none.Unsuited unsuited.BadPath)))) (unless_same (refusal_of (log ++ commit ∷ [])) bytes commit)) ∙ is) in
    let good : IsSupported (log ++ option_to_list (target state now g)) = subst (λ t. IsSupported (log ++ option_to_list t)) (sym made) (supported_more log commit told.1) in
    subst (λ t. HasMirror (log ++ option_to_list t) g) (made ∙ sym told.0) (reaches log state now g head rise good)

reaches_after : (wanted : Option Unsuited) (log : List (List Action)) (state : Option State) (bytes now : ℕ) (g : Goal) (o : Option (List Action)) → IsHead log state → PathsRise g.files
    → after_suits wanted log bytes (target state now g) ≡ Ok o → HasMirror (log ++ option_to_list o) g
reaches_after (Some e) log state bytes now g o head rise is = absurd (no_ok (none.Unsuited e) o _ refl is)
reaches_after None log state bytes now g o head rise is = reaches_placed log state bytes now g o (target state now g) head rise refl is

-- what is answered reaches the goal
pub answer_reaches : (log : List (List Action)) (state : Option State) (location : List ℕ) (bytes now : ℕ) (s : Shared) (o : Option (List Action)) → IsHead log state → followed log state location bytes now s ≡ Ok o
    → HasMirror (log ++ option_to_list o) (goal_of s)
answer_reaches log state location bytes now s o head is =
    reaches_after (unsuited_goal location (paths_of s) s.meta.now) log state bytes now (goal_of s) o head (live_files_rise (map (λ f. action.Add f) (map (λ f. f.now) s.files.now))) is

-- what is told of an answer reaches the goal
pub told_reaches_all : (state : Option State) (location : List ℕ) (bytes now : ℕ) (s : Shared) (result : Result (Option (List Action)) NoTarget)
    → ((log : List (List Action)) → IsHead log state → Answers result (followed log state location bytes now s)) → IfOk result (λ o. (log : List (List Action)) → IsHead log state → HasMirror (log ++ option_to_list o) (goal_of s))
told_reaches_all state location bytes now s (Ok o) told = λ log head. answer_reaches log state location bytes now s o head (told log head)
told_reaches_all state location bytes now s (Err e) told = tt
