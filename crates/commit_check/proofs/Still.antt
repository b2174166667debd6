-- What an offer rests on is the same at the head.
use Rattle.std.proofs.Common.{◌≡◌, ℕ, ◌+◌, List, [], ◌∷◌, ◌++◌, Bool, true, false, cond, Option, Some, None, Ok, is_some, option_map, map, take, drop, refl, sym, ap, ◌∙◌, subst, bytes_eq, true≢false}
use Rattle.std.specs.Prelude.{◌||◌, filter, filter_map, unwrap_or}
use Rattle.std.specs.List.{last_or, list_any}
use Rattle.std.specs.Option.{option_map_or}
use Rattle.std.proofs.lemmas.Bool.{or_parts}
use Rattle.std.proofs.lemmas.Grind.{flat_map-append}
use Rattle.std.proofs.lemmas.List.{take-append-drop}
use Rattle.std.proofs.lemmas.List.Sums.{fold-append}
use Rattle.std.proofs.lemmas.List.Folds.{list_any-append}
use Rattle.std.proofs.lemmas.Slice.Eq.{bytes_eq-Decides}
use Rattle.log_actions.specs.Commits.{is_meta_data, is_protocol}
use Rattle.log_actions.specs.declared.actions.Action.{Action}
use Rattle.log_actions.specs.declared.actions.Action.TheVariants as action
use Rattle.log_actions.specs.declared.actions.AddFile.{AddFile}
use Rattle.log_replay.specs.Applied.{after}
use Rattle.log_replay.specs.Reconciliation.{actions_in, as_meta, as_protocol, last_meta, last_protocol, live_files, names}
use Rattle.log_replay.specs.State.{State, state_of}
use Rattle.log_replay.proofs.AppliedLemmas.{last_or-filter_map}
use Rattle.log_replay.proofs.LiveLemmas.{latest, latest_from}
use Rattle.log_replay.proofs.PathLemmas.{live_files_rise}
use Rattle.commit_check.specs.Admission.{won}
use Rattle.commit_check.specs.Offers.{added_path, files_read, is_one_of, is_read, paths_read, read_state, removed_path}
use Rattle.commit_check.specs.Winners.{adds_read, adds_same, changes_read, first_winner, next_version, removes_same, winners}
use Rattle.commit_check.specs.declared.conflict.Conflict.{Conflict}
use Rattle.commit_check.specs.declared.offer.Reads.{Reads}
use Rattle.commit_check.proofs.Chosen.{made_of_log, state_there}
use Rattle.commit_check.proofs.Entries.{counted, counts_is, live_file, same_chosen}
use Rattle.commit_check.proofs.Paths.{counts_at}
use Rattle.commit_check.proofs.Places.{none_passes}

-- ---- tests that no winning action passes

-- the actions of the winning commits
abbrev pub later : List (List Action) → Option ℕ → List Action
later log read = actions_in (winners log read)

any_in : (test : Action → Bool) (cs : List (List Action)) → list_any test (actions_in cs) ≡ list_any (list_any test) cs
any_in test [] = refl
any_in test (c ∷ cs) = list_any-append test c (actions_in cs) ∙ ap (λ b. list_any test c || b) (any_in test cs)

none_won : (told : ℕ → Conflict) (o : Option ℕ) → option_map told o ≡ None → o ≡ None
none_won told None is = refl
none_won told (Some n) is = absurd (true≢false (ap is_some is))

-- where nothing is told of a test, no winning action passes it
pub none_later : (told : ℕ → Conflict) (test : Action → Bool) (log : List (List Action)) (read : Option ℕ) → won told test log read ≡ None → list_any test (later log read) ≡ false
none_later told test log read is =
    any_in test (winners log read) ∙ none_passes (list_any test) (next_version read) (winners log read) (none_won told (first_winner test log read) is)

-- neither of two tests is passed
pub any_or : {X : Type 0} (p r : X → Bool) (xs : List X) → list_any (λ x. p x || r x) xs ≡ false → (list_any p xs ≡ false) × (list_any r xs ≡ false)
any_or p r [] e = (refl, refl)
any_or p r (x ∷ xs) e =
    let here = or_parts (p x || r x) (list_any (λ y. p y || r y) xs) e in
    let each = or_parts (p x) (r x) here.0 in
    let rest = any_or p r xs here.1 in
    (ap (λ b. b || list_any p xs) each.0 ∙ rest.0, ap (λ b. b || list_any r xs) each.1 ∙ rest.1)

apart : (texts : List (List ℕ)) (path q : List ℕ) → list_any (bytes_eq q) texts ≡ true → list_any (bytes_eq path) texts ≡ false → bytes_eq path q ≡ false
apart texts path q among not =
    elim (bytes_eq path q) as (λ b. bytes_eq path q ≡ b → b ≡ false) [
      | true ↦ λ e. let same : path ≡ q = (bytes_eq-Decides path q).0 e in absurd (true≢false (sym among ∙ subst (λ x. list_any (bytes_eq x) texts ≡ false) same not))
      | false ↦ λ e. refl
    ] refl

-- a path of some is named by no action that adds or removes one of them
pub unnamed : (texts : List (List ℕ)) (q : List ℕ) (ws : List Action) → list_any (bytes_eq q) texts ≡ true → list_any (λ a. is_one_of texts (added_path a)) ws ≡ false
    → list_any (λ a. is_one_of texts (removed_path a)) ws ≡ false → list_any (names q) ws ≡ false
unnamed texts q [] among adds removes = refl
unnamed texts q (action.Protocol x ∷ ws) among adds removes = unnamed texts q ws among adds removes
unnamed texts q (action.MetaData x ∷ ws) among adds removes = unnamed texts q ws among adds removes
unnamed texts q (action.Cdc x ∷ ws) among adds removes = unnamed texts q ws among adds removes
unnamed texts q (action.Txn x ∷ ws) among adds removes = unnamed texts q ws among adds removes
unnamed texts q (action.CommitInfo x ∷ ws) among adds removes = unnamed texts q ws among adds removes
unnamed texts q (action.Add f ∷ ws) among adds removes =
    let here = or_parts (list_any (bytes_eq f.path) texts) (list_any (λ a. is_one_of texts (added_path a)) ws) adds in
    ap (λ b. b || list_any (names q) ws) (apart texts f.path q among here.0) ∙ unnamed texts q ws among here.1 removes
unnamed texts q (action.Remove f ∷ ws) among adds removes =
    let here = or_parts (list_any (bytes_eq f.path) texts) (list_any (λ a. is_one_of texts (removed_path a)) ws) removes in
    ap (λ b. b || list_any (names q) ws) (apart texts f.path q among here.0) ∙ unnamed texts q ws among adds here.1

-- ---- the files that count

uncounted_case : (p : AddFile → Bool) (b : Bool) (f : AddFile) (o : Option AddFile) → p f ≡ false → counted p o ≡ None → counted p (cond b (Some f) o) ≡ None
uncounted_case p true f o fails none = ap (λ b. cond b (Some f) None) fails
uncounted_case p false f o fails none = none

removed_case : (p : AddFile → Bool) (b : Bool) (o : Option AddFile) → counted p o ≡ None → counted p (cond b None o) ≡ None
removed_case p true o none = refl
removed_case p false o none = none

-- where no action adds a file that counts, none comes to count
uncounted : (reads : Reads) (s : State) (q : List ℕ) (o : Option AddFile) (ws : List Action) → counted (is_read reads s.meta) o ≡ None → list_any (adds_read reads (Some s)) ws ≡ false
    → counted (is_read reads s.meta) (latest q o ws) ≡ None
uncounted reads s q o [] none adds = none
uncounted reads s q o (action.Protocol x ∷ ws) none adds = uncounted reads s q o ws none adds
uncounted reads s q o (action.MetaData x ∷ ws) none adds = uncounted reads s q o ws none adds
uncounted reads s q o (action.Cdc x ∷ ws) none adds = uncounted reads s q o ws none adds
uncounted reads s q o (action.Txn x ∷ ws) none adds = uncounted reads s q o ws none adds
uncounted reads s q o (action.CommitInfo x ∷ ws) none adds = uncounted reads s q o ws none adds
uncounted reads s q o (action.Add f ∷ ws) none adds =
    let here = or_parts (is_read reads s.meta f) (list_any (adds_read reads (Some s)) ws) adds in
    uncounted reads s q (cond (bytes_eq f.path q) (Some f) o) ws (uncounted_case (is_read reads s.meta) (bytes_eq f.path q) f o here.0 none) here.1
uncounted reads s q o (action.Remove f ∷ ws) none adds =
    uncounted reads s q (cond (bytes_eq f.path q) None o) ws (removed_case (is_read reads s.meta) (bytes_eq f.path q) o none) adds

none_is : (o : Option AddFile) → is_some o ≡ false → o ≡ None
none_is None e = refl
none_is (Some f) e = absurd (true≢false e)

-- what counts at a path stays
counted_stays : (reads : Reads) (s : State) (q : List ℕ) (o : Option AddFile) (ws : List Action) (b : Bool) → is_some (counted (is_read reads s.meta) o) ≡ b
    → (b ≡ true → list_any (names q) ws ≡ false) → list_any (adds_read reads (Some s)) ws ≡ false → counted (is_read reads s.meta) (latest q o ws) ≡ counted (is_read reads s.meta) o
counted_stays reads s q o ws true counts free adds =
    ap (counted (is_read reads s.meta)) (latest_from q o ws ∙ ap (λ b. cond b (latest q None ws) o) (free refl))
counted_stays reads s q o ws false counts free adds =
    let none = none_is (counted (is_read reads s.meta) o) counts in
    uncounted reads s q o ws none adds ∙ sym none

-- ---- a log and its later actions

split : (n : ℕ) (log : List (List Action)) → log ≡ take n log ++ drop n log
split n log = sym (take-append-drop n log)

-- the actions of a log are those up to a version and the later ones
pub actions_split : (log : List (List Action)) (version : ℕ) → actions_in log ≡ actions_in (take (version + 1) log) ++ later log (Some version)
actions_split log version = ap actions_in (split (version + 1) log) ∙ flat_map-append (λ c. c) (take (version + 1) log) (drop (version + 1) log)

no_protocol : (ws : List Action) → list_any is_protocol ws ≡ false → filter_map as_protocol ws ≡ []
no_protocol [] e = refl
no_protocol (action.Protocol x ∷ ws) e = absurd (true≢false e)
no_protocol (action.MetaData x ∷ ws) e = no_protocol ws e
no_protocol (action.Add x ∷ ws) e = no_protocol ws e
no_protocol (action.Remove x ∷ ws) e = no_protocol ws e
no_protocol (action.Cdc x ∷ ws) e = no_protocol ws e
no_protocol (action.Txn x ∷ ws) e = no_protocol ws e
no_protocol (action.CommitInfo x ∷ ws) e = no_protocol ws e

no_meta : (ws : List Action) → list_any is_meta_data ws ≡ false → filter_map as_meta ws ≡ []
no_meta [] e = refl
no_meta (action.Protocol x ∷ ws) e = no_meta ws e
no_meta (action.MetaData x ∷ ws) e = absurd (true≢false e)
no_meta (action.Add x ∷ ws) e = no_meta ws e
no_meta (action.Remove x ∷ ws) e = no_meta ws e
no_meta (action.Cdc x ∷ ws) e = no_meta ws e
no_meta (action.Txn x ∷ ws) e = no_meta ws e
no_meta (action.CommitInfo x ∷ ws) e = no_meta ws e

last_stays : {X : Type 0} (f : Action → Option X) (xs ws : List Action) → filter_map f ws ≡ [] → last_or None (filter_map f (xs ++ ws)) ≡ last_or None (filter_map f xs)
last_stays f xs ws none = last_or-filter_map f None xs ws ∙ ap (last_or (last_or None (filter_map f xs))) none

same_some : {X : Type 0} (x y : X) → Some x ≡ Some y → x ≡ y
same_some x y e = ap (λ o. unwrap_or o x) e

-- no winning action is one of these
pub record Free (log : List (List Action)) (read : Option ℕ) (reads : Reads) (offered : List Action) : Type 0 where
  pub protocol : list_any is_protocol (later log read) ≡ false
  pub meta : list_any is_meta_data (later log read) ≡ false
  pub removed : list_any (removes_same offered) (later log read) ≡ false
  pub added : list_any (adds_same offered) (later log read) ≡ false
  pub changed : list_any (changes_read reads (read_state log read)) (later log read) ≡ false
  pub appended : list_any (adds_read reads (read_state log read)) (later log read) ≡ false

abbrev pub Holds : Reads → State → State → Type 0
Holds reads state head = (files_read reads (Some head) ≡ files_read reads (Some state)) × (head.protocol ≡ state.protocol) × (head.meta ≡ state.meta)

files_hold : (reads : Reads) (state : State) (xs ws : List Action) → state.files ≡ live_files xs → list_any (changes_read reads (Some state)) ws ≡ false → list_any (adds_read reads (Some state)) ws ≡ false
    → filter (is_read reads state.meta) (live_files (xs ++ ws)) ≡ filter (is_read reads state.meta) state.files
files_hold reads state xs ws files changed appended =
    let p = is_read reads state.meta in
    let parts = any_or (λ a. is_one_of (paths_read reads (Some state)) (added_path a)) (λ a. is_one_of (paths_read reads (Some state)) (removed_path a)) ws changed in
    same_chosen p (xs ++ ws) xs (λ q.
    ap (counted p) (fold-append (after q) None xs ws)
    ∙ counted_stays reads state q (latest q None xs) ws (is_some (counted p (latest q None xs))) refl
    (λ e. unnamed (paths_read reads (Some state)) q ws
    (ap (λ fs. list_any (bytes_eq q) (map (λ f. f.path) (filter p fs))) files ∙ sym (counts_at p (live_files xs) q (live_files_rise xs)) ∙ ap (λ o. option_map_or p o false) (live_file xs q) ∙ counts_is p (latest q None xs) ∙ e)
    parts.0 parts.1)
    appended)
    ∙ ap (filter p) (sym files)

pub still : (log : List (List Action)) (read : Option ℕ) (reads : Reads) (offered : List Action) (state head : State) → Free log read reads offered → read_state log read ≡ Some state → state_of log ≡ Ok head → Holds reads state head
still log None reads offered state head free at is = absurd (true≢false (sym (ap is_some at)))
still log (Some version) reads offered state head free at is =
    let xs = actions_in (take (version + 1) log) in
    let ws = later log (Some version) in
    let of = made_of_log (take (version + 1) log) state (state_there log version state at) in
    let oh = made_of_log log head is in
    let whole = actions_split log version in
    let protocol : head.protocol ≡ state.protocol = same_some _ _ (sym oh.protocol ∙ ap last_protocol whole ∙ last_stays as_protocol xs ws (no_protocol ws free.protocol) ∙ of.protocol) in
    let meta : head.meta ≡ state.meta = same_some _ _ (sym oh.meta ∙ ap last_meta whole ∙ last_stays as_meta xs ws (no_meta ws free.meta) ∙ of.meta) in
    let files : head.files ≡ live_files (xs ++ ws) = oh.files ∙ ap live_files whole in
    let changed : list_any (changes_read reads (Some state)) ws ≡ false = subst (λ s. list_any (changes_read reads s) ws ≡ false) at free.changed in
    let appended : list_any (adds_read reads (Some state)) ws ≡ false = subst (λ s. list_any (adds_read reads s) ws ≡ false) at free.appended in
    (ap (λ m. filter (is_read reads m) head.files) meta ∙ ap (filter (is_read reads state.meta)) files ∙ files_hold reads state xs ws of.files changed appended, protocol, meta)
