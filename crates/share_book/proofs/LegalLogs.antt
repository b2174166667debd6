-- Each version of a legal history's logs has a state.
use Rattle.std.proofs.Common.{◌≡◌, ℕ, zero, suc, ◌+◌, ◌-◌, ◌<◌, ◌≤◌, ◌==◌, List, [], ◌∷◌, ◌++◌, Bool, true, false, if◌then◌else◌, Option, Some, None, Ok, is_some, refl, sym, ap, ◌∙◌, subst, append_assoc, arith, length, take, inl, inr, length-append}
use Rattle.std.specs.Prelude.{◌⊎◌}
use Rattle.std.specs.List.{cons_option, filter_map, position, slice_get}
use Rattle.std.specs.Option.{option_and_then, option_map}
use Rattle.std.proofs.lemmas.Bool.{eqb-true, ne_eqb}
use Rattle.std.proofs.lemmas.List.{append-nil, length-take-le}
use Rattle.std.proofs.lemmas.List.Elements.{filter_map-append}
use Rattle.std.proofs.lemmas.Option.{slice_get_within}
use Rattle.log_actions.specs.declared.actions.Action.{Action}
use Rattle.log_actions.specs.declared.actions.AddFile.{AddFile}
use Rattle.log_actions.specs.declared.actions.MetaData.{MetaData}
use Rattle.log_actions.specs.declared.actions.Protocol.{Protocol}
use Rattle.log_actions.specs.declared.actions.Txn.{Txn}
use Rattle.log_replay.specs.Reconciliation.{actions_in, last_meta, last_protocol, meta_at, protocol_at}
use Rattle.log_replay.specs.Standing.{IsSupported}
use Rattle.log_replay.specs.State.{State, state_from, state_of}
use Rattle.log_replay.specs.Support.{own_actions, refusal_of}
use Rattle.log_replay.specs.declared.refusal.ReplayRefusal.{ReplayRefusal}
use Rattle.log_replay.proofs.NextLemmas.{supported_read}
use Rattle.log_replay.proofs.RefusalLemmas.{IsRead, cause_is, not_refused}
use Rattle.share_book.specs.History.{block_on, commit_of, commit_on, grown, start_in, start_of, starts, table_on}
use Rattle.share_book.specs.Laws.{VersionsHaveStates}
use Rattle.share_book.specs.Legal.{Fits, IsKeptLog, IsLegal, May, TakesCommit, There, is_at}
use Rattle.share_book.specs.TableView.{TableLog}
use Rattle.share_book.specs.Views.{log_at, seen_log}
use Rattle.share_book.specs.declared.entry.Act.{Act}
use Rattle.share_book.specs.declared.entry.Act.TheVariants.{Begin, Own, Found, OwnEdit, FoundEdit, Load, Blocked, Abort}
use Rattle.share_book.specs.declared.entry.Entry.{Entry}
use Rattle.share_book.specs.declared.entry.LogStart.{LogStart}
use Rattle.share_book.proofs.Pushes.{elsewhere}

-- ---- a supported log

taken_twice : {X : Type 0} (a b : ℕ) (xs : List X) → a ≤ b → take a (take b xs) ≡ take a xs
taken_twice zero b xs le = refl
taken_twice (suc a) zero xs le = absurd (omega (arith, le))
taken_twice (suc a) (suc b) [] le = refl
taken_twice (suc a) (suc b) (x ∷ xs) le = ap (λ ys. x ∷ ys) (taken_twice a b xs (omega (arith, le)))

get_taken : {X : Type 0} (n k : ℕ) (xs : List X) → k < n → slice_get (take n xs) k ≡ slice_get xs k
get_taken zero k xs lt = absurd (omega (arith, lt))
get_taken (suc n) k [] lt = refl
get_taken (suc n) zero (x ∷ xs) lt = refl
get_taken (suc n) (suc k) (x ∷ xs) lt = get_taken n k xs (omega (arith, lt))

-- a front's versions are the log's
front_read : (log : List (List Action)) (n v : ℕ) → v < n → IsRead log v → IsRead (take n log) v
front_read log n v lt read =
    let fronts : take (v + 1) (take n log) ≡ take (v + 1) log = taken_twice (v + 1) n log (omega (arith, lt)) in
    let protocols : protocol_at (take n log) v ≡ protocol_at log v = ap (λ (l : List (List Action)). last_protocol (actions_in l)) fronts in
    let metas : meta_at (take n log) v ≡ meta_at log v = ap (λ (l : List (List Action)). last_meta (actions_in l)) fronts in
    record {
      protocol = ap is_some protocols ∙ read.protocol;
      meta = ap is_some metas ∙ read.meta;
      cause = cause_is _ _ _ _ _ _ protocols metas (ap own_actions (get_taken n v log lt)) ∙ read.cause;
    }

has_state : (r : Option ReplayRefusal) (version : ℕ) (files : List AddFile) (p : Option Protocol) (m : Option MetaData) (txns : List Txn) → r ≡ None → is_some p ≡ true → is_some m ≡ true → (state : State) × (state_from r version files p m txns ≡ Ok state)
has_state (Some e) version files p m txns none has had = absurd cc
has_state None version files None m txns none has had = absurd cc
has_state None version files (Some p) None txns none has had = absurd cc
has_state None version files (Some p) (Some m) txns none has had = (record { version = version; files = files; protocol = p; meta = m; txns = txns }, refl)

supported_state : (log : List (List Action)) (version : ℕ) → IsSupported log → version < length log → (state : State) × (state_of (take (version + 1) log) ≡ Ok state)
supported_state log version supported lt =
    let front : List (List Action) = take (version + 1) log in
    let long : length front ≡ version + 1 = length-take-le (version + 1) log (omega (arith, lt)) in
    let read : (v : ℕ) → v < length front → IsRead front v = λ v low. front_read log (version + 1) v (omega (arith, low, long)) (supported_read log supported v (omega (arith, low, long, lt))) in
    let last : IsRead log version = supported_read log supported version lt in
    has_state (refusal_of front) _ _ (protocol_at log version) (meta_at log version) _ (not_refused front (omega (arith, long)) read) last.protocol last.meta

-- ---- what an entry says of a log

-- the log is there, and takes the commit
takes_by : (h : List Entry) (k j : ℕ) (a : Act) (c : List Action) → commit_of a ≡ Some c → Fits h k j a → TakesCommit h j c
takes_by h k j Begin c is f = absurd cc
takes_by h k j (Own d) c is f = let same : d ≡ c = cc in subst (TakesCommit h j) same f.1
takes_by h k j (Found d) c is f = let same : d ≡ c = cc in subst (TakesCommit h j) same f.1
takes_by h k j (OwnEdit e) c is f = absurd cc
takes_by h k j (FoundEdit e) c is f = absurd cc
takes_by h k j (Load s) c is f = absurd cc
takes_by h k j (Blocked n) c is f = absurd cc
takes_by h k j Abort c is f = absurd cc

-- a log that is loaded is supported
loads_by : (h : List Entry) (k j : ℕ) (a : Act) (s : LogStart) → start_of a ≡ Some s → Fits h k j a → (j ≡ 0) × IsSupported s.commits
loads_by h k j Begin s is f = absurd cc
loads_by h k j (Own c) s is f = absurd cc
loads_by h k j (Found c) s is f = absurd cc
loads_by h k j (OwnEdit e) s is f = absurd cc
loads_by h k j (FoundEdit e) s is f = absurd cc
loads_by h k j (Load t) s is f = let same : t ≡ s = cc in (f.1.0, subst (λ (x : LogStart). IsSupported x.commits) same f.1.3.0)
loads_by h k j (Blocked n) s is f = absurd cc
loads_by h k j Abort s is f = absurd cc

there_by : (h : List Entry) (j : ℕ) (P : TableLog → Type 0) → 0 < j → (o : Option LogStart) → slice_get (starts h) (j - 1) ≡ o → There (option_map (grown (filter_map (commit_on j) h) (filter_map (block_on j) h)) o) P → j ≤ length (starts h)
there_by h j P some None is t = absurd t
there_by h j P some (Some s) is t = let lt = slice_get_within (starts h) (j - 1) s is in omega (arith, some, lt)

there : (h : List Entry) (j : ℕ) (P : TableLog → Type 0) → 0 < j → There (table_on j h) P → j ≤ length (starts h)
there h j P some t = there_by h j P some (slice_get (starts h) (j - 1)) refl t

-- what is said of a log by an entry on it
here : (b : Bool) (o : Option (List Action)) (c : List Action) → (if b then o else None) ≡ Some c → (b ≡ true) × (o ≡ Some c)
here true o c e = (refl, e)
here false o c e = absurd cc

-- ---- what holds of the logs

-- no commit stands on a log that isn't there, and each log is supported
record KeepsLogs (h : List Entry) : Type 0 where
  none : (j : ℕ) → length (starts h) < j → filter_map (commit_on j) h ≡ []
  supported : (j : ℕ) (t : TableLog) → 0 < j → table_on j h ≡ Some t → IsSupported t.commits

commits_more : (j : ℕ) (h : List Entry) (e : Entry) → filter_map (commit_on j) (h ++ e ∷ []) ≡ filter_map (commit_on j) h ++ cons_option (commit_on j e) []
commits_more j h e = filter_map-append (commit_on j) h (e ∷ [])

starts_more : (h : List Entry) (e : Entry) → starts (h ++ e ∷ []) ≡ starts h ++ cons_option (start_in e) []
starts_more h e = filter_map-append start_in h (e ∷ [])

no_fewer : (h : List Entry) (e : Entry) → length (starts h) ≤ length (starts (h ++ e ∷ []))
no_fewer h e = let longer = ap (λ (l : List LogStart). length l) (starts_more h e) ∙ length-append (starts h) (cons_option (start_in e) []) in omega (arith, longer)

none_more : (h : List Entry) (e : Entry) (j : ℕ) → May h e → length (starts (h ++ e ∷ [])) < j → (o : Option (List Action)) → commit_on j e ≡ o → cons_option o [] ≡ []
none_more h e j may past None is = refl
none_more h e j may past (Some c) is =
    let on = here (e.log == j) (commit_of e.act) c is in
    let same : e.log ≡ j = eqb-true e.log j on.0 in
    let takes = takes_by h e.caller e.log e.act c on.1 may.1 in
    let low : e.log ≤ length (starts h) = there h e.log (λ t. (t.block ≡ None) × IsKeptLog (t.commits ++ c ∷ [])) takes.0 takes.1 in
    let longer = no_fewer h e in
    absurd (omega (arith, same, low, longer, past))

none_step : (h : List Entry) (e : Entry) → KeepsLogs h → May h e → (j : ℕ) → length (starts (h ++ e ∷ [])) < j → filter_map (commit_on j) (h ++ e ∷ []) ≡ []
none_step h e keeps may j past =
    let longer = no_fewer h e in
    commits_more j h e ∙ ap (λ (cs : List (List Action)). cs ++ cons_option (commit_on j e) []) (keeps.none j (omega (arith, longer, past))) ∙ none_more h e j may past (commit_on j e) refl

-- the element at a place of a list with perhaps one more is an old one or that one
one_more_at : {X : Type 0} (xs : List X) (o : Option X) (n : ℕ) (x : X) → slice_get (xs ++ cons_option o []) n ≡ Some x → (slice_get xs n ≡ Some x) ⊎ ((o ≡ Some x) × (n ≡ length xs))
one_more_at [] None n x e = absurd cc
one_more_at [] (Some y) zero x e = inr (e, refl)
one_more_at [] (Some y) (suc n) x e = absurd cc
one_more_at (z ∷ zs) o zero x e = inl e
one_more_at {X} (z ∷ zs) o (suc n) x e =
    elim (one_more_at zs o n x e) as (λ s. (slice_get zs n ≡ Some x) ⊎ ((o ≡ Some x) × (suc n ≡ suc (length zs)))) [ inl h ↦ inl h | inr h ↦ inr (h.0, ap (λ k. suc k) h.1) ]

taken_of : (o : Option TableLog) (c : List Action) → There o (λ t. (t.block ≡ None) × IsKeptLog (t.commits ++ c ∷ [])) → There o (λ t. (t.block ≡ None) × IsSupported (t.commits ++ c ∷ []))
taken_of None c t = t
taken_of (Some x) c t = (t.0, t.1.0)

-- an old log, by what the entry adds to it
old_log : (h : List Entry) (e : Entry) (j : ℕ) (s : LogStart) → KeepsLogs h → May h e → 0 < j → slice_get (starts h) (j - 1) ≡ Some s
    → (o : Option (List Action)) → commit_on j e ≡ o → IsSupported (s.commits ++ (filter_map (commit_on j) h ++ cons_option o []))
old_log h e j s keeps may some at None is =
    subst (λ (cs : List (List Action)). IsSupported (s.commits ++ cs)) (sym (append-nil (filter_map (commit_on j) h)))
    (keeps.supported j (grown (filter_map (commit_on j) h) (filter_map (block_on j) h) s) some (ap (option_map (grown (filter_map (commit_on j) h) (filter_map (block_on j) h))) at))
old_log h e j s keeps may some at (Some c) is =
    let on = here (e.log == j) (commit_of e.act) c is in
    let same : e.log ≡ j = eqb-true e.log j on.0 in
    let takes : TakesCommit h j c = subst (λ (i : ℕ). TakesCommit h i c) same (takes_by h e.caller e.log e.act c on.1 may.1) in
    let taken = subst (λ (x : Option LogStart). There (option_map (grown (filter_map (commit_on j) h) (filter_map (block_on j) h)) x) (λ t. (t.block ≡ None) × IsSupported (t.commits ++ c ∷ []))) at (taken_of (table_on j h) c takes.1) in
    subst IsSupported (append_assoc s.commits (filter_map (commit_on j) h) (c ∷ [])) taken.1

-- a new log
new_log : (h : List Entry) (e : Entry) (j : ℕ) (s : LogStart) → KeepsLogs h → May h e → 0 < j → start_in e ≡ Some s → j - 1 ≡ length (starts h) → IsSupported (s.commits ++ (filter_map (commit_on j) h ++ cons_option (commit_on j e) []))
new_log h e j s keeps may some loads at =
    let loaded = loads_by h e.caller e.log e.act s loads may.1 in
    let nothing : filter_map (commit_on j) h ≡ [] = keeps.none j (omega (arith, some, at)) in
    let off : e.log ≡ j → ⊥ = λ q. let z = loaded.0 in absurd (omega (arith, some, q, z)) in
    let quiet : commit_on j e ≡ None = elsewhere j e (commit_of e.act) (ne_eqb e.log j off) in
    let same : filter_map (commit_on j) h ++ cons_option (commit_on j e) [] ≡ [] = ap (λ (cs : List (List Action)). cs ++ cons_option (commit_on j e) []) nothing ∙ ap (λ (o : Option (List Action)). cons_option o []) quiet in
    subst (λ (cs : List (List Action)). IsSupported (s.commits ++ cs)) (sym same) (subst IsSupported (sym (append-nil s.commits)) loaded.1)

supported_case : (h : List Entry) (e : Entry) (j : ℕ) (t : TableLog) → KeepsLogs h → May h e → 0 < j → (o : Option LogStart) → slice_get (starts (h ++ e ∷ [])) (j - 1) ≡ o
    → option_map (grown (filter_map (commit_on j) (h ++ e ∷ [])) (filter_map (block_on j) (h ++ e ∷ []))) o ≡ Some t → IsSupported t.commits
supported_case h e j t keeps may some None is there = absurd cc
supported_case h e j t keeps may some (Some s) is there =
    let same : grown (filter_map (commit_on j) (h ++ e ∷ [])) (filter_map (block_on j) (h ++ e ∷ [])) s ≡ t = cc in
    let commits : s.commits ++ (filter_map (commit_on j) h ++ cons_option (commit_on j e) []) ≡ t.commits =
    ap (λ (cs : List (List Action)). s.commits ++ cs) (sym (commits_more j h e)) ∙ ap (λ (x : TableLog). x.commits) same in
    let place : (slice_get (starts h) (j - 1) ≡ Some s) ⊎ ((start_in e ≡ Some s) × (j - 1 ≡ length (starts h))) =
    one_more_at (starts h) (start_in e) (j - 1) s (ap (λ (l : List LogStart). slice_get l (j - 1)) (sym (starts_more h e)) ∙ is) in
    subst IsSupported commits (elim place as (λ x. IsSupported (s.commits ++ (filter_map (commit_on j) h ++ cons_option (commit_on j e) []))) [
      | inl at ↦ old_log h e j s keeps may some at (commit_on j e) refl
      | inr new ↦ new_log h e j s keeps may some new.0 new.1
    ])

keeps_more : (h : List Entry) (e : Entry) → KeepsLogs h → May h e → KeepsLogs (h ++ e ∷ [])
keeps_more h e keeps may = record {
  none = none_step h e keeps may;
  supported = λ j t some there. supported_case h e j t keeps may some (slice_get (starts (h ++ e ∷ [])) (j - 1)) refl there;
}

keeps_by : (h front rest : List Entry) → h ≡ front ++ rest → IsLegal h → KeepsLogs front → KeepsLogs h
keeps_by h front [] is legal keeps = subst KeepsLogs (sym (is ∙ append-nil front)) keeps
keeps_by h front (e ∷ rest) is legal keeps = keeps_by h (front ++ e ∷ []) rest (is ∙ sym (append_assoc front (e ∷ []) rest)) legal (keeps_more front e keeps (legal front e rest is))

keeps_nothing : KeepsLogs []
keeps_nothing = record { none = λ j past. refl; supported = λ j t some there. absurd cc }

keeps_logs : (h : List Entry) → IsLegal h → KeepsLogs h
keeps_logs h legal = keeps_by h [] h refl legal keeps_nothing

seen_supported : (h : List Entry) (j : ℕ) → KeepsLogs h → 0 < j → (o : Option TableLog) → table_on j h ≡ o → IsSupported (seen_log o).commits
seen_supported h j keeps some None is = tt
seen_supported h j keeps some (Some t) is = keeps.supported j t some is

at_place : (h : List Entry) → KeepsLogs h → (o : Option ℕ) → IsSupported (seen_log (option_and_then (λ number. table_on number h) (option_map (λ i. i + 1) o))).commits
at_place h keeps None = tt
at_place h keeps (Some i) = seen_supported h (i + 1) keeps (omega arith) (table_on (i + 1) h) refl

pub versions_have_states : VersionsHaveStates
versions_have_states h location version legal less = supported_state (log_at h location).commits version (at_place h (keeps_logs h legal) (position (is_at location) (starts h))) less
