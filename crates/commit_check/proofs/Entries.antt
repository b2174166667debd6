-- The live files that count, path by path.
use Rattle.std.proofs.Common.{◌≡◌, ℕ, List, [], ◌∷◌, ◌++◌, Bool, true, false, cond, T, Option, Some, None, is_some, map, refl, sym, ap, ◌∙◌, subst, bytes_eq}
use Rattle.std.specs.Prelude.{◌||◌, ◌&&◌, filter}
use Rattle.std.specs.List.{find, list_any}
use Rattle.std.specs.Option.{option_map_or}
use Rattle.std.specs.Ordering.{nat_cmp, eq_by_cmp, is_eq}
use Rattle.std.specs.Cmp.Lexicographic.{slice_cmp}
use Rattle.std.specs.FinMap as map
use Rattle.std.specs.FinMap.Entries.{below_all, is_sorted, same_entries}
use Rattle.std.proofs.lemmas.Cmp.{nat_list_cmp_total}
use Rattle.std.proofs.lemmas.List.Sums.{fold-append}
use Rattle.std.proofs.lemmas.Slice.Eq.{bytes_eq-Decides}
use Rattle.log_actions.specs.declared.actions.Action.{Action}
use Rattle.log_actions.specs.declared.actions.AddFile.{AddFile}
use Rattle.log_replay.specs.Applied.{after}
use Rattle.log_replay.specs.Reconciliation.{live, live_adds, live_files, names}
use Rattle.log_replay.proofs.LiveLemmas.{get-live, keys_tie, latest, latest_from}
use Rattle.log_replay.proofs.PathLemmas.{AreKeyed, entries_keyed, halves, less}
use Rattle.commit_check.specs.Lawful.{is_live}
use Rattle.commit_check.specs.Lookups.{file_at}

abbrev Listed : Type 0
Listed = List (List ℕ × AddFile)

abbrev files_in : Listed → List AddFile
files_in es = map (λ e. e.1) es

-- a file that counts
abbrev pub counted : (AddFile → Bool) → Option AddFile → Option AddFile
counted p None = None
counted p (Some f) = cond (p f) (Some f) None

pub counts_is : (p : AddFile → Bool) (o : Option AddFile) → option_map_or p o false ≡ is_some (counted p o)
counts_is p None = refl
counts_is p (Some f) = elim (p f) as (λ b. b ≡ is_some (cond b (Some f) None)) [ true ↦ refl | false ↦ refl ]

abbrev chosen : (AddFile → Bool) → Listed → Listed
chosen p es = filter (λ e. p e.1) es

files_chosen : (p : AddFile → Bool) (es : Listed) → files_in (chosen p es) ≡ filter p (files_in es)
files_chosen p [] = refl
files_chosen p (e ∷ es) =
    elim (p e.1) as (λ b. files_in (cond b (e ∷ chosen p es) (chosen p es)) ≡ cond b (e.1 ∷ filter p (files_in es)) (filter p (files_in es))) [
      | true ↦ ap (λ r. e.1 ∷ r) (files_chosen p es)
      | false ↦ files_chosen p es
    ]

both : (a b : Bool) → T a → T b → T (a && b)
both true b p q = q
both false b p q = p

below_chosen : (x : List ℕ) (p : AddFile → Bool) (es : Listed) → T (below_all (slice_cmp nat_cmp) x es) → T (below_all (slice_cmp nat_cmp) x (chosen p es))
below_chosen x p [] h = tt
below_chosen x p (e ∷ es) h =
    let parts = halves _ _ h in
    let rest = below_chosen x p es parts.1 in
    elim (p e.1) as (λ b. T (below_all (slice_cmp nat_cmp) x (cond b (e ∷ chosen p es) (chosen p es)))) [ true ↦ both _ _ parts.0 rest | false ↦ rest ]

sorted_chosen : (p : AddFile → Bool) (es : Listed) → T (is_sorted (slice_cmp nat_cmp) es) → T (is_sorted (slice_cmp nat_cmp) (chosen p es))
sorted_chosen p [] h = tt
sorted_chosen p (e ∷ es) h =
    let parts = halves _ _ h in
    let rest = sorted_chosen p es parts.1 in
    elim (p e.1) as (λ b. T (is_sorted (slice_cmp nat_cmp) (cond b (e ∷ chosen p es) (chosen p es)))) [ true ↦ both _ _ (below_chosen e.0 p es parts.0) rest | false ↦ rest ]

none_below : (q : List ℕ) (es : Listed) → T (below_all (slice_cmp nat_cmp) q es) → map.find (slice_cmp nat_cmp) q es ≡ None
none_below q [] h = refl
none_below q (e ∷ es) h =
    let parts = halves _ _ h in
    ap (λ b. cond b (Some e.1) (map.find (slice_cmp nat_cmp) q es)) (ap is_eq (less _ parts.0)) ∙ none_below q es parts.1

find_chosen : (p : AddFile → Bool) (q : List ℕ) (es : Listed) → T (is_sorted (slice_cmp nat_cmp) es) → map.find (slice_cmp nat_cmp) q (chosen p es) ≡ counted p (map.find (slice_cmp nat_cmp) q es)
find_chosen p q [] h = refl
find_chosen p q (e ∷ es) h =
    let parts = halves _ _ h in
    let rest = find_chosen p q es parts.1 in
    elim (eq_by_cmp (slice_cmp nat_cmp) q e.0) as (λ t. eq_by_cmp (slice_cmp nat_cmp) q e.0 ≡ t → map.find (slice_cmp nat_cmp) q (cond (p e.1) (e ∷ chosen p es) (chosen p es)) ≡ counted p (cond t (Some e.1) (map.find (slice_cmp nat_cmp) q es))) [
      | true ↦ λ t.
          let same : e.0 ≡ q = (bytes_eq-Decides e.0 q).0 (sym (keys_tie q e.0) ∙ t) in
          let none : map.find (slice_cmp nat_cmp) q es ≡ None = none_below q es (subst (λ k. T (below_all (slice_cmp nat_cmp) k es)) same parts.0) in
          elim (p e.1) as (λ b. map.find (slice_cmp nat_cmp) q (cond b (e ∷ chosen p es) (chosen p es)) ≡ cond b (Some e.1) None) [
            | true ↦ ap (λ b. cond b (Some e.1) (map.find (slice_cmp nat_cmp) q (chosen p es))) t
            | false ↦ rest ∙ ap (counted p) none
          ]
      | false ↦ λ t. elim (p e.1) as (λ b. map.find (slice_cmp nat_cmp) q (cond b (e ∷ chosen p es) (chosen p es)) ≡ map.find (slice_cmp nat_cmp) q (chosen p es)) [
        | true ↦ ap (λ b. cond b (Some e.1) (map.find (slice_cmp nat_cmp) q (chosen p es))) t
        | false ↦ refl
      ] ∙ rest
    ] refl

file_of_entries : (q : List ℕ) (es : Listed) → AreKeyed (λ f. f.path) es → file_at (files_in es) q ≡ map.find (slice_cmp nat_cmp) q es
file_of_entries q [] keyed = refl
file_of_entries q (e ∷ es) keyed =
    ap (λ k. cond (bytes_eq k q) (Some e.1) (file_at (files_in es) q)) (sym keyed.0)
    ∙ ap (λ b. cond b (Some e.1) (file_at (files_in es) q)) (sym (keys_tie q e.0))
    ∙ ap (cond (eq_by_cmp (slice_cmp nat_cmp) q e.0) (Some e.1)) (file_of_entries q es keyed.1)

at_entries : (actions : List Action) (q : List ℕ) → map.find (slice_cmp nat_cmp) q (map.entries (live actions)) ≡ latest q None actions
at_entries actions q = sym (map.get-entries (live actions) q) ∙ get-live actions q

-- the live file of a path is the latest there
pub live_file : (actions : List Action) (q : List ℕ) → file_at (live_files actions) q ≡ latest q None actions
live_file actions q = file_of_entries q (map.entries (live actions)) (entries_keyed (λ f. f.path) (live_adds actions)) ∙ at_entries actions q

any_found : (p : AddFile → Bool) (fs : List AddFile) → list_any p fs ≡ is_some (find p fs)
any_found p [] = refl
any_found p (f ∷ fs) = elim (p f) as (λ b. (b || list_any p fs) ≡ is_some (cond b (Some f) (find p fs))) [ true ↦ refl | false ↦ any_found p fs ]

-- whether a path is live
pub live_is : (actions : List Action) (q : List ℕ) → is_live (live_files actions) q ≡ is_some (latest q None actions)
live_is actions q = any_found (λ f. bytes_eq f.path q) (live_files actions) ∙ ap is_some (live_file actions q)

-- the live files that count are the same where at each path the same counts
pub same_chosen : (p : AddFile → Bool) (xs ys : List Action) → ((q : List ℕ) → counted p (latest q None xs) ≡ counted p (latest q None ys)) → filter p (live_files xs) ≡ filter p (live_files ys)
same_chosen p xs ys same =
    let es = map.entries (live xs) in
    let fs = map.entries (live ys) in
    let one : chosen p es ≡ chosen p fs = same_entries (slice_cmp nat_cmp) nat_list_cmp_total (map.slice_cmp-IsAntisymmetric map.nat_cmp-IsAntisymmetric) (chosen p es) (chosen p fs)
    (sorted_chosen p es (map.entries_sorted (live xs))) (sorted_chosen p fs (map.entries_sorted (live ys)))
    (λ q. find_chosen p q es (map.entries_sorted (live xs)) ∙ ap (counted p) (at_entries xs q) ∙ same q ∙ sym (ap (counted p) (at_entries ys q)) ∙ sym (find_chosen p q fs (map.entries_sorted (live ys)))) in
    sym (files_chosen p es) ∙ ap files_in one ∙ files_chosen p fs

-- what stands at a path that no later action names
pub latest_stays : (q : List ℕ) (xs ws : List Action) → list_any (names q) ws ≡ false → latest q None (xs ++ ws) ≡ latest q None xs
latest_stays q xs ws none =
    fold-append (after q) None xs ws ∙ latest_from q (latest q None xs) ws ∙ ap (λ b. cond b (latest q None ws) (latest q None xs)) none
