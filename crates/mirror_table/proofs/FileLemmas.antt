-- The file of each path after the removes and the adds of a commit.
use Rattle.std.proofs.Common.{◌≡◌, ◌<◌, ◌+◌, ◌&&◌, ◌||◌, length, take, get_or, Bool, true, false, cond, not, List, [], ◌∷◌, ◌++◌, ℕ, Option, Some, None, is_some, map, fold, refl, sym, ap, ◌∙◌, subst, bytes_eq, true≢false, append_assoc}
use Rattle.std.specs.Prelude.{filter, slice_get, unwrap_or}
use Rattle.std.specs.List.{AllByRecursion, find, last_or, list_any}
use Rattle.std.specs.Option.{option_eq}
use Rattle.std.proofs.lemmas.List.{map-append, take_more}
use Rattle.std.proofs.lemmas.List.Elements.{filter-append}
use Rattle.std.proofs.lemmas.List.Sums.{fold-append}
use Rattle.std.proofs.lemmas.Option.{slice_get-get_or}
use Rattle.std.proofs.lemmas.Map.Views.{any-filter_same}
use Rattle.std.proofs.lemmas.Slice.Eq.{bytes_eq-Decides}
use Rattle.log_actions.specs.declared.actions.Action.{Action}
use Rattle.log_actions.specs.declared.actions.Action.TheVariants as action
use Rattle.log_actions.specs.declared.actions.AddFile.{AddFile}
use Rattle.log_replay.specs.Applied.{after}
use Rattle.log_replay.specs.Listing.{at_path}
use Rattle.log_replay.specs.Snapshots.{PathsRise}
use Rattle.log_replay.proofs.CheckpointLemmas.{latest_adds}
use Rattle.log_replay.proofs.ListingLemmas.{front_below, others_above, others_below, rise_head, rise_tail, same}
use Rattle.mirror_table.specs.Same.{same_file}
use Rattle.mirror_table.specs.Targets.{adds, file_at, has_path, has_same, remove_at, removes}
use Rattle.mirror_table.proofs.SameLemmas.{file_decides, option_decides}

-- files of other paths alone
abbrev pub Others : List ℕ → List AddFile → Type 0
Others q fs = AllByRecursion (λ f. bytes_eq f.path q ≡ false) fs

none_of : (q : List ℕ) (fs : List AddFile) → Others q fs → filter (λ f. bytes_eq f.path q) fs ≡ []
none_of q [] h = refl
none_of q (f ∷ fs) h = rw h.0 (none_of q fs h.1)

none_found : (q : List ℕ) (fs : List AddFile) → Others q fs → file_at q fs ≡ None
none_found q [] h = refl
none_found q (f ∷ fs) h = rw h.0 (none_found q fs h.1)

step_kept : (q : List ℕ) (f : AddFile) (xs : List AddFile) (b : Bool) → bytes_eq f.path q ≡ false → Others q xs → Others q (cond b (f ∷ xs) xs)
step_kept q f xs true e h = (e, h)
step_kept q f xs false e h = h

-- some of them
kept_others : (p : AddFile → Bool) (q : List ℕ) (fs : List AddFile) → Others q fs → Others q (filter p fs)
kept_others p q [] h = tt
kept_others p q (f ∷ fs) h = step_kept q f (filter p fs) (p f) h.0 (kept_others p q fs h.1)

-- those after a file of a path
others_after : (q : List ℕ) (f : AddFile) (fs : List AddFile) → PathsRise (f ∷ fs) → bytes_eq f.path q ≡ true → Others q fs
others_after q f fs rise is = subst (λ p. Others p fs) ((bytes_eq-Decides f.path q).0 is) (others_above f.path fs (rise_head f fs rise))

file_case : (q : List ℕ) (f : AddFile) (fs : List AddFile) (b : Bool) → bytes_eq f.path q ≡ b → PathsRise (f ∷ fs) → file_at q fs ≡ at_path q fs
    → cond b (Some f) (file_at q fs) ≡ last_or None (cond b (f ∷ filter (λ f. bytes_eq f.path q) fs) (filter (λ f. bytes_eq f.path q) fs))
file_case q f fs true is rise ih = sym (ap (last_or (Some f)) (none_of q fs (others_after q f fs rise is)))
file_case q f fs false is rise ih = ih

-- among files in order the first of a path is the last
pub file_is : (q : List ℕ) (fs : List AddFile) → PathsRise fs → file_at q fs ≡ at_path q fs
file_is q [] rise = refl
file_is q (f ∷ fs) rise = file_case q f fs (bytes_eq f.path q) refl rise (file_is q fs (rise_tail f fs rise))

remove_step : (o : Option AddFile) (b c : Bool) → cond c None (cond b None o) ≡ cond (b || c) None o
remove_step o true true = refl
remove_step o true false = refl
remove_step o false c = refl

-- removes take away the files of their paths
latest_removes : (now : ℕ) (q : List ℕ) (o : Option AddFile) (fs : List AddFile) → fold (after q) o (map (remove_at now) fs) ≡ cond (list_any (λ f. bytes_eq f.path q) fs) None o
latest_removes now q o [] = refl
latest_removes now q o (f ∷ fs) = latest_removes now q (cond (bytes_eq f.path q) None o) fs ∙ remove_step o (bytes_eq f.path q) (list_any (λ f. bytes_eq f.path q) fs)

-- which of the removed has a path
removed_has : (live wanted : List AddFile) (q : List ℕ) → list_any (λ f. bytes_eq f.path q) (filter (λ f. not (has_path wanted f.path)) live) ≡ (not (has_path wanted q) && list_any (λ f. bytes_eq f.path q) live)
removed_has live wanted q =
    any-filter_same (λ f. bytes_eq f.path q) (λ f. not (has_path wanted f.path)) (not (has_path wanted q)) (λ f is. ap (λ p. not (has_path wanted p)) ((bytes_eq-Decides f.path q).0 is)) live

-- what a file that is kept by a test leaves at its path
abbrev put_if : (AddFile → Bool) → Option AddFile → Option AddFile → Option AddFile
put_if p None o = o
put_if p (Some f) o = cond (p f) (Some f) o

own_case : (p : AddFile → Bool) (q : List ℕ) (o : Option AddFile) (f : AddFile) (fs : List AddFile) (b : Bool) → bytes_eq f.path q ≡ true → Others q fs
    → last_or o (filter (λ f. bytes_eq f.path q) (cond b (f ∷ filter p fs) (filter p fs))) ≡ cond b (Some f) o
own_case p q o f fs true is others = rw is (ap (last_or (Some f)) (none_of q (filter p fs) (kept_others p q fs others)))
own_case p q o f fs false is others = ap (last_or o) (none_of q (filter p fs) (kept_others p q fs others))

other_case : (p : AddFile → Bool) (q : List ℕ) (o r : Option AddFile) (f : AddFile) (fs : List AddFile) (b : Bool) → bytes_eq f.path q ≡ false
    → last_or o (filter (λ f. bytes_eq f.path q) (filter p fs)) ≡ r → last_or o (filter (λ f. bytes_eq f.path q) (cond b (f ∷ filter p fs) (filter p fs))) ≡ r
other_case p q o r f fs true is ih = rw is ih
other_case p q o r f fs false is ih = ih

added_case : (p : AddFile → Bool) (q : List ℕ) (o : Option AddFile) (f : AddFile) (fs : List AddFile) (b : Bool) → bytes_eq f.path q ≡ b → PathsRise (f ∷ fs)
    → last_or o (filter (λ f. bytes_eq f.path q) (filter p fs)) ≡ put_if p (file_at q fs) o
    → last_or o (filter (λ f. bytes_eq f.path q) (cond (p f) (f ∷ filter p fs) (filter p fs))) ≡ put_if p (cond b (Some f) (file_at q fs)) o
added_case p q o f fs true is rise ih = own_case p q o f fs (p f) is (others_after q f fs rise is)
added_case p q o f fs false is rise ih = other_case p q o _ f fs (p f) is ih

-- adds of the files that a test keeps put them at their paths
latest_kept : (p : AddFile → Bool) (q : List ℕ) (o : Option AddFile) (fs : List AddFile) → PathsRise fs → last_or o (filter (λ f. bytes_eq f.path q) (filter p fs)) ≡ put_if p (file_at q fs) o
latest_kept p q o [] rise = refl
latest_kept p q o (f ∷ fs) rise = added_case p q o f fs (bytes_eq f.path q) refl rise (latest_kept p q o fs (rise_tail f fs rise))

found_path : (q : List ℕ) (fs : List AddFile) (f : AddFile) → file_at q fs ≡ Some f → f.path ≡ q
found_path q [] f is = absurd (true≢false (sym (ap is_some is)))
found_path q (g ∷ fs) f is =
    elim (bytes_eq g.path q) as (λ b. bytes_eq g.path q ≡ b → cond b (Some g) (file_at q fs) ≡ Some f → f.path ≡ q) [
      | true ↦ λ e is. subst (λ o. is_at o) is ((bytes_eq-Decides g.path q).0 e)
      | false ↦ λ e is. found_path q fs f is
    ] refl is
  where
    is_at : Option AddFile → Type 0
    is_at None = ⊥
    is_at (Some h) = h.path ≡ q

-- where none of the files has the path, none is found
not_found : (q : List ℕ) (fs : List AddFile) → list_any (λ f. bytes_eq f.path q) fs ≡ false → file_at q fs ≡ None
not_found q [] e = refl
not_found q (f ∷ fs) e =
    elim (bytes_eq f.path q) as (λ b. (b || list_any (λ f. bytes_eq f.path q) fs) ≡ false → cond b (Some f) (file_at q fs) ≡ None) [
      | true ↦ λ e. absurd (true≢false e)
      | false ↦ λ e. not_found q fs e
    ] e

left_none : (q : List ℕ) (live : List AddFile) (b : Bool) → list_any (λ f. bytes_eq f.path q) live ≡ b → cond b None (file_at q live) ≡ None
left_none q live true e = refl
left_none q live false e = not_found q live e

kept_or_put : (l : Option AddFile) (f : AddFile) (b : Bool) → option_eq same_file l (Some f) ≡ b → cond (not b) (Some f) l ≡ Some f
kept_or_put l f true is = (option_decides file_decides l (Some f)).0 is
kept_or_put l f false is = refl

-- the file of a path after all removes and adds
at_each : (live wanted : List AddFile) (q : List ℕ) (w : Option AddFile) → file_at q wanted ≡ w
    → put_if (λ f. not (has_same live f)) w (cond (not (is_some w) && list_any (λ f. bytes_eq f.path q) live) None (file_at q live)) ≡ w
at_each live wanted q None is = left_none q live _ refl
at_each live wanted q (Some f) is =
    let here : file_at f.path live ≡ file_at q live = ap (λ p. file_at p live) (found_path q wanted f is) in
    kept_or_put (file_at q live) f (has_same live f) (ap (λ l. option_eq same_file l (Some f)) (sym here))

-- the removes and adds bring each path from what is live to what is wanted
pub files_reached : (now : ℕ) (live wanted : List AddFile) (q : List ℕ) → PathsRise live → PathsRise wanted
    → at_path q wanted ≡ fold (after q) (at_path q live) (removes now live wanted ++ adds live wanted)
files_reached now live wanted q rise_live rise =
    let p : AddFile → Bool = λ f. not (has_same live f) in
    let gone : fold (after q) (at_path q live) (removes now live wanted) ≡ cond (not (has_path wanted q) && list_any (λ f. bytes_eq f.path q) live) None (file_at q live)
    = latest_removes now q (at_path q live) (filter (λ f. not (has_path wanted f.path)) live) ∙ ap (λ b. cond b None (at_path q live)) (removed_has live wanted q)
    ∙ ap (λ l. cond (not (has_path wanted q) && list_any (λ f. bytes_eq f.path q) live) None l) (sym (file_is q live rise_live)) in
    sym (fold-append (after q) (at_path q live) (removes now live wanted) (adds live wanted) ∙ ap (λ o. fold (after q) o (adds live wanted)) gone
    ∙ latest_adds q _ (filter p wanted) ∙ latest_kept p q _ wanted rise ∙ at_each live wanted q (file_at q wanted) refl ∙ file_is q wanted rise)

-- ---- of the same files nothing is removed or added

skip : (q : List ℕ) (xs ys : List AddFile) → Others q xs → file_at q (xs ++ ys) ≡ file_at q ys
skip q [] ys h = refl
skip q (x ∷ xs) ys h = rw h.0 (skip q xs ys h.1)

own_found : (xs : List AddFile) (f : AddFile) (ys : List AddFile) → PathsRise (xs ++ f ∷ ys) → file_at f.path (xs ++ f ∷ ys) ≡ Some f
own_found xs f ys rise = skip f.path xs (f ∷ ys) (others_below f.path xs (front_below xs f ys rise)) ∙ ap (λ b. cond b (Some f) (file_at f.path ys)) (same f.path f.path refl)

moved : (xs : List AddFile) (f : AddFile) (ys : List AddFile) → (xs ++ f ∷ []) ++ ys ≡ xs ++ f ∷ ys
moved [] f ys = refl
moved (x ∷ xs) f ys = ap (λ r. x ∷ r) (moved xs f ys)

none_kept : (p : AddFile → Bool) (whole : List AddFile) → ((f : AddFile) → file_at f.path whole ≡ Some f → p f ≡ false) → (xs ys : List AddFile) → PathsRise whole → xs ++ ys ≡ whole → filter p ys ≡ []
none_kept p whole fails xs [] rise is = refl
none_kept p whole fails xs (f ∷ ys) rise is =
    let here : file_at f.path whole ≡ Some f = subst (λ w. file_at f.path w ≡ Some f) is (own_found xs f ys (subst PathsRise (sym is) rise)) in
    rw (fails f here) (none_kept p whole fails (xs ++ f ∷ []) ys rise (moved xs f ys ∙ is))

pub nothing_removed : (now : ℕ) (files : List AddFile) → PathsRise files → removes now files files ≡ []
nothing_removed now files rise = ap (map (remove_at now)) (none_kept (λ f. not (has_path files f.path)) files (λ f here. ap (λ o. not (is_some o)) here) [] files rise refl)

pub nothing_added : (files : List AddFile) → PathsRise files → adds files files ≡ []
nothing_added files rise =
    ap (map (λ f. action.Add f)) (none_kept (λ f. not (has_same files f)) files (λ f here. ap not (ap (λ l. option_eq same_file l (Some f)) here ∙ (file_decides f f).1 refl)) [] files rise refl)

-- ---- steps of the code

-- a live file that was found by its path
pub same_found : (files : List AddFile) (path : List ℕ) (held f : AddFile) (b : Bool) → b ≡ same_file held f → Some held ≡ file_at path files → path ≡ f.path → b ≡ has_same files f
same_found files path held f b is found same_path = is ∙ ap (λ o. option_eq same_file o (Some f)) (found ∙ ap (λ p. file_at p files) same_path)

-- one live file more
pub removes_more : (now : ℕ) (p : AddFile → Bool) (files : List AddFile) (i : ℕ) (f : AddFile) → i < length files → slice_get files i ≡ Some f
    → map (remove_at now) (filter p (take (i + 1) files)) ≡ map (remove_at now) (filter p (take i files)) ++ map (remove_at now) (filter p (f ∷ []))
removes_more now p files i f lt is =
    let here : get_or files i f ≡ f = ap (λ o. unwrap_or o f) (sym (slice_get-get_or files i f lt) ∙ is) in
    ap (λ l. map (remove_at now) (filter p l)) (take_more files i f lt ∙ ap (λ x. take i files ++ x ∷ []) here)
    ∙ ap (map (remove_at now)) (filter-append p (take i files) (f ∷ [])) ∙ map-append (remove_at now) (filter p (take i files)) (filter p (f ∷ []))
