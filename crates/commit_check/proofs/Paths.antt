-- What counts as read, by a file and by a path.
use Rattle.std.proofs.Common.{◌≡◌, ℕ, List, [], ◌∷◌, Bool, true, false, cond, Option, Some, None, map, refl, sym, ap, ◌∙◌, subst, Less, bytes_eq, nat_cmp}
use Rattle.std.specs.Prelude.{◌||◌, filter}
use Rattle.std.specs.List.{AllByRecursion, find, list_any}
use Rattle.std.specs.List.Sorted.{IsStrictlySortedBy}
use Rattle.std.specs.Option.{option_map_or}
use Rattle.std.specs.Ordering.{is_eq}
use Rattle.std.specs.Cmp.Lexicographic.{slice_cmp}
use Rattle.std.proofs.lemmas.Cmp.{nat_list_eq_equiv}
use Rattle.std.proofs.lemmas.Map.Text.{is_eq-slice_cmp}
use Rattle.std.proofs.lemmas.Slice.Eq.{bytes_eq-Decides}
use Rattle.log_actions.specs.declared.actions.AddFile.{AddFile}
use Rattle.log_replay.specs.Snapshots.{PathsRise}
use Rattle.log_replay.specs.State.{State}
use Rattle.pred_tree.specs.Listing.{passes}
use Rattle.commit_check.specs.Lookups.{file_at}
use Rattle.commit_check.specs.Offers.{is_one_of, is_read, paths_read}
use Rattle.commit_check.specs.ReadFiles.{IsReading, has_file_of, has_path_of}
use Rattle.commit_check.specs.Winners.{would_be_read}
use Rattle.commit_check.specs.declared.offer.Reads.{Reads}
use Rattle.commit_check.specs.declared.reading.Reading.{Reading}
use Rattle.commit_check.specs.declared.reading.Reading.TheVariants as reading

abbrev path_of : AddFile → List ℕ
path_of f = f.path

-- ---- the paths of the files that count

none_above : (q : List ℕ) (p : AddFile → Bool) (fs : List AddFile) → AllByRecursion (λ y. slice_cmp nat_cmp q y ≡ Less) (map path_of fs) → list_any (bytes_eq q) (map path_of (filter p fs)) ≡ false
none_above q p [] h = refl
none_above q p (f ∷ fs) h =
    let other : bytes_eq q f.path ≡ false = sym (is_eq-slice_cmp q f.path) ∙ ap is_eq h.0 in
    elim (p f) as (λ b. list_any (bytes_eq q) (map path_of (cond b (f ∷ filter p fs) (filter p fs))) ≡ false) [
      | true ↦ ap (λ b. b || list_any (bytes_eq q) (map path_of (filter p fs))) other ∙ none_above q p fs h.1
      | false ↦ none_above q p fs h.1
    ]

path_case : (p : AddFile → Bool) (f : AddFile) (fs : List AddFile) (q : List ℕ) (b c : Bool) → bytes_eq f.path q ≡ b → p f ≡ c → AllByRecursion (λ y. slice_cmp nat_cmp f.path y ≡ Less) (map path_of fs)
    → option_map_or p (find (λ g. bytes_eq g.path q) fs) false ≡ list_any (bytes_eq q) (map path_of (filter p fs))
    → option_map_or p (cond b (Some f) (find (λ g. bytes_eq g.path q) fs)) false ≡ list_any (bytes_eq q) (map path_of (cond c (f ∷ filter p fs) (filter p fs)))
path_case p f fs q true true at counts above ih = counts ∙ ap (λ b. b || list_any (bytes_eq q) (map path_of (filter p fs))) (sym (nat_list_eq_equiv.symm q f.path ∙ at))
path_case p f fs q true false at counts above ih =
    let same : f.path ≡ q = (bytes_eq-Decides f.path q).0 at in
    counts ∙ sym (none_above q p fs (subst (λ x. AllByRecursion (λ y. slice_cmp nat_cmp x y ≡ Less) (map path_of fs)) same above))
path_case p f fs q false true at counts above ih = ih ∙ ap (λ b. b || list_any (bytes_eq q) (map path_of (filter p fs))) (sym (nat_list_eq_equiv.symm q f.path ∙ at))
path_case p f fs q false false at counts above ih = ih

-- the file of a path counts exactly where the path is one of those of the files that count
pub counts_at : (p : AddFile → Bool) (fs : List AddFile) (q : List ℕ) → PathsRise fs → option_map_or p (file_at fs q) false ≡ list_any (bytes_eq q) (map path_of (filter p fs))
unfolding IsStrictlySortedBy
counts_at p [] q rise = refl
counts_at p (f ∷ fs) q rise = path_case p f fs q (bytes_eq f.path q) (p f) refl refl rise.0 (counts_at p fs q rise.1)

same_counts : (p r : AddFile → Bool) (o : Option AddFile) → ((f : AddFile) → p f ≡ r f) → option_map_or p o false ≡ option_map_or r o false
same_counts p r None same = refl
same_counts p r (Some f) same = same f

filter_nothing : (p : AddFile → Bool) (fs : List AddFile) → ((f : AddFile) → p f ≡ false) → filter p fs ≡ []
filter_nothing p [] none = refl
filter_nothing p (f ∷ fs) none = rw (none f) (filter_nothing p fs none)

-- ---- a reading

no_file : (reads : Reads) (state : Option State) → would_be_read reads state None ≡ false
no_file reads None = refl
no_file reads (Some s) = refl

-- what would be read, as the code tells it
pub reads_file : (reads : Reads) (state : Option State) (r : Reading) (o : Option AddFile) → IsReading reads state r → has_file_of r o ≡ would_be_read reads state o
reads_file reads state reading.Nothing None is = sym (no_file reads state)
reads_file reads state reading.Nothing (Some f) is = sym (is f)
reads_file reads state (reading.Of held chosen) None is = sym (no_file reads state)
reads_file reads state (reading.Of held chosen) (Some f) is = is.1 f

nothing_read : (reads : Reads) (state : Option State) → ((f : AddFile) → would_be_read reads state (Some f) ≡ false) → paths_read reads state ≡ []
nothing_read reads None none = refl
nothing_read reads (Some s) none = ap (map path_of) (filter_nothing (is_read reads s.meta) s.files none)

-- whether a path was read, as the code tells it
pub reads_path : (reads : Reads) (state : Option State) (r : Reading) (o : Option (List ℕ)) → IsReading reads state r → ((s : State) → state ≡ Some s → PathsRise s.files) → has_path_of r o ≡ is_one_of (paths_read reads state) o
reads_path reads state r None is rise = refl
reads_path reads state reading.Nothing (Some q) is rise = ap (list_any (bytes_eq q)) (sym (nothing_read reads state is))
reads_path reads state (reading.Of held chosen) (Some q) is rise =
    let same : (f : AddFile) → passes chosen f ≡ is_read reads held.now.meta f = λ f. is.1 f ∙ ap (λ s. would_be_read reads s (Some f)) is.0 in
    same_counts (passes chosen) (is_read reads held.now.meta) (file_at held.now.files q) same
    ∙ counts_at (is_read reads held.now.meta) held.now.files q (rise held.now is.0)
    ∙ ap (λ s. list_any (bytes_eq q) (paths_read reads s)) (sym is.0)
