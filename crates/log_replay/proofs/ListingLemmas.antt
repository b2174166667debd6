-- Files in order, before and after a path.
use Rattle.std.proofs.Common.{◌≡◌, ℕ, ◌+◌, ◌-◌, List, [], ◌∷◌, ◌++◌, true, false, cond, Option, Some, None, map, refl, sym, ap, ◌∙◌, subst, bytes_eq, Less, Equal, true≢false, Ordering}
use Rattle.std.specs.Prelude.{filter, option_to_list, IfSome}
use Rattle.std.specs.List.{AllByRecursion, last_or}
use Rattle.std.specs.List.Sorted.{IsStrictlySortedBy}
use Rattle.std.specs.Ordering.{nat_cmp, is_eq}
use Rattle.std.specs.Cmp.Lexicographic.{slice_cmp}
use Rattle.std.specs.Cmp.{tied_itself}
use Rattle.std.proofs.lemmas.Cmp.{nat_list_cmp_total}
use Rattle.std.proofs.lemmas.Slice.Eq.{bytes_eq-Decides}
use Rattle.std.proofs.lemmas.List.Elements.{filter-append}
use Rattle.std.proofs.lemmas.List.{append-nil}
use Rattle.log_actions.specs.declared.actions.AddFile.{AddFile}
use Rattle.log_replay.specs.Snapshots.{PathsRise}
use Rattle.log_replay.specs.Listing.{Above, Below, SetsPath, at_path}

pub both : {X : Type 0} (P : X → Type 0) (xs ys : List X) → AllByRecursion P xs → AllByRecursion P ys → AllByRecursion P (xs ++ ys)
both P [] ys h k = k
both P (x ∷ xs) ys h k = (h.0, both P xs ys h.1 k)

pub fronts : {X : Type 0} (P : X → Type 0) (xs ys : List X) → AllByRecursion P (xs ++ ys) → AllByRecursion P xs
fronts P [] ys h = tt
fronts P (x ∷ xs) ys h = (h.0, fronts P xs ys h.1)

pub backs : {X : Type 0} (P : X → Type 0) (xs ys : List X) → AllByRecursion P (xs ++ ys) → AllByRecursion P ys
backs P [] ys h = h
backs P (x ∷ xs) ys h = backs P xs ys h.1

pub weaker : {X : Type 0} (P Q : X → Type 0) (xs : List X) → ((x : X) → P x → Q x) → AllByRecursion P xs → AllByRecursion Q xs
weaker P Q [] by h = tt
weaker P Q (x ∷ xs) by h = (by x h.0, weaker P Q xs by h.1)

of_paths : (x : List ℕ) (fs : List AddFile) → AllByRecursion (λ y. slice_cmp nat_cmp x y ≡ Less) (map (λ f. f.path) fs) → Above x fs
of_paths x [] h = tt
of_paths x (f ∷ fs) h = (h.0, of_paths x fs h.1)

paths_of : (x : List ℕ) (fs : List AddFile) → Above x fs → AllByRecursion (λ y. slice_cmp nat_cmp x y ≡ Less) (map (λ f. f.path) fs)
paths_of x [] h = tt
paths_of x (f ∷ fs) h = (h.0, paths_of x fs h.1)

pub rise_head : (f : AddFile) (fs : List AddFile) → PathsRise (f ∷ fs) → Above f.path fs
unfolding IsStrictlySortedBy
rise_head f fs h = of_paths f.path fs h.0

pub rise_tail : (f : AddFile) (fs : List AddFile) → PathsRise (f ∷ fs) → PathsRise fs
unfolding IsStrictlySortedBy
rise_tail f fs h = h.1

pub rise_none : PathsRise []
unfolding IsStrictlySortedBy
rise_none = tt

pub rise_cons : (f : AddFile) (fs : List AddFile) → Above f.path fs → PathsRise fs → PathsRise (f ∷ fs)
unfolding IsStrictlySortedBy
rise_cons f fs above h = (paths_of f.path fs above, h)

pub rise_front : (xs ys : List AddFile) → PathsRise (xs ++ ys) → PathsRise xs
rise_front [] ys h = rise_none
rise_front (x ∷ xs) ys h = rise_cons x xs (fronts _ xs ys (rise_head x (xs ++ ys) h)) (rise_front xs ys (rise_tail x (xs ++ ys) h))

pub rise_back : (xs ys : List AddFile) → PathsRise (xs ++ ys) → PathsRise ys
rise_back [] ys h = h
rise_back (x ∷ xs) ys h = rise_back xs ys (rise_tail x (xs ++ ys) h)

trans : (x y z : List ℕ) → slice_cmp nat_cmp x y ≡ Less → slice_cmp nat_cmp y z ≡ Less → slice_cmp nat_cmp x z ≡ Less
trans x y z a b = nat_list_cmp_total.trans x y z a b

pub above_less : (x y : List ℕ) (fs : List AddFile) → slice_cmp nat_cmp x y ≡ Less → Above y fs → Above x fs
above_less x y fs a h = weaker _ _ fs (λ f k. trans x y f.path a k) h

pub below_less : (x y : List ℕ) (fs : List AddFile) → slice_cmp nat_cmp x y ≡ Less → Below x fs → Below y fs
below_less x y fs a h = weaker _ _ fs (λ f k. trans f.path x y k a) h

pub front_below : (xs : List AddFile) (g : AddFile) (ys : List AddFile) → PathsRise (xs ++ g ∷ ys) → Below g.path xs
front_below [] g ys h = tt
front_below (x ∷ xs) g ys h = ((backs _ xs (g ∷ ys) (rise_head x (xs ++ g ∷ ys) h)).0, front_below xs g ys (rise_tail x (xs ++ g ∷ ys) h))

pub rise_join : (path : List ℕ) (xs ys : List AddFile) → PathsRise xs → PathsRise ys → Below path xs → Above path ys → PathsRise (xs ++ ys)
rise_join path [] ys h k below above = k
rise_join path (x ∷ xs) ys h k below above =
    rise_cons x (xs ++ ys) (both _ xs ys (rise_head x xs h) (above_less x.path path ys below.0 above)) (rise_join path xs ys (rise_tail x xs h) k below.1 above)

pub rise_put : (f : AddFile) (xs ys : List AddFile) → PathsRise xs → PathsRise ys → Below f.path xs → Above f.path ys → PathsRise (xs ++ f ∷ ys)
rise_put f [] ys h k below above = rise_cons f ys above k
rise_put f (x ∷ xs) ys h k below above =
    rise_cons x (xs ++ f ∷ ys) (both _ xs (f ∷ ys) (rise_head x xs h) (below.0, above_less x.path f.path ys below.0 above)) (rise_put f xs ys (rise_tail x xs h) k below.1 above)

-- the files around a path still rise with another file there, or none
pub rise_set : (path : List ℕ) (file : Option AddFile) (xs ys : List AddFile) → IfSome file (λ f. f.path ≡ path) → PathsRise xs → PathsRise ys → Below path xs → Above path ys → PathsRise (xs ++ (option_to_list file ++ ys))
rise_set path None xs ys is h k below above = rise_join path xs ys h k below above
rise_set path (Some f) xs ys is h k below above = rise_put f xs ys h k (subst (λ p. Below p xs) (sym is) below) (subst (λ p. Above p ys) (sym is) above)

not_less : (o : Ordering) → o ≡ Equal → o ≡ Less → ⊥
not_less o e l = true≢false (sym (ap is_eq e) ∙ ap is_eq l)

apart : (x y : List ℕ) → slice_cmp nat_cmp x y ≡ Less → bytes_eq x y ≡ false
apart x y is =
    elim (bytes_eq x y) as (λ b. bytes_eq x y ≡ b → b ≡ false) [
      | true ↦ λ e. absurd (not_less _ (subst (λ z. slice_cmp nat_cmp x z ≡ Equal) ((bytes_eq-Decides x y).0 e) (tied_itself nat_list_cmp_total x)) is)
      | false ↦ λ e. refl
    ] refl

apart_back : (x y : List ℕ) → slice_cmp nat_cmp x y ≡ Less → bytes_eq y x ≡ false
apart_back x y is =
    elim (bytes_eq y x) as (λ b. bytes_eq y x ≡ b → b ≡ false) [
      | true ↦ λ e. absurd (not_less _ (subst (λ z. slice_cmp nat_cmp x z ≡ Equal) (sym ((bytes_eq-Decides y x).0 e)) (tied_itself nat_list_cmp_total x)) is)
      | false ↦ λ e. refl
    ] refl

pub same : (x y : List ℕ) → x ≡ y → bytes_eq x y ≡ true
same x y e = (bytes_eq-Decides x y).1 e

none_there : (q : List ℕ) (fs : List AddFile) → AllByRecursion (λ f. bytes_eq f.path q ≡ false) fs → filter (λ f. bytes_eq f.path q) fs ≡ []
none_there q [] h = refl
none_there q (f ∷ fs) h = rw h.0 (none_there q fs h.1)

-- files below a path, or above it, have others
pub others_below : (q : List ℕ) (fs : List AddFile) → Below q fs → AllByRecursion (λ f. bytes_eq f.path q ≡ false) fs
others_below q fs h = weaker _ _ fs (λ f k. apart f.path q k) h

pub others_above : (q : List ℕ) (fs : List AddFile) → Above q fs → AllByRecursion (λ f. bytes_eq f.path q ≡ false) fs
others_above q fs h = weaker _ _ fs (λ f k. apart_back q f.path k) h

three : (q : List ℕ) (xs ms ys : List AddFile) → filter (λ f. bytes_eq f.path q) (xs ++ (ms ++ ys)) ≡ filter (λ f. bytes_eq f.path q) xs ++ (filter (λ f. bytes_eq f.path q) ms ++ filter (λ f. bytes_eq f.path q) ys)
three q xs ms ys = filter-append (λ f. bytes_eq f.path q) xs (ms ++ ys) ∙ ap (λ r. filter (λ f. bytes_eq f.path q) xs ++ r) (filter-append (λ f. bytes_eq f.path q) ms ys)

own : (path q : List ℕ) (file : Option AddFile) → IfSome file (λ f. f.path ≡ path) → path ≡ q → filter (λ f. bytes_eq f.path q) (option_to_list file) ≡ option_to_list file
own path q None is e = refl
own path q (Some f) is e = rw (same f.path q (is ∙ e)) refl

not_own : (path q : List ℕ) (file : Option AddFile) → IfSome file (λ f. f.path ≡ path) → bytes_eq path q ≡ false → filter (λ f. bytes_eq f.path q) (option_to_list file) ≡ []
not_own path q None is e = refl
not_own path q (Some f) is e = rw (ap (λ p. bytes_eq p q) is ∙ e) refl

last_one : (file : Option AddFile) → last_or None (option_to_list file) ≡ file
last_one None = refl
last_one (Some f) = refl

-- where a path's files are replaced, each other path has what it had
set_here : (path q : List ℕ) (file : Option AddFile) (xs ys : List AddFile) → IfSome file (λ f. f.path ≡ path) → path ≡ q → Below path xs → Above path ys
    → at_path q (xs ++ (option_to_list file ++ ys)) ≡ file
set_here path q file xs ys is here below above =
    let a = none_there q xs (others_below q xs (subst (λ p. Below p xs) here below)) in
    let b = none_there q ys (others_above q ys (subst (λ p. Above p ys) here above)) in
    let c = own path q file is here in
    let whole : filter (λ f. bytes_eq f.path q) (xs ++ (option_to_list file ++ ys)) ≡ option_to_list file = three q xs (option_to_list file) ys ∙ ap (λ r. r ++ (filter (λ f. bytes_eq f.path q) (option_to_list file) ++ filter (λ f. bytes_eq f.path q) ys)) a
    ∙ ap (λ r. r ++ filter (λ f. bytes_eq f.path q) ys) c ∙ ap (λ r. option_to_list file ++ r) b ∙ append-nil (option_to_list file) in
    ap (last_or None) whole ∙ last_one file

set_elsewhere : (path q : List ℕ) (file : Option AddFile) (xs ms ys : List AddFile) → IfSome file (λ f. f.path ≡ path) → bytes_eq path q ≡ false → AllByRecursion (λ f. f.path ≡ path) ms
    → at_path q (xs ++ (option_to_list file ++ ys)) ≡ at_path q (xs ++ (ms ++ ys))
set_elsewhere path q file xs ms ys is e mid =
    let a = not_own path q file is e in
    let b = none_there q ms (weaker _ _ ms (λ f k. ap (λ p. bytes_eq p q) k ∙ e) mid) in
    ap (last_or None) (three q xs (option_to_list file) ys ∙ ap (λ r. filter (λ f. bytes_eq f.path q) xs ++ (r ++ filter (λ f. bytes_eq f.path q) ys)) (a ∙ sym b) ∙ sym (three q xs ms ys))

pub sets : (path : List ℕ) (file : Option AddFile) (xs ms ys : List AddFile) → IfSome file (λ f. f.path ≡ path) → Below path xs → AllByRecursion (λ f. f.path ≡ path) ms → Above path ys
    → SetsPath path file (xs ++ (ms ++ ys)) (xs ++ (option_to_list file ++ ys))
sets path file xs ms ys is below mid above q =
    elim (bytes_eq path q) as (λ b. bytes_eq path q ≡ b → at_path q (xs ++ (option_to_list file ++ ys)) ≡ cond b file (at_path q (xs ++ (ms ++ ys)))) [
      | true ↦ λ e. set_here path q file xs ys is ((bytes_eq-Decides path q).0 e) below above
      | false ↦ λ e. set_elsewhere path q file xs ms ys is e mid
    ] refl
