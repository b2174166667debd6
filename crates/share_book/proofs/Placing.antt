-- Lists of the files that restrictions show.
use Rattle.std.proofs.Common.{◌≡◌, ℕ, zero, suc, ◌+◌, ◌<◌, List, [], ◌∷◌, ◌++◌, take, length, get_or, map, Option, Some, None, Bool, true, false, refl, sym, ap, ◌∙◌, subst, arith}
use Rattle.std.specs.Prelude.{All, Contains, IfSome, filter, filter_map, slice_get, unwrap_or}
use Rattle.std.proofs.lemmas.List.{append-nil, get_or-map, map-append, length-map}
use Rattle.std.proofs.lemmas.List.Elements.{All-contains, All-nil, All-push, Contains-get_or, filter-append}
use Rattle.std.proofs.lemmas.Option.{slice_get_within}
use Rattle.log_actions.specs.declared.actions.AddFile.{AddFile}
use Rattle.log_replay.specs.State.{State}
use Rattle.share_book.specs.Placed.{AreAt, IsListOf, PlacesView}

-- one element more
take_more : {X : Type 0} (xs : List X) (n : ℕ) (x : X) → slice_get xs n ≡ Some x → take (suc n) xs ≡ take n xs ++ (x ∷ [])
take_more [] n x is = absurd cc
take_more (y ∷ ys) zero x is = let same : y ≡ x = cc in rw same refl
take_more (y ∷ ys) (suc n) x is = ap (λ zs. y ∷ zs) (take_more ys n x is)

filter_more : {X : Type 0} (test : X → Bool) (xs : List X) (n : ℕ) (x : X) → slice_get xs n ≡ Some x → filter test (take (suc n) xs) ≡ filter test (take n xs) ++ filter test (x ∷ [])
filter_more test xs n x is = ap (filter test) (take_more xs n x is) ∙ filter-append test (take n xs) (x ∷ [])

-- the file at a place is shown, and the place is listed
pub lists_shown : (test : AddFile → Bool) (files : List AddFile) (places : List ℕ) (at : ℕ) (x : AddFile) → AreAt files places (filter test (take at files)) → slice_get files at ≡ Some x → test x ≡ true
    → AreAt files (places ++ (at ∷ [])) (filter test (take (at + 1) files))
lists_shown test files places at x before is shown =
    let e : at + 1 ≡ suc at = omega arith in
    let one : filter test (x ∷ []) ≡ x ∷ [] = rw shown refl in
    let more : filter test (take (at + 1) files) ≡ filter test (take at files) ++ (x ∷ []) = ap (λ n. filter test (take n files)) e ∙ filter_more test files at x is ∙ ap (λ ys. filter test (take at files) ++ ys) one in
    map-append (slice_get files) places (at ∷ [])
    ∙ ap (λ ys. ys ++ (slice_get files at ∷ [])) before
    ∙ ap (λ y. map Some (filter test (take at files)) ++ (y ∷ [])) is
    ∙ sym (map-append Some (filter test (take at files)) (x ∷ []))
    ∙ ap (map Some) (sym more)

-- it isn't shown, and isn't listed
pub passes_hidden : (test : AddFile → Bool) (files : List AddFile) (places : List ℕ) (at : ℕ) (x : AddFile) → AreAt files places (filter test (take at files)) → slice_get files at ≡ Some x → test x ≡ false
    → AreAt files places (filter test (take (at + 1) files))
passes_hidden test files places at x before is hidden =
    let e : at + 1 ≡ suc at = omega arith in
    let none : filter test (x ∷ []) ≡ [] = rw hidden refl in
    before ∙ ap (map Some) (sym (ap (λ n. filter test (take n files)) e ∙ filter_more test files at x is ∙ ap (λ ys. filter test (take at files) ++ ys) none ∙ append-nil (filter test (take at files))))

-- the files at places are those that stand there
pub found_at : (files : List AddFile) (places : List ℕ) (found : List AddFile) → AreAt files places found → filter_map (slice_get files) places ≡ found
found_at files [] [] are = refl
found_at files [] (x ∷ xs) are = absurd cc
found_at files (p ∷ ps) [] are = absurd cc
found_at files (p ∷ ps) (x ∷ xs) are =
    let here : slice_get files p ≡ Some x = cc in
    let rest : AreAt files ps xs = cc in
    rw here (ap (λ ys. x ∷ ys) (found_at files ps xs rest))

-- and the one at the n-th place is the n-th of them
pub stands_at : (files : List AddFile) (places : List ℕ) (found : List AddFile) (n p : ℕ) → AreAt files places found → slice_get places n ≡ Some p → slice_get files p ≡ slice_get found n
stands_at files [] found n p are place = absurd cc
stands_at files (q ∷ qs) [] n p are place = absurd cc
stands_at files (q ∷ qs) (y ∷ ys) zero p are place =
    let here : slice_get files q ≡ Some y = cc in
    let same : q ≡ p = cc in
    ap (slice_get files) (sym same) ∙ here
stands_at files (q ∷ qs) (y ∷ ys) (suc n) p are place =
    let rest : AreAt files qs ys = cc in
    stands_at files qs ys n p rest place

-- so it is a place of one
pub is_place : (files : List AddFile) (places : List ℕ) (found : List AddFile) (n p : ℕ) → AreAt files places found → slice_get places n ≡ Some p → p < length files
is_place files [] found n p are place = absurd cc
is_place files (q ∷ qs) [] n p are place = absurd cc
is_place files (q ∷ qs) (y ∷ ys) zero p are place =
    let here : slice_get files q ≡ Some y = cc in
    let same : q ≡ p = cc in
    slice_get_within files p y (ap (slice_get files) (sym same) ∙ here)
is_place files (q ∷ qs) (y ∷ ys) (suc n) p are place =
    let rest : AreAt files qs ys = cc in
    is_place files qs ys n p rest place

-- there are as many
pub as_many : (files : List AddFile) (places : List ℕ) (found : List AddFile) → AreAt files places found → length places ≡ length found
as_many files places found are = sym (length-map places (slice_get files)) ∙ ap length are ∙ length-map found Some

-- ---- the lists of a state

pub found_among : {X Y : Type 0} (f : X → Y) (xs : List X) (i : ℕ) (x : X) → i < length xs → x ≡ get_or xs i x → Contains (map f xs) (f x)
found_among f xs i x within is =
    let long : length (map f xs) ≡ length xs = length-map xs f in
    let here : get_or (map f xs) i (f x) ≡ f x = get_or-map f xs i x (f x) within ∙ ap f (sym is) in
    subst (Contains (map f xs)) here (Contains-get_or (map f xs) i (f x) (omega (arith, long, within)))

-- those that there were are of the state
pub older_are : (s : State) (older : Option (List PlacesView)) → IfSome older (All (IsListOf s)) → All (IsListOf s) (unwrap_or older [])
older_are s None are = All-nil (IsListOf s)
older_are s (Some lists) are = are

-- and so is each of them that is kept
pub kept_too : {X : Type 0} (f : X → PlacesView) (s : State) (kept older : List X) (i : ℕ) (x y : X) → i < length older → x ≡ get_or older i x → f y ≡ f x → All (IsListOf s) (map f older) → All (IsListOf s) (map f kept)
    → All (IsListOf s) (map f (kept ++ (y ∷ [])))
kept_too f s kept older i x y within is same old all =
    let one = All-contains (IsListOf s) (map f older) (f x) old (found_among f older i x within is) in
    subst (All (IsListOf s)) (sym (map-append f kept (y ∷ []))) (All-push (IsListOf s) (map f kept) (f y) all (subst (IsListOf s) (sym same) one))
