-- Lists of entries in the order of their keys: what halving finds, and what a put and a take leave.
use Rattle.std.proofs.Common.{◌≡◌, ℕ, zero, suc, ◌+◌, ◌<◌, ◌≤◌, List, [], ◌∷◌, Bool, true, false, cond, ◌&&◌, T, Option, Some, None, Result, Ok, Err, length, get_or, refl, sym, ap, ◌∙◌, subst, Less, Equal, Greater, Ordering, arith, true≢false}
use Rattle.std.specs.Prelude.{is_some}
use Rattle.std.specs.List.Sorted.{IsSearchInRange, IsBinarySearchResult, IsSortedBy}
use Rattle.std.specs.Ordering.{is_lt, is_eq, ordering_reverse, eq_by_cmp}
use Rattle.std.specs.Cmp.{IsTotalOrder, alike_right}
use Rattle.std.specs.FinMap.Entries.{by_order, put, find, below_all, is_sorted, is_sorted-put, length-put}
use Rattle.std.proofs.lemmas.List.Sorted.{searchable_from_sorted}
use Rattle.share_catalog.specs.declared.sorted.Entry.{Entry}
use Rattle.share_catalog.specs.Entries.{entries}
use Rattle.share_catalog.specs.Sorted.{further, place_of, take_out, value_in, put_at, taken_at}

pub both : (a b : Bool) → T (a && b) → T a × T b
both true b h = (tt, h)
both false b h = absurd h

pub less : (o : Ordering) → T (is_lt o) → o ≡ Less
less Less h = refl
less Equal h = absurd h
less Greater h = absurd h

pub held : (b : Bool) → b ≡ true → T b
held b e = subst T (sym e) tt

pub shown : (b : Bool) → T b → b ≡ true
shown true h = refl
shown false h = absurd h

equal : (o : Ordering) → T (is_eq o) → o ≡ Equal
equal Less h = absurd h
equal Equal h = refl
equal Greater h = absurd h

pub in_both : (a b : Bool) → T a → T b → T (a && b)
in_both true b p q = q
in_both false b p q = p

pub lt_of : (o : Ordering) → o ≡ Less → T (is_lt o)
lt_of o e = subst (λ r. T (is_lt r)) (sym e) tt

module _ {X : Type 0} (R : X → X → Ordering) (o : IsTotalOrder R) where
  greater_of : (x k : X) → R x k ≡ Less → R k x ≡ Greater
  greater_of x k e = o.antisymm k x ∙ ap ordering_reverse e

  less_of : (x k : X) → R x k ≡ Greater → R k x ≡ Less
  less_of x k e = o.antisymm k x ∙ ap ordering_reverse e

  equal_of : (x k : X) → R x k ≡ Equal → R k x ≡ Equal
  equal_of x k e = o.antisymm k x ∙ ap ordering_reverse e

  -- what is below a key that ties with k is below k
  below_tie : (x y k : X) → R x y ≡ Less → R y k ≡ Equal → R k x ≡ Greater
  below_tie x y k lt tie = o.congr k y x (equal_of y k tie) ∙ greater_of x y lt

  tie : (x y : X) → eq_by_cmp R x y ≡ true → R x y ≡ Equal
  tie x y e = equal _ (held _ e)

  pub none_below : {V : Type 0} (k x : X) (es : List (X × V)) → R k x ≡ Less → T (below_all R x es) → find R k es ≡ None
  none_below k x [] lt h = refl
  none_below k x (e ∷ es) lt h =
      ap (λ r. cond (is_eq r) (Some e.1) (find R k es)) (o.trans k x e.0 lt (less _ (both _ _ h).0)) ∙ none_below k x es lt (both _ _ h).1

  pub none_after : {V : Type 0} (k x : X) (es : List (X × V)) → R k x ≡ Equal → T (below_all R x es) → find R k es ≡ None
  none_after k x [] tie h = refl
  none_after k x (e ∷ es) tie h =
      ap (λ r. cond (is_eq r) (Some e.1) (find R k es)) (o.congr k x e.0 tie ∙ less _ (both _ _ h).0) ∙ none_after k x es tie (both _ _ h).1

module _ {K V X : Type 0} (R : X → X → Ordering) (seen : K → X) where
  -- where the entries before a place are below the key, and the one there is the key's
  place_found : (k : X) (xs : List (Entry K V)) (i : ℕ) → i < length xs
      → ((j : ℕ) (d : Entry K V) → j < i → R k (seen (get_or xs j d).key) ≡ Greater)
      → ((d : Entry K V) → R k (seen (get_or xs i d).key) ≡ Equal)
      → Ok i ≡ place_of R k (entries seen xs)
  place_found k [] i low before here = absurd (omega (arith, low))
  place_found k (x ∷ xs) zero low before here = ap (λ o. by_order o (Err 0) (Ok 0) (further (place_of R k (entries seen xs)))) (sym (here x))
  place_found k (x ∷ xs) (suc i) low before here =
      ap further (place_found k xs i (omega (arith, low)) (λ j d lt. before (suc j) d (omega (arith, lt))) (λ d. here d))
      ∙ ap (λ o. by_order o (Err 0) (Ok 0) (further (place_of R k (entries seen xs)))) (sym (before 0 x (omega arith)))

  -- where the entries before a place are below the key, and the one there is above it
  place_missed : (k : X) (xs : List (Entry K V)) (i : ℕ) → i ≤ length xs
      → ((j : ℕ) (d : Entry K V) → j < i → R k (seen (get_or xs j d).key) ≡ Greater)
      → ((d : Entry K V) → i < length xs → R k (seen (get_or xs i d).key) ≡ Less)
      → Err i ≡ place_of R k (entries seen xs)
  place_missed k [] zero low before here = refl
  place_missed k [] (suc i) low before here = absurd (omega (arith, low))
  place_missed k (x ∷ xs) zero low before here = ap (λ o. by_order o (Err 0) (Ok 0) (further (place_of R k (entries seen xs)))) (sym (here x (omega arith)))
  place_missed k (x ∷ xs) (suc i) low before here =
      ap further (place_missed k xs i (omega (arith, low)) (λ j d lt. before (suc j) d (omega (arith, lt))) (λ d lt. here d (omega (arith, lt))))
      ∙ ap (λ o. by_order o (Err 0) (Ok 0) (further (place_of R k (entries seen xs)))) (sym (before 0 x (omega arith)))

  below_at : (x : X) (xs : List (Entry K V)) (i : ℕ) (d : Entry K V) → T (below_all R x (entries seen xs)) → i < length xs → R x (seen (get_or xs i d).key) ≡ Less
  below_at x [] i d h low = absurd (omega (arith, low))
  below_at x (y ∷ ys) zero d h low = less _ (both _ _ h).0
  below_at x (y ∷ ys) (suc i) d h low = below_at x ys i d (both _ _ h).1 (omega (arith, low))

  -- an earlier key is below a later one
  pub earlier : (xs : List (Entry K V)) (j i : ℕ) (d : Entry K V) → T (is_sorted R (entries seen xs)) → j < i → i < length xs → R (seen (get_or xs j d).key) (seen (get_or xs i d).key) ≡ Less
  earlier [] j i d h lt low = absurd (omega (arith, low))
  earlier (x ∷ xs) j zero d h lt low = absurd (omega (arith, lt))
  earlier (x ∷ xs) zero (suc i) d h lt low = below_at (seen x.key) xs i d (both _ _ h).0 (omega (arith, low))
  earlier (x ∷ xs) (suc j) (suc i) d h lt low = earlier xs j i d (both _ _ h).1 (omega (arith, lt)) (omega (arith, low))

  module _ (o : IsTotalOrder R) where
    adjacent : (xs : List (Entry K V)) → T (is_sorted R (entries seen xs)) → IsSortedBy (λ a b. is_lt (R (seen a.key) (seen b.key))) xs
    adjacent xs sorted = λ k d low high. ap is_lt (greater_of R o _ _ (earlier xs k (k + 1) d sorted (omega arith) high))

    finds : (xs : List (Entry K V)) (k : X) (r : Result ℕ ℕ) → T (is_sorted R (entries seen xs)) → IsSearchInRange r (length xs)
        → IsBinarySearchResult (λ x. R (seen x.key) k) xs r → r ≡ place_of R k (entries seen xs)
    finds xs k (Ok i) sorted within holds =
        place_found k xs i within (λ j d lt. below_tie R o _ _ k (earlier xs j i d sorted lt within) (holds d)) (λ d. equal_of R o _ k (holds d))
    finds xs k (Err i) sorted within parts =
        let parted = parts (searchable_from_sorted o (λ x. seen x.key) xs k (adjacent xs sorted)) in
        place_missed k xs i within (λ j d lt. greater_of R o _ k (parted.0 j d (omega arith) lt)) (λ d lt. less_of R o _ k (parted.1 i d (omega arith) lt))

    -- halving finds the place
    pub searched : (xs : List (Entry K V)) (k : X) (r : Result ℕ ℕ) → is_sorted R (entries seen xs) ≡ true → IsSearchInRange r (length xs)
        → IsBinarySearchResult (λ x. R (seen x.key) k) xs r → r ≡ place_of R k (entries seen xs)
    searched xs k r sorted within is = finds xs k r (held _ sorted) within is

    moved_value : (p : Result ℕ ℕ) (x : Entry K V) (xs : List (Entry K V)) → value_in (further p) (x ∷ xs) ≡ value_in p xs
    moved_value (Ok i) x xs = refl
    moved_value (Err i) x xs = refl

    value_case : (r : Ordering) (k : X) (x : Entry K V) (xs : List (Entry K V)) → R k (seen x.key) ≡ r → T (is_sorted R (entries seen (x ∷ xs)))
        → value_in (place_of R k (entries seen xs)) xs ≡ find R k (entries seen xs)
        → value_in (by_order r (Err 0) (Ok 0) (further (place_of R k (entries seen xs)))) (x ∷ xs) ≡ cond (is_eq r) (Some x.value) (find R k (entries seen xs))
    value_case Less k x xs e sorted ih = sym (none_below R o k (seen x.key) (entries seen xs) e (both _ _ sorted).0)
    value_case Equal k x xs e sorted ih = refl
    value_case Greater k x xs e sorted ih = moved_value (place_of R k (entries seen xs)) x xs ∙ ih

    finds_value : (xs : List (Entry K V)) (k : X) → T (is_sorted R (entries seen xs)) → value_in (place_of R k (entries seen xs)) xs ≡ find R k (entries seen xs)
    finds_value [] k sorted = refl
    finds_value (x ∷ xs) k sorted = value_case (R k (seen x.key)) k x xs refl sorted (finds_value xs k (both _ _ sorted).1)

    -- what stands at a key's place is what the entries have at the key
    pub value_found : (xs : List (Entry K V)) (k : X) → is_sorted R (entries seen xs) ≡ true → value_in (place_of R k (entries seen xs)) xs ≡ find R k (entries seen xs)
    value_found xs k sorted = finds_value xs k (held _ sorted)

  moved_put : (p : Result ℕ ℕ) (k : K) (v : V) (x : Entry K V) (xs : List (Entry K V)) → put_at (further p) k v (x ∷ xs) ≡ x ∷ put_at p k v xs
  moved_put (Ok i) k v x xs = refl
  moved_put (Err i) k v x xs = refl

  put_case : (r : Ordering) (k : K) (v : V) (x : Entry K V) (xs : List (Entry K V)) → entries seen (put_at (place_of R (seen k) (entries seen xs)) k v xs) ≡ put R (seen k) v (entries seen xs)
      → entries seen (put_at (by_order r (Err 0) (Ok 0) (further (place_of R (seen k) (entries seen xs)))) k v (x ∷ xs))
      ≡ by_order r ((seen k, v) ∷ entries seen (x ∷ xs)) ((seen x.key, v) ∷ entries seen xs) ((seen x.key, x.value) ∷ put R (seen k) v (entries seen xs))
  put_case Less k v x xs ih = refl
  put_case Equal k v x xs ih = refl
  put_case Greater k v x xs ih = ap (entries seen) (moved_put (place_of R (seen k) (entries seen xs)) k v x xs) ∙ ap (λ r. (seen x.key, x.value) ∷ r) ih

  -- what is put at a key's place is put at the key
  pub put_there : (xs : List (Entry K V)) (k : K) (v : V) → entries seen (put_at (place_of R (seen k) (entries seen xs)) k v xs) ≡ put R (seen k) v (entries seen xs)
  put_there [] k v = refl
  put_there (x ∷ xs) k v = put_case (R (seen k) (seen x.key)) k v x xs (put_there xs k v)

  moved_take : (p : Result ℕ ℕ) (x : Entry K V) (xs : List (Entry K V)) → taken_at (further p) (x ∷ xs) ≡ x ∷ taken_at p xs
  moved_take (Ok i) x xs = refl
  moved_take (Err i) x xs = refl

  take_case : (r : Ordering) (k : X) (x : Entry K V) (xs : List (Entry K V)) → entries seen (taken_at (place_of R k (entries seen xs)) xs) ≡ take_out R k (entries seen xs)
      → entries seen (taken_at (by_order r (Err 0) (Ok 0) (further (place_of R k (entries seen xs)))) (x ∷ xs))
      ≡ by_order r (entries seen (x ∷ xs)) (entries seen xs) ((seen x.key, x.value) ∷ take_out R k (entries seen xs))
  take_case Less k x xs ih = refl
  take_case Equal k x xs ih = refl
  take_case Greater k x xs ih = ap (entries seen) (moved_take (place_of R k (entries seen xs)) x xs) ∙ ap (λ r. (seen x.key, x.value) ∷ r) ih

  -- what is taken from a key's place is taken out at the key
  pub taken_there : (xs : List (Entry K V)) (k : X) → entries seen (taken_at (place_of R k (entries seen xs)) xs) ≡ take_out R k (entries seen xs)
  taken_there [] k = refl
  taken_there (x ∷ xs) k = take_case (R k (seen x.key)) k x xs (taken_there xs k)

module _ {X V : Type 0} (R : X → X → Ordering) (o : IsTotalOrder R) where
  below_taken : (x k : X) (es : List (X × V)) → T (below_all R x es) → T (below_all R x (take_out R k es))
  below_taken x k [] h = h
  below_taken x k (e ∷ es) h = elim (R k e.0) as (λ r. T (below_all R x (by_order r (e ∷ es) es (e ∷ take_out R k es)))) [
    | Less ↦ h
    | Equal ↦ (both _ _ h).1
    | Greater ↦ in_both _ _ (both _ _ h).0 (below_taken x k es (both _ _ h).1)
  ]

  sorted_take_out : (k : X) (es : List (X × V)) → T (is_sorted R es) → T (is_sorted R (take_out R k es))
  sorted_take_out k [] h = h
  sorted_take_out k (e ∷ es) h = elim (R k e.0) as (λ r. T (is_sorted R (by_order r (e ∷ es) es (e ∷ take_out R k es)))) [
    | Less ↦ h
    | Equal ↦ (both _ _ h).1
    | Greater ↦ in_both _ _ (below_taken e.0 k es (both _ _ h).0) (sorted_take_out k es (both _ _ h).1)
  ]

  pub is_sorted-take_out : (k : X) (es : List (X × V)) → is_sorted R es ≡ true → is_sorted R (take_out R k es) ≡ true
  is_sorted-take_out k es h = shown _ (sorted_take_out k es (held _ h))

  gone : (b : Bool) (r : Option V) → (b ≡ true → r ≡ None) → r ≡ cond b None r
  gone true r f = f refl
  gone false r f = refl

  gone_here : (b : Bool) (v : V) (r : Option V) → (b ≡ true → r ≡ None) → r ≡ cond b None (cond b (Some v) r)
  gone_here true v r f = f refl
  gone_here false v r f = refl

  gone_later : (b c : Bool) (v : V) (r : Option V) → (b ≡ true → c ≡ true → ⊥) → cond c (Some v) (cond b None r) ≡ cond b None (cond c (Some v) r)
  gone_later true true v r f = absurd (f refl refl)
  gone_later true false v r f = refl
  gone_later false c v r f = refl

  take_step : (q k : X) (e : X × V) (es : List (X × V)) (r : Ordering) → R k e.0 ≡ r → T (is_sorted R (e ∷ es)) → find R q (take_out R k es) ≡ cond (eq_by_cmp R q k) None (find R q es)
      → find R q (by_order r (e ∷ es) es (e ∷ take_out R k es)) ≡ cond (eq_by_cmp R q k) None (cond (eq_by_cmp R q e.0) (Some e.1) (find R q es))
  take_step q k e es Less is h ih =
      gone (eq_by_cmp R q k) _ (λ t. let lt : R q e.0 ≡ Less = o.congr q k e.0 (tie R o q k t) ∙ is in ap (λ r. cond (is_eq r) (Some e.1) (find R q es)) lt ∙ none_below R o q e.0 es lt (both _ _ h).0)
  take_step q k e es Equal is h ih =
      gone_here (eq_by_cmp R q k) e.1 (find R q es) (λ t. none_after R o q e.0 es (o.congr q k e.0 (tie R o q k t) ∙ is) (both _ _ h).0)
      ∙ ap (λ r. cond (eq_by_cmp R q k) None (cond (is_eq r) (Some e.1) (find R q es))) (alike_right o k e.0 q is)
  take_step q k e es Greater is h ih =
      ap (cond (eq_by_cmp R q e.0) (Some e.1)) ih
      ∙ gone_later (eq_by_cmp R q k) (eq_by_cmp R q e.0) e.1 (find R q es) (λ t u. true≢false (sym u ∙ ap is_eq (o.congr q k e.0 (tie R o q k t) ∙ is)))

  finds_left : (q k : X) (es : List (X × V)) → T (is_sorted R es) → find R q (take_out R k es) ≡ cond (eq_by_cmp R q k) None (find R q es)
  finds_left q k [] h = gone (eq_by_cmp R q k) None (λ _. refl)
  finds_left q k (e ∷ es) h = take_step q k e es (R k e.0) refl h (finds_left q k es (both _ _ h).1)

  -- the entries with one taken out have nothing at its key, and else what they had
  pub find-take_out : (q k : X) (es : List (X × V)) → is_sorted R es ≡ true → find R q (take_out R k es) ≡ cond (eq_by_cmp R q k) None (find R q es)
  find-take_out q k es h = finds_left q k es (held _ h)

  pub sorted-put : (k : X) (v : V) (es : List (X × V)) → is_sorted R es ≡ true → is_sorted R (put R k v es) ≡ true
  sorted-put k v es h = shown _ (is_sorted-put R o k v es (held _ h))

  pub put_length : (k : X) (v : V) (es : List (X × V)) → is_sorted R es ≡ true → length (put R k v es) ≡ cond (is_some (find R k es)) (length es) (length es + 1)
  put_length k v es h = length-put R o k v es (held _ h)
