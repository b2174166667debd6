-- Paths that stand once.
use Rattle.std.proofs.Common.{◌≡◌, ℕ, ◌+◌, ◌<◌, ◌≤◌, List, [], ◌∷◌, ◌++◌, Option, Some, is_some, refl, sym, ap, ◌∙◌, subst, Bool, true, false, cond, arith, true≢false, bytes_eq, nat_le}
use Rattle.std.specs.Prelude.{◌||◌, ◌&&◌}
use Rattle.std.specs.Borrow.{Bor}
use Rattle.std.specs.BTreeMap.{BTreeMap, get_by}
use Rattle.std.specs.Ordering.{nat_cmp}
use Rattle.std.specs.Cmp.Lexicographic.{slice_cmp}
use Rattle.std.specs.List.{count_by, list_any, list_all}
use Rattle.std.proofs.lemmas.List.Folds.{list_all-append}
use Rattle.std.proofs.lemmas.List.Sums.{sum_by-append, sum_by-cons}
use Rattle.std.proofs.lemmas.Bool.{and_parts, and_from, and_left, and_right, or_parts, le-leb, lt-leb, leb-true}
use Rattle.std.proofs.lemmas.Cmp.{nat_list_eq_equiv}
use Rattle.log_actions.specs.Commits.{are_distinct}
use Rattle.log_commit.specs.Passes.{holds}

put_at : (b : Bool) (o : Option (Unit {0})) → is_some (cond b (Some tt) o) ≡ (b || is_some o)
put_at true o = refl
put_at false o = refl

pub puts : (path q : List ℕ) (m n : BTreeMap (Bor (List ℕ)) (Unit {0})) → get_by (λ k. slice_cmp nat_cmp q k.now) n ≡ cond (bytes_eq path q) (Some tt) (get_by (λ k. slice_cmp nat_cmp q k.now) m) → holds n q ≡ (bytes_eq path q || holds m q)
puts path q m n e = ap is_some e ∙ put_at (bytes_eq path q) (get_by (λ k. slice_cmp nat_cmp q k.now) m)

-- how much a test counts
abbrev pub weight : Bool → ℕ
weight b = cond b 1 0

pub count_more : {X : Type 0} (test : X → Bool) (x : X) (xs : List X) → count_by test (x ∷ xs) ≡ weight (test x) + count_by test xs
count_more test x xs = sum_by-cons (λ y. cond (test y) 1 0) x xs

-- what stands in a list is counted
pub counts : {X : Type 0} (test : X → Bool) (xs : List X) → list_any test xs ≡ true → 1 ≤ count_by test xs
counts test [] e = absurd (true≢false (sym e))
counts test (x ∷ xs) e = subst (λ n. 1 ≤ n) (sym (count_more test x xs)) (counts_case (test x) (count_by test xs) (list_any test xs) e (counts test xs))
  where
    counts_case : (b : Bool) (n : ℕ) (rest : Bool) → (b || rest) ≡ true → (rest ≡ true → 1 ≤ n) → 1 ≤ weight b + n
    counts_case true n rest e h = omega arith
    counts_case false n rest e h = omega (arith, h e)

pub counts-none : {X : Type 0} (test : X → Bool) (xs : List X) → list_any test xs ≡ false → count_by test xs ≡ 0
counts-none test [] e = refl
counts-none test (x ∷ xs) e = count_more test x xs ∙ none_case (test x) (count_by test xs) (list_any test xs) e (counts-none test xs)
  where
    none_case : (b : Bool) (n : ℕ) (rest : Bool) → (b || rest) ≡ false → (rest ≡ false → n ≡ 0) → weight b + n ≡ 0
    none_case true n rest e h = absurd (true≢false e)
    none_case false n rest e h = omega (arith, h e)

pub any-flip : (p : List ℕ) (xs : List (List ℕ)) → list_any (λ x. bytes_eq x p) xs ≡ list_any (bytes_eq p) xs
any-flip p [] = refl
any-flip p (x ∷ xs) = ap (λ b. b || list_any (λ y. bytes_eq y p) xs) (nat_list_eq_equiv.symm x p) ∙ ap (λ b. bytes_eq p x || b) (any-flip p xs)

at_end : (q p : List ℕ) (front rest : List (List ℕ)) → count_by (bytes_eq q) (front ++ p ∷ rest) ≡ count_by (bytes_eq q) front + (weight (bytes_eq q p) + count_by (bytes_eq q) rest)
at_end q p front rest = sum_by-append (λ x. cond (bytes_eq q x) 1 0) front (p ∷ rest) ∙ ap (λ n. count_by (bytes_eq q) front + n) (count_more (bytes_eq q) p rest)

-- a path that stands in front of itself
pub twice : (front rest : List (List ℕ)) (p : List ℕ) → list_any (λ x. bytes_eq x p) front ≡ true → are_distinct (front ++ p ∷ rest) ≡ false
twice front rest p e =
    let whole = front ++ p ∷ rest in
    let once : List ℕ → Bool = λ q. nat_le (count_by (bytes_eq q) whole) 1 in
    let before : 1 ≤ count_by (bytes_eq p) front = counts (bytes_eq p) front (sym (any-flip p front) ∙ e) in
    let here : weight (bytes_eq p p) ≡ 1 = ap weight (nat_list_eq_equiv.refl p) in
    let more : 1 < count_by (bytes_eq p) whole = omega (arith, at_end p p front rest, here) in
    list_all-append once front (p ∷ rest) ∙ and_right (list_all once front) (once p && list_all once rest) (and_left (once p) (list_all once rest) (lt-leb (count_by (bytes_eq p) whole) 1 more))

still : (front xs : List (List ℕ)) (p : List ℕ) → list_all (λ q. nat_le (count_by (bytes_eq q) front) 1) xs ≡ true → list_any (λ x. bytes_eq x p) xs ≡ false
    → list_all (λ q. nat_le (count_by (bytes_eq q) (front ++ p ∷ [])) 1) xs ≡ true
still front [] p all none = refl
still front (x ∷ xs) p all none =
    let here = and_parts (nat_le (count_by (bytes_eq x) front) 1) (list_all (λ q. nat_le (count_by (bytes_eq q) front) 1) xs) all in
    let other = or_parts (bytes_eq x p) (list_any (λ y. bytes_eq y p) xs) none in
    let adds : weight (bytes_eq x p) ≡ 0 = ap weight other.0 in
    let same : count_by (bytes_eq x) (front ++ p ∷ []) ≤ 1 = omega (arith, at_end x p front [], adds, leb-true (count_by (bytes_eq x) front) 1 here.0) in
    and_from (nat_le (count_by (bytes_eq x) (front ++ p ∷ [])) 1) (list_all (λ q. nat_le (count_by (bytes_eq q) (front ++ p ∷ [])) 1) xs) (le-leb (count_by (bytes_eq x) (front ++ p ∷ [])) 1 same) (still front xs p here.1 other.1)

-- a path that doesn't stand before
pub one_more : (front : List (List ℕ)) (p : List ℕ) → are_distinct front ≡ true → list_any (λ x. bytes_eq x p) front ≡ false → are_distinct (front ++ p ∷ []) ≡ true
one_more front p all none =
    let once : List ℕ → Bool = λ q. nat_le (count_by (bytes_eq q) (front ++ p ∷ [])) 1 in
    let before : count_by (bytes_eq p) front ≡ 0 = counts-none (bytes_eq p) front (sym (any-flip p front) ∙ none) in
    let here : weight (bytes_eq p p) ≡ 1 = ap weight (nat_list_eq_equiv.refl p) in
    let alone : count_by (bytes_eq p) (front ++ p ∷ []) ≤ 1 = omega (arith, at_end p p front [], here, before) in
    list_all-append once front (p ∷ []) ∙ and_from (list_all once front) (once p && true) (still front front p all none) (and_from (once p) true (le-leb (count_by (bytes_eq p) (front ++ p ∷ [])) 1 alone) refl)
