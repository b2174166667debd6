-- Texts that stand once, and names of paths.
use Rattle.std.proofs.Common.{◌≡◌, ◌<◌, ◌≤◌, ◌+◌, ◌||◌, ◌&&◌, ℕ, zero, suc, Bool, true, false, not, List, [], ◌∷◌, ◌++◌, Option, Some, None, is_some, length, take, drop, get_or, map, refl, sym, ap, ◌∙◌, subst, bytes_eq, true≢false, arith}
use Rattle.std.specs.Prelude.{filter_map, is_none, nat_lt}
use Rattle.std.specs.List.{cons_option, list_any}
use Rattle.std.proofs.lemmas.Bool.{le-ltb, lt-ltb, ltb-false, ltb-true}
use Rattle.std.specs.Borrow.{Bor}
use Rattle.std.specs.Cmp.Lexicographic.{pointwise}
use Rattle.std.proofs.lemmas.List.{drop_all, drop_more, get_or-map, length-map, take-append-drop, take_more}
use Rattle.std.proofs.lemmas.List.Folds.{list_any-append}
use Rattle.std.proofs.lemmas.List.Elements.{filter_map-append}
use Rattle.log_actions.specs.Commits.{are_distinct}
use Rattle.log_commit.proofs.Distinct.{one_more, twice}
use Rattle.log_replay.proofs.AppliedLemmas.{map_take_more}

-- what a text is among
abbrev pub among : List (List ℕ) → List ℕ → Bool
among texts q = list_any (λ t. bytes_eq t q) texts

or_swap : (a b : Bool) → (b || a) ≡ (a || (b || false))
or_swap true true = refl
or_swap true false = refl
or_swap false true = refl
or_swap false false = refl

-- one text more
among_more : (front : List (List ℕ)) (t q : List ℕ) → (bytes_eq t q || among front q) ≡ among (front ++ t ∷ []) q
among_more front t q = or_swap (among front q) (bytes_eq t q) ∙ sym (list_any-append (λ x. bytes_eq x q) front (t ∷ []))

-- a text that stood among those before it
stands_twice : (texts : List (List ℕ)) (i : ℕ) (t : List ℕ) → i < length texts → t ≡ get_or texts i t → among (take i texts) t ≡ true → are_distinct texts ≡ false
stands_twice texts i t lt is e =
    let whole : take i texts ++ t ∷ drop (i + 1) texts ≡ texts = ap (λ x. take i texts ++ x ∷ drop (i + 1) texts) is ∙ ap (λ l. take i texts ++ l) (sym (drop_more texts i t lt)) ∙ take-append-drop i texts in
    subst (λ l. are_distinct l ≡ false) whole (twice (take i texts) (drop (i + 1) texts) t e)

front_more : (texts : List (List ℕ)) (i : ℕ) (t : List ℕ) → i < length texts → t ≡ get_or texts i t → take (i + 1) texts ≡ take i texts ++ t ∷ []
front_more texts i t lt is = take_more texts i t lt ∙ ap (λ x. take i texts ++ x ∷ []) (sym is)

still_distinct : (texts : List (List ℕ)) (i : ℕ) (t : List ℕ) → i < length texts → t ≡ get_or texts i t → are_distinct (take i texts) ≡ true → among (take i texts) t ≡ false → are_distinct (take (i + 1) texts) ≡ true
still_distinct texts i t lt is all none = ap are_distinct (front_more texts i t lt is) ∙ one_more (take i texts) t all none

-- ---- values that some have

fewer_by : {X : Type 0} (o : Option X) (n : ℕ) (rest : List X) → length rest ≤ n → length (cons_option o rest) ≤ suc n
fewer_by None n rest h = omega (arith, h)
fewer_by (Some x) n rest h = omega (arith, h)

no_more : {X Y : Type 0} (f : X → Option Y) (xs : List X) → length (filter_map f xs) ≤ length xs
no_more f [] = omega arith
no_more f (x ∷ xs) = fewer_by (f x) (length xs) (filter_map f xs) (no_more f xs)

-- two comparisons that hold together
same_test : (a b c d : ℕ) (t : Bool) → (c < d → a < b) → (d ≤ c → b ≤ a) → nat_lt c d ≡ t → nat_lt a b ≡ t
same_test a b c d true up down is = lt-ltb a b (up (ltb-true c d is))
same_test a b c d false up down is = le-ltb a b (down (ltb-false c d is))

one_missing : {X : Type 0} (o : Option X) (n : ℕ) (rest : List X) (b : Bool) → length rest ≤ n → nat_lt (length rest) n ≡ b → nat_lt (length (cons_option o rest)) (suc n) ≡ (is_none o || b)
one_missing None n rest b h is = lt-ltb (length rest) (suc n) (omega (arith, h))
one_missing (Some x) n rest b h is = same_test (suc (length rest)) (suc n) (length rest) n b (λ lt. omega (arith, lt)) (λ le. omega (arith, le)) is

-- where a value is missing they are fewer
pub fewer_where_missing : {X Y : Type 0} (f : X → Option Y) (xs : List X) → nat_lt (length (filter_map f xs)) (length xs) ≡ list_any (λ x. is_none (f x)) xs
fewer_where_missing f [] = refl
fewer_where_missing f (x ∷ xs) = one_missing (f x) (length xs) (filter_map f xs) (list_any (λ x. is_none (f x)) xs) (no_more f xs) (fewer_where_missing f xs)

-- ---- lists of borrowed texts

-- the item of a loop, as a text
text_at : (texts : List (Bor (List ℕ))) (i : ℕ) (d : Bor (List ℕ)) → i < length texts → (get_or texts i d).now ≡ get_or (map (λ t. t.now) texts) i (get_or texts i d).now
text_at texts i d lt = sym (get_or-map (λ t. t.now) texts i d (get_or texts i d).now lt)

text_below : (texts : List (Bor (List ℕ))) (i : ℕ) → i < length texts → i < length (map (λ t. t.now) texts)
text_below texts i lt = subst (λ n. i < n) (sym (length-map texts (λ t. t.now))) lt

-- a text that was seen before
pub twice_at : (texts : List (Bor (List ℕ))) (i : ℕ) (d : Bor (List ℕ)) (was : Bool) → i < length texts → was ≡ among (take i (map (λ t. t.now) texts)) (get_or texts i d).now → was ≡ true → are_distinct (map (λ t. t.now) texts) ≡ false
twice_at texts i d was lt is seen = stands_twice (map (λ t. t.now) texts) i (get_or texts i d).now (text_below texts i lt) (text_at texts i d lt) (sym is ∙ seen)

pub seen_at : (texts : List (Bor (List ℕ))) (i : ℕ) (d : Bor (List ℕ)) (q : List ℕ) (old new : Bool) → i < length texts → new ≡ (bytes_eq (get_or texts i d).now q || old) → old ≡ among (take i (map (λ t. t.now) texts)) q
    → new ≡ among (take (i + 1) (map (λ t. t.now) texts)) q
seen_at texts i d q old new lt is before =
    let all = map (λ (t : Bor (List ℕ)). t.now) texts in
    let t = (get_or texts i d).now in
    is ∙ ap (λ b. bytes_eq t q || b) before ∙ among_more (take i all) t q ∙ ap (λ l. among l q) (sym (front_more all i t (text_below texts i lt) (text_at texts i d lt)))

pub distinct_at : (texts : List (Bor (List ℕ))) (i : ℕ) (d : Bor (List ℕ)) (was : Bool) → i < length texts → was ≡ among (take i (map (λ t. t.now) texts)) (get_or texts i d).now → was ≡ false
    → are_distinct (take i (map (λ t. t.now) texts)) ≡ true → are_distinct (take (i + 1) (map (λ t. t.now) texts)) ≡ true
distinct_at texts i d was lt is unseen all = still_distinct (map (λ t. t.now) texts) i (get_or texts i d).now (text_below texts i lt) (text_at texts i d lt) all (sym is ∙ unseen)

-- ---- two lists side by side

pub next_pair : {X Y : Type 0} (E : X → Y → Bool) (xs : List X) (ys : List Y) (i : ℕ) (x : X) (y : Y) → i < length xs → i < length ys
    → pointwise E (drop i xs) (drop i ys) ≡ (E (get_or xs i x) (get_or ys i y) && pointwise E (drop (i + 1) xs) (drop (i + 1) ys))
next_pair E xs ys i x y lx ly = ap (λ l. pointwise E l (drop i ys)) (drop_more xs i x lx) ∙ ap (λ l. pointwise E (get_or xs i x ∷ drop (i + 1) xs) l) (drop_more ys i y ly)

pub no_pair : {X Y : Type 0} (E : X → Y → Bool) (xs : List X) (ys : List Y) (i : ℕ) → length xs ≤ i → length ys ≤ i → pointwise E (drop i xs) (drop i ys) ≡ true
no_pair E xs ys i lx ly = ap (λ l. pointwise E l (drop i ys)) (drop_all i xs lx) ∙ ap (pointwise E []) (drop_all i ys ly)

-- one value more that some have
pub more_of : {X Y Z : Type 0} (f : Y → Option Z) (g : X → Y) (xs : List X) (i : ℕ) (x : X) → i < length xs → x ≡ get_or xs i x
    → filter_map f (map g (take (i + 1) xs)) ≡ filter_map f (map g (take i xs)) ++ filter_map f (g x ∷ [])
more_of f g xs i x lt is = ap (filter_map f) (map_take_more g xs i x lt is) ∙ filter_map-append f (map g (take i xs)) (g x ∷ [])
