-- What a page gives and what the next pages give are what is left together.
use Rattle.std.proofs.Common.{◌≡◌, ℕ, zero, suc, ◌+◌, List, [], ◌∷◌, ◌++◌, Bool, true, false, cond, ltb, Option, Some, None, refl, sym, ap, ◌∙◌, arith, length, take, drop}
use Rattle.std.specs.Prelude.{filter, nat_lt}
use Rattle.std.proofs.lemmas.Bool.Decides.{nat_tests}
use Rattle.std.proofs.lemmas.List.{take-append-drop, take_all, drop-drop}
use Rattle.std.proofs.lemmas.Option.{none-some}
use Rattle.share_reply.specs.Pages.{up_to, given, next_place}

-- behind the k-th that passes stand the others that pass
behind : {X : Type 0} (test : X → Bool) (k : ℕ) (xs : List X) → filter test (drop (up_to test k xs) xs) ≡ drop k (filter test xs)
behind test zero xs = refl
behind test (suc k) [] = refl
behind test (suc k) (x ∷ xs) =
    elim (test x) as (λ b. filter test (drop (up_to test (cond b k (suc k)) xs) xs) ≡ drop (suc k) (cond b (x ∷ filter test xs) (filter test xs))) [
      | true ↦ behind test k xs
      | false ↦ behind test (suc k) xs
    ]

some_is : {X : Type 0} (x y : X) → Some x ≡ Some y → x ≡ y
some_is x y e = cc

split_at : {X : Type 0} (test : X → Bool) (k place : ℕ) (xs : List X) (next : ℕ) (b : Bool) → cond b (Some (place + up_to test k (drop place xs))) None ≡ Some next
    → filter test (drop place xs) ≡ take k (filter test (drop place xs)) ++ filter test (drop next xs)
split_at test k place xs next false e = absurd (none-some next e)
split_at test k place xs next true e =
    sym (take-append-drop k (filter test (drop place xs))) ∙ ap (λ l. take k (filter test (drop place xs)) ++ l)
    (sym (behind test k (drop place xs)) ∙ ap (filter test) (drop-drop (up_to test k (drop place xs)) place xs ∙ ap (λ n. drop n xs) (some_is _ _ e)))

-- where a page has a next one, the two give together what is left
pub more_pages : {X : Type 0} (test : X → Bool) (most : Option ℕ) (place : ℕ) (xs : List X) (next : ℕ) → next_place test most place xs ≡ Some next
    → filter test (drop place xs) ≡ given test most place xs ++ filter test (drop next xs)
more_pages test None place xs next e = absurd (none-some next e)
more_pages test (Some k) place xs next e = split_at test k place xs next (ltb k (length (filter test (drop place xs)))) e

all_at : {X : Type 0} (k n : ℕ) (ys : List X) (b : Bool) → nat_lt k (length ys) ≡ b → cond b (Some n) None ≡ None → take k ys ≡ ys
all_at k n ys true t e = absurd (none-some n (sym e))
all_at k n ys false t e = take_all k ys (grind (arith, nat_tests, t))

-- the last page gives all that is left
pub last_page : {X : Type 0} (test : X → Bool) (most : Option ℕ) (place : ℕ) (xs : List X) → next_place test most place xs ≡ None
    → given test most place xs ≡ filter test (drop place xs)
last_page test None place xs e = refl
last_page test (Some k) place xs e = all_at k _ (filter test (drop place xs)) (ltb k (length (filter test (drop place xs)))) refl e
