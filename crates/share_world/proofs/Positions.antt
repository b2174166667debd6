-- Where a location stands among the logs of a history.
use Rattle.std.proofs.Common.{◌≡◌, ℕ, ◌+◌, ◌||◌, Bool, true, false, cond, List, [], ◌∷◌, ◌++◌, length, Option, Some, None, option_map, suc, sym, refl, ap, ◌∙◌, arith, zero-add}
use Rattle.std.specs.Prelude.{is_some}
use Rattle.std.specs.List.{list_any, position, position_from}
use Rattle.std.proofs.lemmas.List.Folds.{list_any-append}
use Rattle.share_book.specs.History.{starts}
use Rattle.share_book.specs.Legal.{has_log, is_at}
use Rattle.share_book.specs.declared.entry.Entry.{Entry}
use Rattle.share_book.proofs.Growth.{position_is}

or_false : (b : Bool) → (b || false) ≡ b
or_false true = refl
or_false false = refl

pub any_more : {X : Type 0} (p : X → Bool) (xs : List X) (x : X) → list_any p (xs ++ x ∷ []) ≡ (list_any p xs || p x)
any_more p xs x = list_any-append p xs (x ∷ []) ∙ ap (λ b. list_any p xs || b) (or_false (p x))

or_true : (b : Bool) → (b || true) ≡ true
or_true true = refl
or_true false = refl

-- the last passes
pub any_end : {X : Type 0} (p : X → Bool) (xs : List X) (x : X) → p x ≡ true → list_any p (xs ++ x ∷ []) ≡ true
any_end p xs x passes = any_more p xs x ∙ ap (λ b. list_any p xs || b) passes ∙ or_true (list_any p xs)

any_from : {X : Type 0} (p : X → Bool) (i : ℕ) (xs : List X) → list_any p xs ≡ is_some (position_from p i xs)
any_from p i [] = refl
any_from p i (x ∷ xs) =
    elim (p x) as (λ b. (b || list_any p xs) ≡ is_some (cond b (Some i) (position_from p (i + 1) xs))) [
      | true ↦ refl
      | false ↦ any_from p (i + 1) xs
    ]

any_position : {X : Type 0} (p : X → Bool) (xs : List X) → list_any p xs ≡ is_some (position p xs)
any_position p xs = any_from p 0 xs ∙ ap (λ (o : Option ℕ). is_some o) (sym (position_is p xs))

-- a location has a log exactly where it stands among them
pub has_place : (h : List Entry) (l : List ℕ) (o : Option ℕ) → position (is_at l) (starts h) ≡ o → has_log h l ≡ is_some o
has_place h l o is = any_position (is_at l) (starts h) ∙ ap (λ (x : Option ℕ). is_some x) is

from_end : {X : Type 0} (p : X → Bool) (i : ℕ) (xs : List X) (x : X) → position_from p i xs ≡ None → p x ≡ true → position_from p i (xs ++ x ∷ []) ≡ Some (i + length xs)
from_end p i [] x none passes = ap (λ b. cond b (Some i) None) passes ∙ ap Some (let e : i ≡ i + 0 = omega arith in e)
from_end p i (y ∷ ys) x none passes =
    elim (p y) as (λ b. cond b (Some i) (position_from p (i + 1) ys) ≡ None → cond b (Some i) (position_from p (i + 1) (ys ++ x ∷ [])) ≡ Some (i + suc (length ys))) [
      | true ↦ λ h. absurd cc
      | false ↦ λ h. from_end p (i + 1) ys x h passes ∙ ap Some (let e : i + 1 + length ys ≡ i + suc (length ys) = omega arith in e)
    ] none

-- a new one that passes stands at the end
pub position_end : {X : Type 0} (p : X → Bool) (xs : List X) (x : X) → position p xs ≡ None → p x ≡ true → position p (xs ++ x ∷ []) ≡ Some (length xs)
position_end p xs x none passes = position_is p (xs ++ x ∷ []) ∙ from_end p 0 xs x (sym (position_is p xs) ∙ none) passes ∙ ap Some (zero-add (length xs))

-- a number of a log is one more than its place
pub number_place : (o : Option ℕ) (j : ℕ) → option_map (λ i. i + 1) o ≡ Some j → (i : ℕ) × (o ≡ Some i) × (i + 1 ≡ j)
number_place None j e = absurd (cc e)
number_place (Some i) j e = (i, refl, cc e)

pub no_place : (o : Option ℕ) → option_map (λ i. i + 1) o ≡ None → o ≡ None
no_place None e = refl
no_place (Some i) e = absurd (cc e)
