-- Digits that are written are read.
use Rattle.std.proofs.Common.{◌≡◌, ℕ, ◌+◌, ◌-◌, ◌*◌, ◌/◌, ◌%◌, ◌^◌, ◌<◌, ◌≤◌, List, [], ◌∷◌, ◌++◌, Bool, true, false, cond, ltb, ◌&&◌, Some, None, refl, ap, ◌∙◌, arith}
use Rattle.std.proofs.lemmas.Bool.Decides.{nat_tests}
use Rattle.std.proofs.lemmas.Fmt.{decimal_by_steps_wide}
use Rattle.std.specs.Char.{is_ascii_digit}
use Rattle.std.specs.Fmt.{decimal}
use Rattle.page_token.specs.Reading.{digits_after, digits_in}

same_number : (n k : ℕ) → Some n ≡ Some k → n ≡ k
same_number n k e = cc

append_step : (b : Bool) (limit m k : ℕ) (ds ys : List ℕ)
    → (digits_after limit m ds ≡ Some k → digits_after limit m (ds ++ ys) ≡ digits_after limit k ys)
    → cond b (digits_after limit m ds) None ≡ Some k
    → cond b (digits_after limit m (ds ++ ys)) None ≡ digits_after limit k ys
append_step true limit m k ds ys more e = more e
append_step false limit m k ds ys more e = absurd cc

digits_append : (limit n k : ℕ) (xs ys : List ℕ) → digits_after limit n xs ≡ Some k → digits_after limit n (xs ++ ys) ≡ digits_after limit k ys
digits_append limit n k [] ys e = ap (λ (m : ℕ). digits_after limit m ys) (same_number n k e)
digits_append limit n k (d ∷ ds) ys e =
    append_step (is_ascii_digit d && ltb (n * 10 + (d - 48)) limit) limit (n * 10 + (d - 48)) k ds ys (digits_append limit (n * 10 + (d - 48)) k ds ys) e

is_below : (limit m k : ℕ) → k < 10 → m * 10 + k < limit → (is_ascii_digit (48 + k) && ltb (m * 10 + ((48 + k) - 48)) limit) ≡ true
is_below limit m k small lt = grind (arith, nat_tests)

one_digit : (limit m k : ℕ) → k < 10 → m * 10 + k < limit → digits_after limit m ((48 + k) ∷ []) ≡ Some (m * 10 + k)
one_digit limit m k small lt =
    let test = is_below limit m k small lt in
    let value : m * 10 + ((48 + k) - 48) ≡ m * 10 + k = omega arith in
    rw (test, value) refl

abbrev IsRead : ℕ → ℕ → List ℕ → Type 0
IsRead limit n ds = n < limit → digits_in limit ds ≡ Some n

first_digit : (limit m : ℕ) → m < 10 → IsRead limit m ((48 + m) ∷ [])
first_digit limit m small lt =
    let value : 0 * 10 + m ≡ m = omega arith in
    one_digit limit 0 m small (omega arith) ∙ ap (λ (k : ℕ). Some k) value

more_digits : (limit n : ℕ) (ds : List ℕ) → 10 ≤ n → IsRead limit (n / 10) ds → IsRead limit n (ds ++ (48 + n % 10) ∷ [])
more_digits limit n ds ten front lt =
    let value : n / 10 * 10 + n % 10 ≡ n = omega arith in
    digits_append limit 0 (n / 10) ds ((48 + n % 10) ∷ []) (front (omega arith))
    ∙ one_digit limit (n / 10) (n % 10) (omega arith) (omega arith)
    ∙ ap (λ (m : ℕ). Some m) value

pub digits_again : (limit n : ℕ) → n < 10 ^ 64 → n < limit → digits_in limit (decimal n) ≡ Some n
digits_again limit n wide lt = decimal_by_steps_wide (IsRead limit) (first_digit limit) (more_digits limit) n wide lt
