-- A number in 20 digits and `.json` is a segment.
use Rattle.std.proofs.Common.{◌≡◌, ℕ, zero, suc, ◌-◌, ◌<◌, ◌≤◌, ◌==◌, ◌||◌, not, List, [], ◌∷◌, ◌++◌, length, refl, ap, ◌∙◌, Bool, true, false, arith, bytes_eq, codes, nat_lt, length-append}
use Rattle.std.specs.Prelude.{◌^◌, replicate}
use Rattle.std.specs.List.{list_any}
use Rattle.std.specs.Char.{digit_value}
use Rattle.std.specs.Str.Parse.{AllDigits}
use Rattle.std.specs.Fmt.{decimal, styled_decimal, format_spec, padded_integral, char_count}
use Rattle.std.proofs.lemmas.Bool.{ne_eqb, lt-ltb}
use Rattle.std.proofs.lemmas.Fmt.{decimal_is_IsNumeral, length-decimal-le}
use Rattle.std.proofs.lemmas.List.{append-nil, length-replicate}
use Rattle.std.proofs.lemmas.List.Folds.{list_any-append}
use Rattle.std.proofs.lemmas.Slice.Eq.{bytes_eq-Decides}
use Rattle.edge_core.specs.Names.{has_slash, has_zero, is_one_segment}

-- the segment of a number
abbrev pub numbered : ℕ → List ℕ
numbered number = replicate (20 - length (decimal number)) 48 ++ decimal number ++ codes ".json"

-- a number in 20 digits
pub in_20_digits : (n : ℕ) → styled_decimal (format_spec 32 0 4 20 (2 ^ 64 - 1)) n ≡ replicate (20 - length (decimal n)) 48 ++ decimal n
unfolding padded_integral char_count
in_20_digits n = let z : 20 - length (decimal n) - 0 - 0 ≡ 20 - length (decimal n) = omega arith in ap (λ k. replicate k 48 ++ (decimal n ++ [])) z ∙ ap (λ t. replicate (20 - length (decimal n)) 48 ++ t) (append-nil (decimal n))

none_of : (a b : Bool) → a ≡ false → b ≡ false → (a || b) ≡ false
none_of a b p q = rw (p, q) refl

differs : (c x : ℕ) → digit_value c < 10 → digit_value x ≡ 36 → (c == x) ≡ false
differs c x digit other = ne_eqb c x (λ e. let same : digit_value c ≡ digit_value x = ap digit_value e in omega arith)

-- digits have no byte that isn't one
digits_free : (x : ℕ) (cs : List ℕ) → digit_value x ≡ 36 → AllDigits 10 cs → list_any (λ b. b == x) cs ≡ false
digits_free x [] other all = refl
digits_free x (c ∷ cs) other all = none_of _ _ (differs c x all.0 other) (digits_free x cs other all.1)

zeros_free : (x k : ℕ) → digit_value x ≡ 36 → list_any (λ b. b == x) (replicate k 48) ≡ false
zeros_free x zero other = refl
zeros_free x (suc k) other = none_of _ _ (differs 48 x (omega arith) other) (zeros_free x k other)

numbered_free : (x number : ℕ) → digit_value x ≡ 36 → list_any (λ b. b == x) (codes ".json") ≡ false → number < 2 ^ 64 → list_any (λ b. b == x) (numbered number) ≡ false
numbered_free x number other end lt =
    let zeros = zeros_free x (20 - length (decimal number)) other in
    let digits = digits_free x (decimal number) other ((decimal_is_IsNumeral number lt).0).1 in
    list_any-append (λ b. b == x) (replicate (20 - length (decimal number)) 48 ++ decimal number) (codes ".json")
    ∙ none_of _ _ (list_any-append (λ b. b == x) (replicate (20 - length (decimal number)) 48) (decimal number) ∙ none_of _ _ zeros digits) end

-- such a segment has 25 bytes
pub numbered_size : (number : ℕ) → number < 2 ^ 64 → length (numbered number) ≡ 25
numbered_size number lt =
    let most : length (decimal number) ≤ 20 = length-decimal-le 20 number (omega arith) (omega arith) lt in
    simp (length-append, length-replicate) (omega arith)

not_short : (s t : List ℕ) (b : Bool) → bytes_eq s t ≡ b → length t < length s → not b ≡ true
not_short s t false e lt = refl
not_short s t true e lt = let same : length s ≡ length t = ap length ((bytes_eq-Decides s t).0 e) in absurd (omega arith)

long_segment : (s : List ℕ) → 2 < length s → has_slash s ≡ false → has_zero s ≡ false → is_one_segment s ≡ true
long_segment s long slash none =
    let some : nat_lt 0 (length s) ≡ true = lt-ltb 0 (length s) (omega arith) in
    let dot : not (bytes_eq s (codes ".")) ≡ true = not_short s (codes ".") _ refl (omega arith) in
    let dots : not (bytes_eq s (codes "..")) ≡ true = not_short s (codes "..") _ refl (omega arith) in
    rw (some, dot, dots, slash, none) refl

-- it has no slash
pub numbered_no_slash : (number : ℕ) → number < 2 ^ 64 → has_slash (numbered number) ≡ false
numbered_no_slash number lt = numbered_free 47 number refl refl lt

pub numbered_is_one : (number : ℕ) → number < 2 ^ 64 → is_one_segment (numbered number) ≡ true
numbered_is_one number lt =
    let size = numbered_size number lt in
    long_segment (numbered number) (omega arith) (numbered_no_slash number lt) (numbered_free 0 number refl refl lt)
