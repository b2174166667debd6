-- Numbers as `parse` reads them.
use Rattle.std.proofs.Common.{◌≡◌, ℕ, ◌^◌, ◌<◌, List, true, false, Result, Ok, Err, decimal, subst, sym, ap, ◌∙◌, rules, tests}
use Rattle.std.specs.Prelude.{bytes_eq}
use Rattle.std.specs.Char.{is_ascii_digit}
use Rattle.std.specs.List.{list_all}
use Rattle.std.specs.Str.{IsUtf8}
use Rattle.std.specs.Str.Parse.{digits_value, ParsesUnsigned}
use Rattle.std.proofs.lemmas.Cmp.{nat_list_eq_equiv}
use Rattle.std.proofs.lemmas.Fmt.{IsAscii-decimal, parse-decimal}
use Rattle.std.proofs.lemmas.Str.{IsUtf8-from_ascii}
use Rattle.std.proofs.lemmas.Str.Parse.{IsNumeralModel, numerals_by_value}

pub own : IsNumeralModel (λ ds. list_all is_ascii_digit ds ≡ true) (digits_value 10)
own = numerals_by_value _ (search (rules, tests))

pub decimal_text : (ds : List ℕ) (n : ℕ) → n < 2 ^ 64 → ds ≡ decimal n → IsUtf8 ds
decimal_text ds n small is = subst IsUtf8 (sym is) (IsUtf8-from_ascii (decimal n) (IsAscii-decimal n small))

-- ---- a number that is written so is the one that is read

abbrev value_or : {E : Type 0} → ℕ → Result ℕ E → ℕ
value_or n (Ok k) = k
value_or n (Err e) = n

pub written_gives : {E : Type 0} (ds spelled : List ℕ) (r : Result ℕ E) (n : ℕ) → ParsesUnsigned 64 10 spelled r → spelled ≡ ds → n < 2 ^ 64 → ds ≡ decimal n → r ≡ Ok n
written_gives ds spelled r n h same small is = parse-decimal 64 n spelled r small small (same ∙ is) h

pub written_is : {E : Type 0} (ds spelled : List ℕ) (r : Result ℕ E) (n k : ℕ) → ParsesUnsigned 64 10 spelled r → spelled ≡ ds → n < 2 ^ 64 → ds ≡ decimal n → r ≡ Ok k → k ≡ n
written_is ds spelled r n k h same small is read = ap (value_or 0) (sym read ∙ written_gives ds spelled r n h same small is)

pub written_reads : {E : Type 0} (ds spelled : List ℕ) (r : Result ℕ E) (n : ℕ) (e : E) → ParsesUnsigned 64 10 spelled r → spelled ≡ ds → n < 2 ^ 64 → ds ≡ decimal n → ¬ (r ≡ Err e)
written_reads ds spelled r n e h same small is failed =
    let gives = written_gives ds spelled r n h same small is in
    absurd cc

pub differs : (a b : List ℕ) → false ≡ bytes_eq a b → ¬ (a ≡ b)
differs a b e same =
    let yes : bytes_eq a b ≡ true = rw same (nat_list_eq_equiv.refl b) in
    cc
