-- Texts cut at a byte, and the texts of parts.
use Rattle.std.proofs.Common.{◌≡◌, ℕ, ◌+◌, ◌^◌, ◌<◌, ◌==◌, List, ◌∷◌, ◌++◌, length, get_or, take, drop, Bool, true, false, cond, Option, Some, None, decimal, refl, sym, ap, ◌∙◌, add-one, arith, length-append, lt-ltb, eqb-true}
use Rattle.std.specs.Prelude.{bytes_eq, codes, option_and_then, option_map, position}
use Rattle.std.specs.List.{position_or_len}
use Rattle.std.proofs.Math.Seq.{drop-append-add, get_or-append_seam, split_at}
use Rattle.std.proofs.Math.ListN.{get_or-append}
use Rattle.std.proofs.lemmas.Bool.{false_from_ne_true}
use Rattle.std.proofs.lemmas.Bool.Decides.{nat_tests}
use Rattle.std.proofs.lemmas.Fmt.{digits_decimal}
use Rattle.std.proofs.lemmas.List.{take_at, take-append-drop}
use Rattle.std.proofs.lemmas.List.Quantifiers.{position-Some}
use Rattle.std.proofs.lemmas.List.Sums.{position_or_len_is}
use Rattle.std.proofs.lemmas.Slice.Eq.{bytes_eq-Decides}
use Rattle.std.proofs.lemmas.Str.Parse.{not_in_digits}
use Rattle.file_ranges.specs.Pieces.{cut_at}
use Rattle.file_ranges.specs.Ranges.{Range, IsRange, IsSpelled, pieces_of, range_text}
use Rattle.file_ranges.proofs.Digits.{own}

-- ---- what was written is cut again

position_is : (p : ℕ → Bool) (xs : List ℕ) (i : ℕ) → position_or_len p xs ≡ i → i < length xs → position p xs ≡ Some i
position_is p xs i is lt = rw (is, lt-ltb i (length xs) lt) refl

no_digit : (n separator k : ℕ) → n < 2 ^ 64 → separator < 48 → k < length (decimal n) → ¬ (get_or (decimal n) k 0 ≡ separator)
no_digit n separator k small low = not_in_digits own (decimal n) separator (digits_decimal own n small) (λ digit. absurd (omega arith)) k

place : (n separator : ℕ) (rest : List ℕ) → n < 2 ^ 64 → separator < 48
    → position (λ b. b == separator) (decimal n ++ separator ∷ rest) ≡ Some (length (decimal n))
place n separator rest small low =
    let whole = decimal n ++ separator ∷ rest in
    let len = length-append (decimal n) (separator ∷ rest) in
    let before : (k : ℕ) → k < length (decimal n) → (get_or whole k 0 == separator) ≡ false =
    λ k lt. false_from_ne_true _ (λ e. no_digit n separator k small low lt (sym (get_or-append (decimal n) (separator ∷ rest) 0 k lt) ∙ eqb-true _ _ e)) in
    let seam = get_or-append_seam (decimal n) separator rest 0 in
    let at : (get_or whole (length (decimal n)) 0 == separator) ≡ true = rw seam (grind (arith, nat_tests)) in
    let is = position_or_len_is (λ (b : ℕ). b == separator) whole (length (decimal n)) 0 (omega (arith, len)) before (λ _. at) in
    position_is (λ b. b == separator) whole (length (decimal n)) is (omega (arith, len))

cut_again : (n separator : ℕ) (rest : List ℕ) → n < 2 ^ 64 → separator < 48 → cut_at separator (decimal n ++ separator ∷ rest) ≡ Some (decimal n, rest)
cut_again n separator rest small low =
    let whole = decimal n ++ separator ∷ rest in
    let front : take (length (decimal n)) whole ≡ decimal n = take_at (decimal n) (separator ∷ rest) (length (decimal n)) refl in
    let back : drop (length (decimal n) + 1) whole ≡ rest = drop-append-add (decimal n) (separator ∷ rest) 1 in
    ap (option_map (λ i. (take i whole, drop (i + 1) whole))) (place n separator rest small low) ∙ rw (front, back) refl

pub pieces_again : (r : Range) → IsRange r → r.size < 2 ^ 64 → pieces_of (range_text r) ≡ Some (decimal r.first, decimal r.last, decimal r.size)
pieces_again r valid small =
    let within = valid.within in
    let some = valid.some in
    let first = cut_again r.first 45 (decimal r.last ++ (47 ∷ decimal r.size)) (omega arith) (omega arith) in
    let last = cut_again r.last 47 (decimal r.size) (omega arith) (omega arith) in
    rw (first, last) refl

-- ---- what is cut was written so

abbrev around : List ℕ → ℕ → List ℕ × List ℕ
around bytes i = (take i bytes, drop (i + 1) bytes)

cut_joins_by : (separator : ℕ) (bytes a b : List ℕ) (o : Option ℕ) → position (λ x. x == separator) bytes ≡ o
    → option_map (around bytes) o ≡ Some (a, b) → bytes ≡ a ++ separator ∷ b
cut_joins_by separator bytes a b None is cut = absurd cc
cut_joins_by separator bytes a b (Some i) is cut =
    let parts = position-Some (λ (x : ℕ). x == separator) bytes i 0 is in
    let byte : get_or bytes i 0 ≡ separator = eqb-true _ _ parts.1 in
    let same : around bytes i ≡ (a, b) = cc in
    let whole : bytes ≡ take i bytes ++ get_or bytes i 0 ∷ drop (i + 1) bytes = rw add-one (split_at bytes i 0 parts.0) in
    whole ∙ ap (λ x. take i bytes ++ x ∷ drop (i + 1) bytes) byte ∙ ap (λ p. p.0 ++ separator ∷ p.1) same

cut_joins : (separator : ℕ) (bytes a b : List ℕ) → cut_at separator bytes ≡ Some (a, b) → bytes ≡ a ++ separator ∷ b
cut_joins separator bytes a b = cut_joins_by separator bytes a b _ refl

abbrev Pieces : Type 0
Pieces = List ℕ × List ℕ × List ℕ

abbrev behind : List ℕ → List ℕ × List ℕ → Pieces
behind before q = (before, q.0, q.1)

abbrev cut_twice : List ℕ × List ℕ → Option Pieces
cut_twice p = option_map (behind p.0) (cut_at 47 p.1)

last_joins : (rest before : List ℕ) (pieces : Pieces) (o : Option (List ℕ × List ℕ)) → cut_at 47 rest ≡ o
    → option_map (behind before) o ≡ Some pieces → before ++ 45 ∷ rest ≡ pieces.0 ++ 45 ∷ (pieces.1 ++ 47 ∷ pieces.2)
last_joins rest before pieces None is cut = absurd cc
last_joins rest before pieces (Some q) is cut =
    let same : behind before q ≡ pieces = cc in
    ap (λ t. before ++ 45 ∷ t) (cut_joins 47 rest q.0 q.1 is) ∙ ap (λ t. t.0 ++ 45 ∷ (t.1 ++ 47 ∷ t.2)) same

first_joins : (text : List ℕ) (pieces : Pieces) (o : Option (List ℕ × List ℕ)) → cut_at 45 text ≡ o
    → option_and_then cut_twice o ≡ Some pieces → text ≡ pieces.0 ++ 45 ∷ (pieces.1 ++ 47 ∷ pieces.2)
first_joins text pieces None is cut = absurd cc
first_joins text pieces (Some p) is cut = cut_joins 45 text p.0 p.1 is ∙ last_joins p.1 p.0 pieces _ refl cut

pieces_join_by : (bytes : List ℕ) (pieces : Pieces) (test : Bool) → bytes_eq (take 6 bytes) (codes "bytes ") ≡ test
    → cond test (option_and_then cut_twice (cut_at 45 (drop 6 bytes))) None ≡ Some pieces
    → bytes ≡ codes "bytes " ++ (pieces.0 ++ 45 ∷ (pieces.1 ++ 47 ∷ pieces.2))
pieces_join_by bytes pieces true is cut =
    let front : take 6 bytes ≡ codes "bytes " = (bytes_eq-Decides (take 6 bytes) (codes "bytes ")).0 is in
    sym (take-append-drop 6 bytes) ∙ ap (λ t. t ++ drop 6 bytes) front ∙ ap (λ t. codes "bytes " ++ t) (first_joins (drop 6 bytes) pieces _ refl cut)
pieces_join_by bytes pieces false is cut = absurd cc

abbrev written : Range → Pieces
written r = (decimal r.first, decimal r.last, decimal r.size)

same_pieces : (p q : Pieces) → Some p ≡ Some q → p ≡ q
same_pieces p q e = cc

not_some : (p : Pieces) → ¬ (None ≡ Some p)
not_some p e = cc

pub spelled_joins : (bytes a b c : List ℕ) (r : Range) → Some (a, b, c) ≡ pieces_of bytes → IsSpelled a b c r → bytes ≡ range_text r
spelled_joins bytes a b c r cut spelled =
    let first = spelled.first in
    let last = spelled.last in
    let size = spelled.size in
    pieces_join_by bytes (a, b, c) _ refl (sym cut) ∙ rw (first, last, size) refl

pub spelled_again : (bytes a b c : List ℕ) (r : Range) → Some (a, b, c) ≡ pieces_of bytes → IsRange r → r.size < 2 ^ 64 → bytes ≡ range_text r → IsSpelled a b c r
spelled_again bytes a b c r cut valid small is =
    let again : Some (a, b, c) ≡ Some (written r) = cut ∙ ap pieces_of is ∙ pieces_again r valid small in
    let same = same_pieces (a, b, c) (written r) again in
    record { first = ap (λ t. t.0) same; last = ap (λ t. t.1) same; size = ap (λ t. t.2) same }

pub no_pieces : (bytes : List ℕ) (r : Range) → None ≡ pieces_of bytes → IsRange r → r.size < 2 ^ 64 → ¬ (bytes ≡ range_text r)
no_pieces bytes r none valid small is =
    not_some (written r) (none ∙ ap pieces_of is ∙ pieces_again r valid small)
