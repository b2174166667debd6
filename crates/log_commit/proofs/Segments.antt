-- A segment that names a version, and the version, are each other's: and the order of segments is that of versions.
use Rattle.std.proofs.Common.{◌≡◌, ℕ, zero, suc, ◌+◌, ◌-◌, ◌*◌, ◌<◌, ◌≤◌, ◌==◌, List, [], ◌∷◌, ◌++◌, length, take, drop, refl, sym, ap, ◌∙◌, subst, Bool, true, false, cond, Option, Some, None, IfSome, IfNone, is_some, arith, rules, tests, bytes_eq, codes, nat_lt, length-append, true≢false}
use Rattle.std.specs.Prelude.{◌^◌, replicate}
use Rattle.std.specs.List.{list_all}
use Rattle.std.specs.Char.{is_ascii_digit}
use Rattle.std.specs.Cmp.{nat_cmp_is}
use Rattle.std.specs.Cmp.Lexicographic.{slice_cmp}
use Rattle.std.specs.Fmt.{decimal}
use Rattle.std.specs.FinMap.{slice_cmp-IsAntisymmetric, nat_cmp-IsAntisymmetric}
use Rattle.std.specs.Ordering.{nat_cmp, ordering_then, MatchOrdering}
use Rattle.std.specs.Str.Parse.{digits_value}
use Rattle.std.specs.declared.cmp.Ordering.{Ordering}
use Rattle.std.specs.declared.cmp.Ordering.TheVariants.{Less, Equal, Greater}
use Rattle.std.proofs.Math.Arith.{digits_lt}
use Rattle.std.proofs.lemmas.Bool.{and_parts, lt-ltb}
use Rattle.std.proofs.lemmas.Cmp.{ranked, by_ranked}
use Rattle.std.proofs.lemmas.Fmt.{decimal_is_IsNumeral_wide, length-decimal-le_wide}
use Rattle.std.proofs.lemmas.List.{length-replicate, length-take-le, take_at, drop_at, take-append-drop}
use Rattle.std.proofs.lemmas.Slice.Eq.{bytes_eq-Decides}
use Rattle.std.proofs.lemmas.Str.Parse.{IsNumeralModel, numerals_by_weight, digits_value_short}
use Rattle.log_commit.specs.Names.{segment_of, is_commit_segment, version_of, IsSegmentOf}

abbrev are_digits : List ℕ → Bool
are_digits ds = list_all is_ascii_digit ds

-- each digit has the weight of its place
abbrev weighed : List ℕ → ℕ
weighed [] = 0
weighed (c ∷ cs) = (c - 48) * 10 ^ length cs + weighed cs

own : IsNumeralModel (λ ds. are_digits ds ≡ true) weighed
own = numerals_by_weight _ (search rules) weighed (search rules)

value : (ds : List ℕ) → are_digits ds ≡ true → weighed ds ≡ digits_value 10 ds
value ds p = own.same ds (own.to ds p)

digit_from : (c : ℕ) → is_ascii_digit c ≡ true → 48 ≤ c
digit_from c e = search (rules, tests)

lt_plus : (u v w : ℕ) → u < v → u < v + w
lt_plus u v w lt = omega arith

shift_case : (k a b : ℕ) (o : Ordering) → MatchOrdering o (a < b) (a ≡ b) (b < a) → MatchOrdering o (k + a < k + b) (k + a ≡ k + b) (k + b < k + a)
shift_case k a b Less h = omega arith
shift_case k a b Equal h = omega arith
shift_case k a b Greater h = omega arith

shift : (k a b : ℕ) → nat_cmp a b ≡ nat_cmp (k + a) (k + b)
shift k a b = nat_cmp_is (k + a) (k + b) (nat_cmp a b) (shift_case k a b (nat_cmp a b) (ranked a b (nat_cmp a b) refl))

less : (x y big a b : ℕ) → 48 ≤ x → x < y → a < big → (x - 48) * big + a < (y - 48) * big + b
less x y big a b low lt within = let below : x - 48 < y - 48 = omega arith in lt_plus ((x - 48) * big + a) ((y - 48) * big) b (digits_lt below within)

order_step : (x y big a b : ℕ) → 48 ≤ x → 48 ≤ y → a < big → b < big → ordering_then (nat_cmp x y) (nat_cmp a b) ≡ nat_cmp ((x - 48) * big + a) ((y - 48) * big + b)
order_step x y big a b low other within inside =
    by_ranked (x < y) (x ≡ y) (y < x) (nat_cmp x y) (ranked x y (nat_cmp x y) refl)
    (λ e lt. ap (λ o. ordering_then o (nat_cmp a b)) e ∙ nat_cmp_is ((x - 48) * big + a) ((y - 48) * big + b) Less (less x y big a b low lt within))
    (λ e same. ap (λ o. ordering_then o (nat_cmp a b)) e ∙ shift ((x - 48) * big) a b ∙ ap (λ z. nat_cmp ((x - 48) * big + a) ((z - 48) * big + b)) same)
    (λ e gt. ap (λ o. ordering_then o (nat_cmp a b)) e ∙ nat_cmp_is ((x - 48) * big + a) ((y - 48) * big + b) Greater (less y x big b a other gt inside))

-- digits of one length are in the order of their numbers
order : (xs ys : List ℕ) → length xs ≡ length ys → are_digits xs ≡ true → are_digits ys ≡ true → slice_cmp nat_cmp xs ys ≡ nat_cmp (weighed xs) (weighed ys)
order [] [] same p q = refl
order [] (y ∷ ys) same p q = absurd (omega arith)
order (x ∷ xs) [] same p q = absurd (omega arith)
order (x ∷ xs) (y ∷ ys) same p q =
    let first = and_parts (is_ascii_digit x) (are_digits xs) p in
    let other = and_parts (is_ascii_digit y) (are_digits ys) q in
    let long : length ys ≡ length xs = omega arith in
    let within : weighed xs < 10 ^ length xs = digits_value_short own xs (length xs) first.1 (omega arith) in
    let inside : weighed ys < 10 ^ length xs = digits_value_short own ys (length xs) other.1 (omega arith) in
    ap (ordering_then (nat_cmp x y)) (order xs ys (sym long) first.1 other.1)
    ∙ order_step x y (10 ^ length xs) (weighed xs) (weighed ys) (digit_from x first.0) (digit_from y other.0) within inside
    ∙ ap (λ n. nat_cmp (weighed (x ∷ xs)) ((y - 48) * 10 ^ n + weighed ys)) (sym long)

-- the digits of a version
abbrev padded : ℕ → List ℕ
padded v = replicate (20 - length (decimal v)) 48 ++ decimal v

record IsPadded (v : ℕ) : Type 0 where
  size : length (padded v) ≡ 20
  digits : are_digits (padded v) ≡ true
  writes : weighed (padded v) ≡ v

zeros_digits : (k : ℕ) (ds : List ℕ) → are_digits ds ≡ true → are_digits (replicate k 48 ++ ds) ≡ true
zeros_digits zero ds p = p
zeros_digits (suc k) ds p = zeros_digits k ds p

zeros_weigh : (k : ℕ) (ds : List ℕ) → weighed (replicate k 48 ++ ds) ≡ weighed ds
zeros_weigh zero ds = refl
zeros_weigh (suc k) ds = zero_digit (10 ^ length (replicate k 48 ++ ds)) (weighed (replicate k 48 ++ ds)) ∙ zeros_weigh k ds
  where
    zero_digit : (n w : ℕ) → (48 - 48) * n + w ≡ w
    zero_digit n w = omega arith

is_padded : (v : ℕ) → v < 10 ^ 20 → IsPadded v
is_padded v lt =
    let wide : v < 10 ^ 64 = omega arith in
    let most : length (decimal v) ≤ 20 = length-decimal-le_wide 20 v (omega arith) lt wide in
    let numeral = decimal_is_IsNumeral_wide v wide in
    let digits : are_digits (decimal v) ≡ true = own.from (decimal v) numeral.0.1 in
    record {
      size = simp (length-append, length-replicate) (omega arith);
      digits = zeros_digits (20 - length (decimal v)) (decimal v) digits;
      writes = zeros_weigh (20 - length (decimal v)) (decimal v) ∙ value (decimal v) digits ∙ numeral.1;
    }

itself : (t : List ℕ) → slice_cmp nat_cmp t t ≡ Equal
itself [] = refl
itself (x ∷ t) = ap (λ o. ordering_then o (slice_cmp nat_cmp t t)) (sym (nat_cmp_is x x Equal refl)) ∙ itself t

same_tail : (xs ys t : List ℕ) → length xs ≡ length ys → slice_cmp nat_cmp (xs ++ t) (ys ++ t) ≡ slice_cmp nat_cmp xs ys
same_tail [] [] t same = itself t
same_tail [] (y ∷ ys) t same = absurd (omega arith)
same_tail (x ∷ xs) [] t same = absurd (omega arith)
same_tail (x ∷ xs) (y ∷ ys) t same = ap (ordering_then (nat_cmp x y)) (same_tail xs ys t (omega arith))

-- the byte order of segments is the order of their versions
pub segment_order : (v w : ℕ) → v < 10 ^ 20 → w < 10 ^ 20 → slice_cmp nat_cmp (segment_of v) (segment_of w) ≡ nat_cmp v w
segment_order v w lt less =
    let p = is_padded v lt in
    let q = is_padded w less in
    same_tail (padded v) (padded w) (codes ".json") (p.size ∙ sym q.size) ∙ order (padded v) (padded w) (p.size ∙ sym q.size) p.digits q.digits
    ∙ ap (λ n. nat_cmp n (weighed (padded w))) p.writes ∙ ap (nat_cmp v) q.writes

commit_segment : (s ds : List ℕ) (v : ℕ) → length s ≡ 25 → take 20 s ≡ ds → drop 20 s ≡ codes ".json" → are_digits ds ≡ true → digits_value 10 ds ≡ v → v < 2 ^ 63 → is_commit_segment s ≡ true
commit_segment s ds v size front back digits is lt = rw (size, back, front, digits, is, lt-ltb v (2 ^ 63) lt) refl

-- what the segment of a version names
pub version_of-segment_of : (v : ℕ) → v < 2 ^ 63 → version_of (segment_of v) ≡ Some v
version_of-segment_of v lt =
    let p = is_padded v (omega arith) in
    let front : take 20 (segment_of v) ≡ padded v = take_at (padded v) (codes ".json") 20 p.size in
    let back : drop 20 (segment_of v) ≡ codes ".json" = drop_at (padded v) (codes ".json") 20 p.size in
    let size : length (segment_of v) ≡ 25 = length-append (padded v) (codes ".json") ∙ ap (λ n. n + 5) p.size in
    let is : digits_value 10 (padded v) ≡ v = sym (value (padded v) p.digits) ∙ p.writes in
    let test : is_commit_segment (segment_of v) ≡ true = commit_segment (segment_of v) (padded v) v size front back p.digits is lt in
    ap (λ b. cond b (Some (digits_value 10 (take 20 (segment_of v)))) None) test ∙ ap (λ ds. Some (digits_value 10 ds)) front ∙ ap Some is

eqb_is : (m n : ℕ) → (m == n) ≡ true → m ≡ n
eqb_is m n e = search (arith, tests)

ltb_is : (m n : ℕ) → nat_lt m n ≡ true → m < n
ltb_is m n e = search (arith, tests)

-- a segment that names a commit is its version's
pub named : (s : List ℕ) → is_commit_segment s ≡ true → IsSegmentOf s (digits_value 10 (take 20 s))
named s is =
    let a = and_parts (length s == 25) _ is in
    let b = and_parts (bytes_eq (drop 20 s) (codes ".json")) _ a.1 in
    let c = and_parts (are_digits (take 20 s)) (nat_lt (digits_value 10 (take 20 s)) (2 ^ 63)) b.1 in
    let size : length s ≡ 25 = eqb_is (length s) 25 a.0 in
    let v = digits_value 10 (take 20 s) in
    let lt : v < 2 ^ 63 = ltb_is v (2 ^ 63) c.1 in
    let p = is_padded v (omega arith) in
    let back : drop 20 s ≡ codes ".json" = (bytes_eq-Decides (drop 20 s) (codes ".json")).0 b.0 in
    let long : length (take 20 s) ≡ length (padded v) = length-take-le 20 s (omega arith) ∙ sym p.size in
    let same : slice_cmp nat_cmp (take 20 s) (padded v) ≡ Equal
    = order (take 20 s) (padded v) long c.0 p.digits ∙ ap (λ n. nat_cmp (weighed (take 20 s)) n) p.writes ∙ ap (λ n. nat_cmp n v) (value (take 20 s) c.0) ∙ sym (nat_cmp_is v v Equal refl) in
    let front : take 20 s ≡ padded v = slice_cmp-IsAntisymmetric nat_cmp-IsAntisymmetric (take 20 s) (padded v) same in
    (lt, sym (take-append-drop 20 s) ∙ ap (λ ds. ds ++ drop 20 s) front ∙ ap (λ e. padded v ++ e) back)

found_case : (s : List ℕ) (b : Bool) → is_commit_segment s ≡ b → IfSome (cond b (Some (digits_value 10 (take 20 s))) None) (λ v. IsSegmentOf s v)
found_case s true e = named s e
found_case s false e = tt

pub found_is : (s : List ℕ) (o : Option ℕ) → o ≡ version_of s → IfSome o (λ v. IsSegmentOf s v)
found_is s o is = subst (λ r. IfSome r (λ v. IsSegmentOf s v)) (sym is) (found_case s (is_commit_segment s) refl)

-- the version of a segment is what the segment names
pub names_it : (s : List ℕ) (v : ℕ) → IsSegmentOf s v → version_of s ≡ Some v
names_it s v h = ap version_of h.1 ∙ version_of-segment_of v h.0

none_case : (s : List ℕ) (o : Option ℕ) → o ≡ version_of s → IfNone o ((v : ℕ) → IsSegmentOf s v → ⊥)
none_case s None is = λ v h. absurd (true≢false (ap is_some (sym (is ∙ names_it s v h))))
none_case s (Some w) is = tt

pub none_is : (s : List ℕ) (o : Option ℕ) → o ≡ version_of s → IfNone o ((v : ℕ) → IsSegmentOf s v → ⊥)
none_is s o is = none_case s o is
