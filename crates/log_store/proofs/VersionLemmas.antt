-- The versions that a folder's names stand for, and the first that no name stands for.
use Rattle.std.proofs.Common.{◌≡◌, ℕ, ◌+◌, ◌<◌, ◌≤◌, List, [], ◌∷◌, length, fold, Bool, true, false, ◌||◌, ◌==◌, Option, Some, None, refl, sym, ap, ◌∙◌, subst, arith, bytes_eq, codes, append_assoc, true≢false, Less, max, cond, nat_le}
use Rattle.std.specs.Prelude.{◌^◌, filter_map, is_some}
use Rattle.std.specs.List.{AllByRecursion, list_any, cons_option}
use Rattle.std.specs.List.Sorted.{IsStrictlySortedBy}
use Rattle.std.specs.Ordering.{nat_cmp}
use Rattle.std.proofs.lemmas.Cmp.{ranked}
use Rattle.std.specs.Cmp.Lexicographic.{slice_cmp}
use Rattle.std.specs.FinMap as finmap
use Rattle.std.proofs.lemmas.Bool.{eqb-true, eq-eqb}
use Rattle.std.proofs.lemmas.Bool.Decides.{nat_tests}
use Rattle.std.proofs.lemmas.Slice.Eq.{bytes_eq-Decides}
use Rattle.edge_core.specs.Objects.{Objects, listing}
use Rattle.edge_core.proofs.Listings.{listing_has, listing_rises}
use Rattle.log_commit.specs.Names.{IsSegmentOf, folder, segment_of, version_of}
use Rattle.edge_core.proofs.Numbered.{numbered_no_slash}
use Rattle.log_commit.proofs.Segments.{found_is, names_it, segment_order}
use Rattle.log_store.specs.Log.{end_of, text_at, versions_in}
use Rattle.log_store.specs.Reading.{AreStored, leading_from}

-- each is greater than those before it
abbrev pub Rises : List ℕ → Type 0
Rises [] = Unit {0}
Rises (v ∷ vs) = AllByRecursion (λ w. v < w) vs × Rises vs

same_test : (a b : Bool) → (a ≡ true → b ≡ true) → (b ≡ true → a ≡ true) → a ≡ b
same_test true b f g = sym (f refl)
same_test false true f g = g refl
same_test false false f g = refl

or_true : (a b : Bool) → b ≡ true → (a || b) ≡ true
or_true true b e = refl
or_true false b e = e

or_first : (a b : Bool) → a ≡ true → (a || b) ≡ true
or_first a b e = rw e refl

neither : (a b : Bool) → a ≡ false → b ≡ false → (a || b) ≡ false
neither a b e f = rw e f

some-none : {X : Type 0} {x : X} → None ≡ Some x → ⊥
some-none e = cc

-- the segment of a version
segment_is : (s : List ℕ) (v : ℕ) → version_of s ≡ Some v → IsSegmentOf s v
segment_is s v is = found_is s (Some v) (sym is)

lower : (s t : List ℕ) (v w : ℕ) → version_of s ≡ Some v → version_of t ≡ Some w → slice_cmp nat_cmp s t ≡ Less → v < w
lower s t v w first second less =
    let a = segment_is s v first in
    let b = segment_is t w second in
    ranked v w Less (sym (sym (segment_order v w (omega (arith, a.0)) (omega (arith, b.0))) ∙ ap (λ x. slice_cmp nat_cmp x (segment_of w)) (sym a.1) ∙ ap (slice_cmp nat_cmp s) (sym b.1) ∙ less))

above_one : (s t : List ℕ) (v : ℕ) (o : Option ℕ) (rest : List ℕ) → version_of s ≡ Some v → version_of t ≡ o → slice_cmp nat_cmp s t ≡ Less → AllByRecursion (λ w. v < w) rest → AllByRecursion (λ w. v < w) (cons_option o rest)
above_one s t v None rest first second less more = more
above_one s t v (Some w) rest first second less more = (lower s t v w first second less, more)

above : (s : List ℕ) (v : ℕ) (ts : List (List ℕ)) → version_of s ≡ Some v → AllByRecursion (λ t. slice_cmp nat_cmp s t ≡ Less) ts → AllByRecursion (λ w. v < w) (filter_map version_of ts)
above s v [] is h = tt
above s v (t ∷ ts) is h = above_one s t v (version_of t) (filter_map version_of ts) is refl h.0 (above s v ts is h.1)

rises_one : (s : List ℕ) (ts : List (List ℕ)) (o : Option ℕ) → version_of s ≡ o → AllByRecursion (λ t. slice_cmp nat_cmp s t ≡ Less) ts → Rises (filter_map version_of ts) → Rises (cons_option o (filter_map version_of ts))
rises_one s ts None is h more = more
rises_one s ts (Some v) is h more = (above s v ts is h, more)

rises_all : (ss : List (List ℕ)) → IsStrictlySortedBy (slice_cmp nat_cmp) ss → Rises (filter_map version_of ss)
unfolding IsStrictlySortedBy
rises_all [] h = tt
rises_all (s ∷ ss) h = rises_one s ss (version_of s) refl h.0 (rises_all ss h.1)

-- the versions of a folder rise
versions_rise : (location : List ℕ) (os : Objects) → Rises (versions_in location os)
versions_rise location os = rises_all (listing (folder location) os) (listing_rises (folder location) os)

abbrev is_that : ℕ → Option ℕ → Bool
is_that v None = false
is_that v (Some w) = w == v

any_that : (v : ℕ) (o : Option ℕ) (rest : List ℕ) → list_any (λ w. w == v) (cons_option o rest) ≡ (is_that v o || list_any (λ w. w == v) rest)
any_that v None rest = refl
any_that v (Some w) rest = refl

that_is : (v : ℕ) (o : Option ℕ) → is_that v o ≡ true → o ≡ Some v
that_is v None e = absurd (true≢false (sym e))
that_is v (Some w) e = ap Some (eqb-true w v e)

is_that_one : (v : ℕ) (o : Option ℕ) → o ≡ Some v → is_that v o ≡ true
is_that_one v o is = rw is (eq-eqb v v refl)

that_segment : (v : ℕ) (s : List ℕ) → v < 2 ^ 63 → is_that v (version_of s) ≡ bytes_eq (segment_of v) s
that_segment v s small = same_test _ _
    (λ e. (bytes_eq-Decides (segment_of v) s).1 (sym (segment_is s v (that_is v (version_of s) e)).1))
    (λ e. is_that_one v (version_of s) (names_it s v (small, sym ((bytes_eq-Decides (segment_of v) s).0 e))))

named_in : (v : ℕ) (ss : List (List ℕ)) → v < 2 ^ 63 → list_any (λ w. w == v) (filter_map version_of ss) ≡ list_any (bytes_eq (segment_of v)) ss
named_in v [] small = refl
named_in v (s ∷ ss) small =
    any_that v (version_of s) (filter_map version_of ss)
    ∙ ap (λ b. b || list_any (λ w. w == v) (filter_map version_of ss)) (that_segment v s small)
    ∙ ap (λ r. bytes_eq (segment_of v) s || r) (named_in v ss small)

-- a version is among those of the folder exactly where its commit is stored
pub is_stored : (location : List ℕ) (os : Objects) (v : ℕ) → v < 2 ^ 63 → list_any (λ w. w == v) (versions_in location os) ≡ is_some (text_at location os v)
is_stored location os v small =
    named_in v (listing (folder location) os) small
    ∙ listing_has (folder location) (segment_of v) os (numbered_no_slash v (omega (arith, small)))
    ∙ ap (λ n. is_some (finmap.get os n)) (sym (append_assoc (folder location) (codes "/") (segment_of v)))

step_or_here : (first w v : ℕ) (vs : List ℕ) → w ≡ first → first ≤ v → (first + 1 ≤ v → list_any (λ x. x == v) vs ≡ true) → list_any (λ x. x == v) (w ∷ vs) ≡ true
step_or_here first w v vs is low later =
    elim (nat_le (first + 1) v) as (λ b. nat_le (first + 1) v ≡ b → list_any (λ x. x == v) (w ∷ vs) ≡ true) [
      | true ↦ λ e. or_true _ _ (later (grind (arith, nat_tests, e)))
      | false ↦ λ e. or_first _ _ (eq-eqb w v (grind (arith, nat_tests, e, low, is)))
    ] refl

-- each of the leading versions is among them
leading_has : (first : ℕ) (vs : List ℕ) (v : ℕ) → first ≤ v → v < first + leading_from first vs → list_any (λ w. w == v) vs ≡ true
leading_has first [] v low lt = absurd (omega (arith, low, lt))
leading_has first (w ∷ vs) v low lt =
    elim (w == first) as (λ b. (w == first) ≡ b → v < first + cond b (leading_from (first + 1) vs + 1) 0 → list_any (λ x. x == v) (w ∷ vs) ≡ true) [
      | true ↦ λ e lt. step_or_here first w v vs (eqb-true w first e) low (λ next. leading_has (first + 1) vs v next (omega (arith, lt)))
      | false ↦ λ e lt. absurd (omega (arith, low, lt))
    ] refl lt

pub max_keeps : (a : ℕ) (vs : List ℕ) → a ≤ fold (λ end v. max end (v + 1)) a vs
max_keeps a [] = omega arith
max_keeps a (v ∷ vs) = let h = max_keeps (max a (v + 1)) vs in omega (arith, h)

differs : (w v : ℕ) → (w ≡ v → ⊥) → (w == v) ≡ false
differs w v no_tie =
    elim (w == v) as (λ b. (w == v) ≡ b → b ≡ false) [
      | true ↦ λ e. absurd (no_tie (eqb-true w v e))
      | false ↦ λ e. refl
    ] refl

other : (w v : ℕ) → (w == v) ≡ false → w ≡ v → ⊥
other w v e is = true≢false (sym (eq-eqb w v is) ∙ e)

-- no version of greater ones
lacks_above : (v : ℕ) (vs : List ℕ) → AllByRecursion (λ w. v < w) vs → list_any (λ w. w == v) vs ≡ false
lacks_above v [] h = refl
lacks_above v (w ∷ vs) h = neither _ _ (differs w v (λ e. absurd (omega (arith, e, h.0)))) (lacks_above v vs h.1)

all_from : (v : ℕ) (vs : List ℕ) → AllByRecursion (λ w. v < w) vs → AllByRecursion (λ w. v + 1 ≤ w) vs
all_from v [] h = tt
all_from v (w ∷ vs) h = (omega (arith, h.0), all_from v vs h.1)

all_above : (v u : ℕ) (vs : List ℕ) → v ≤ u → AllByRecursion (λ w. u < w) vs → AllByRecursion (λ w. v < w) vs
all_above v u [] le h = tt
all_above v u (w ∷ vs) le h = (omega (arith, le, h.0), all_above v u vs le h.1)

-- where the leading versions end before the last, the next one isn't among them, and a later one is
abbrev IsGapAt : ℕ → List ℕ → ℕ → Type 0
IsGapAt first vs n = (list_any (λ w. w == (first + n)) vs ≡ false) × ((a : ℕ) → first + n < fold (λ end v. max end (v + 1)) a vs)

abbrev IsGap : ℕ → List ℕ → Type 0
IsGap first vs = IsGapAt first vs (leading_from first vs)

gap_more : (first w n : ℕ) (vs : List ℕ) → w ≡ first → list_any (λ x. x == (first + 1 + n)) vs ≡ false → list_any (λ x. x == (first + (n + 1))) (w ∷ vs) ≡ false
gap_more first w n vs is lacks =
    let at : first + 1 + n ≡ first + (n + 1) = omega arith in
    neither _ _ (differs w (first + (n + 1)) (λ e. absurd (omega (arith, e, is)))) (subst (λ k. list_any (λ x. x == k) vs ≡ false) at lacks)

is_gap : (first : ℕ) (vs : List ℕ) → Rises vs → AllByRecursion (λ w. first ≤ w) vs → leading_from first vs < length vs → IsGap first vs
is_gap first [] rise from lt = absurd (omega (arith, lt))
is_gap first (w ∷ vs) rise from lt =
    elim (w == first) as (λ b. (w == first) ≡ b → cond b (leading_from (first + 1) vs + 1) 0 < length (w ∷ vs) → IsGapAt first (w ∷ vs) (cond b (leading_from (first + 1) vs + 1) 0)) [
      | true ↦ λ e lt.
          let is : w ≡ first = eqb-true w first e in
          let g : IsGap (first + 1) vs = is_gap (first + 1) vs rise.1 (subst (λ k. AllByRecursion (λ x. k + 1 ≤ x) vs) is (all_from w vs rise.0)) (omega (arith, lt)) in
          (gap_more first w (leading_from (first + 1) vs) vs is g.0, λ a. let h = g.1 (max a (w + 1)) in omega (arith, h))
      | false ↦ λ e lt.
          let over : first < w = omega (arith, from.0, other w first e) in (
            neither _ _ (differs w (first + 0) (λ e. absurd (omega (arith, e, over)))) (lacks_above (first + 0) vs (all_above (first + 0) w vs (omega (arith, over)) rise.0)),
            λ a. let h = max_keeps (max a (w + 1)) vs in omega (arith, h, over),
          )
    ] refl lt

least_max : (i : ℕ) → max i (i + 1) ≡ i + 1
least_max i = omega arith

-- where all versions are leading, they end after the last
whole_end : (first : ℕ) (vs : List ℕ) → leading_from first vs ≡ length vs → fold (λ end v. max end (v + 1)) first vs ≡ first + length vs
whole_end first [] all = omega arith
whole_end first (w ∷ vs) all =
    elim (w == first) as (λ b. (w == first) ≡ b → cond b (leading_from (first + 1) vs + 1) 0 ≡ length (w ∷ vs) → fold (λ end v. max end (v + 1)) first (w ∷ vs) ≡ first + length (w ∷ vs)) [
      | true ↦ λ e all.
          let is : w ≡ first = eqb-true w first e in
          ap (λ x. fold (λ end v. max end (v + 1)) (max first (x + 1)) vs) is ∙ ap (λ k. fold (λ end v. max end (v + 1)) k vs) (least_max first)
          ∙ whole_end (first + 1) vs (omega (arith, all)) ∙ omega arith
      | false ↦ λ e all. absurd (omega (arith, all))
    ] refl all

pub leading_most : (first : ℕ) (vs : List ℕ) → leading_from first vs ≤ length vs
leading_most first [] = omega arith
leading_most first (w ∷ vs) =
    let h = leading_most (first + 1) vs in
    elim (w == first) as (λ b. cond b (leading_from (first + 1) vs + 1) 0 ≤ length (w ∷ vs)) [ true ↦ omega (arith, h) | false ↦ omega arith ]

all_zero : (vs : List ℕ) → AllByRecursion (λ w. 0 ≤ w) vs
all_zero [] = tt
all_zero (w ∷ vs) = (omega arith, all_zero vs)

there : (o : Option (List ℕ)) → is_some o ≡ true → (bytes : List ℕ) × (o ≡ Some bytes)
there None e = absurd (true≢false (sym e))
there (Some bytes) e = (bytes, refl)

absent : (o : Option (List ℕ)) → is_some o ≡ false → o ≡ None
absent None e = refl
absent (Some bytes) e = absurd (true≢false e)

-- the leading versions are stored
pub leading_stored : (location : List ℕ) (os : Objects) (vs : List ℕ) → vs ≡ versions_in location os → length vs < 2 ^ 63 → AreStored location (leading_from 0 vs) os
leading_stored location os vs is small = λ v lt.
    let most = leading_most 0 vs in
    there (text_at location os v) (sym (is_stored location os v (omega (arith, lt, most, small))) ∙ ap (list_any (λ w. w == v)) (sym is) ∙ leading_has 0 vs v (omega arith) (omega (arith, lt)))

-- the version after them isn't, where others are named, and one of those is later
pub gap_there : (location : List ℕ) (os : Objects) (vs : List ℕ) → vs ≡ versions_in location os → length vs < 2 ^ 63 → leading_from 0 vs < length vs → (text_at location os (leading_from 0 vs) ≡ None) × (leading_from 0 vs < end_of vs)
gap_there location os vs is small lt =
    let g = is_gap 0 vs (subst Rises (sym is) (versions_rise location os)) (all_zero vs) lt in
    let at : 0 + leading_from 0 vs ≡ leading_from 0 vs = omega arith in
    let lacks : list_any (λ w. w == leading_from 0 vs) vs ≡ false = subst (λ k. list_any (λ w. w == k) vs ≡ false) at g.0 in (
      absent (text_at location os (leading_from 0 vs)) (sym (is_stored location os (leading_from 0 vs) (omega (arith, lt, small))) ∙ ap (list_any (λ w. w == leading_from 0 vs)) (sym is) ∙ lacks),
      let h = g.1 0 in omega (arith, h),
    )

-- where all are leading, the last stands below the end
pub all_leading : (vs : List ℕ) → leading_from 0 vs ≡ length vs → end_of vs ≡ leading_from 0 vs
all_leading vs all = let h = whole_end 0 vs all in omega (arith, h, all)
