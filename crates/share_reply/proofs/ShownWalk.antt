-- Pages of what is shown, cut in one walk over all.
use Rattle.std.proofs.Common.{◌≡◌, ℕ, zero, suc, ◌+◌, ◌≤◌, ◌<◌, List, [], ◌∷◌, ◌++◌, take, length, Option, Some, None, Bool, true, false, cond, refl, sym, ap, ◌∙◌, subst, arith}
use Rattle.std.specs.Prelude.{filter, slice_get}
use Rattle.std.proofs.lemmas.List.{append-nil, length-append, take_all}
use Rattle.std.proofs.lemmas.Option.{slice_get_within}
use Rattle.share_reply.specs.Cuts.{IsCut, is_full}
use Rattle.share_reply.proofs.Cutting.{IsWithin, Walked, filter_next, walk_begins, walk_ends, walk_is_full, walk_passes_over, walk_takes}

-- an element that is shown stands among the shown ones behind those of the front
pub shown_at : {X : Type 0} (s : X → Bool) (xs : List X) (n : ℕ) (x : X) → slice_get xs n ≡ Some x → s x ≡ true → slice_get (filter s xs) (length (filter s (take n xs))) ≡ Some x
shown_at s [] n x is shown = absurd cc
shown_at s (y ∷ ys) zero x is shown = let same : y ≡ x = cc in rw same (rw shown refl)
shown_at s (y ∷ ys) (suc n) x is shown =
    elim (s y) as (λ b. slice_get (cond b (y ∷ filter s ys) (filter s ys)) (length (cond b (y ∷ filter s (take n ys)) (filter s (take n ys)))) ≡ Some x) [
      | true ↦ shown_at s ys n x is shown
      | false ↦ shown_at s ys n x is shown
    ]

-- how many are shown of one more
pub count_shown : {X : Type 0} (s : X → Bool) (xs : List X) (n : ℕ) (x : X) → slice_get xs n ≡ Some x → s x ≡ true → length (filter s (take (suc n) xs)) ≡ suc (length (filter s (take n xs)))
count_shown s xs n x is shown =
    let one : filter s (x ∷ []) ≡ x ∷ [] = rw shown refl in
    ap length (filter_next s xs n x is ∙ ap (λ ys. filter s (take n xs) ++ ys) one) ∙ (let e = length-append (filter s (take n xs)) (x ∷ []) in omega (arith, e))

pub count_hidden : {X : Type 0} (s : X → Bool) (xs : List X) (n : ℕ) (x : X) → slice_get xs n ≡ Some x → s x ≡ false → length (filter s (take (suc n) xs)) ≡ length (filter s (take n xs))
count_hidden s xs n x is hidden =
    let none : filter s (x ∷ []) ≡ [] = rw hidden refl in
    ap length (filter_next s xs n x is ∙ ap (λ ys. filter s (take n xs) ++ ys) none ∙ append-nil (filter s (take n xs)))

-- So many were seen, and behind the place so much was found.
pub record Seen {X : Type 0} (s test : X → Bool) (place at : ℕ) (xs found : List X) (next seen : ℕ) : Type 0 where
  pub counted : seen ≡ length (filter s (take at xs))
  pub before : seen ≤ place → Walked test place place (filter s xs) found next
  pub behind : place ≤ seen → Walked test place seen (filter s xs) found next

pub seen_begins : {X : Type 0} (s test : X → Bool) (place : ℕ) (xs : List X) → Seen s test place 0 xs [] place 0
seen_begins s test place xs = record {
  counted = refl;
  before = λ le. walk_begins test place (filter s xs);
  behind = λ le. let e : place ≡ 0 = omega (arith, le) in subst (λ n. Walked test place n (filter s xs) [] place) e (walk_begins test place (filter s xs));
}

pub seen_hidden : {X : Type 0} (s test : X → Bool) (place at : ℕ) (xs found : List X) (next seen : ℕ) (x : X) → Seen s test place at xs found next seen → slice_get xs at ≡ Some x → s x ≡ false → Seen s test place (at + 1) xs found next seen
seen_hidden s test place at xs found next seen x w is hidden = record {
  counted = let e : suc at ≡ at + 1 = omega arith in w.counted ∙ sym (count_hidden s xs at x is hidden) ∙ ap (λ n. length (filter s (take n xs))) e;
  before = w.before;
  behind = w.behind;
}

shown_there : {X : Type 0} (s test : X → Bool) (place at : ℕ) (xs found : List X) (next seen : ℕ) (x : X) → Seen s test place at xs found next seen → slice_get xs at ≡ Some x → s x ≡ true → slice_get (filter s xs) seen ≡ Some x
shown_there s test place at xs found next seen x w is shown = ap (slice_get (filter s xs)) w.counted ∙ shown_at s xs at x is shown

one_more : {X : Type 0} (s test : X → Bool) (place at : ℕ) (xs found : List X) (next seen : ℕ) (x : X) → Seen s test place at xs found next seen → slice_get xs at ≡ Some x → s x ≡ true → seen + 1 ≡ length (filter s (take (at + 1) xs))
one_more s test place at xs found next seen x w is shown =
    let e : suc at ≡ at + 1 = omega arith in
    let f : seen + 1 ≡ suc seen = omega arith in
    f ∙ ap suc w.counted ∙ sym (count_shown s xs at x is shown) ∙ ap (λ n. length (filter s (take n xs))) e

-- it is shown, and stands before the place
pub seen_before : {X : Type 0} (s test : X → Bool) (place at : ℕ) (xs found : List X) (next seen : ℕ) (x : X) → Seen s test place at xs found next seen → slice_get xs at ≡ Some x → s x ≡ true → seen < place
    → Seen s test place (at + 1) xs found next (seen + 1)
seen_before s test place at xs found next seen x w is shown less = record {
  counted = one_more s test place at xs found next seen x w is shown;
  before = λ le. w.before (omega (arith, less));
  behind = λ le. let e : place ≡ seen + 1 = omega (arith, less, le) in subst (λ n. Walked test place n (filter s xs) found next) e (w.before (omega (arith, less)));
}

-- it is shown, and isn't listed
pub seen_over : {X : Type 0} (s test : X → Bool) (place at : ℕ) (xs found : List X) (next seen : ℕ) (x : X) → Seen s test place at xs found next seen → slice_get xs at ≡ Some x → s x ≡ true → place ≤ seen → test x ≡ false
    → Seen s test place (at + 1) xs found next (seen + 1)
seen_over s test place at xs found next seen x w is shown later fails = record {
  counted = one_more s test place at xs found next seen x w is shown;
  before = λ le. absurd (omega (arith, later, le));
  behind = λ le. walk_passes_over test place seen (filter s xs) found next x (w.behind later) later (shown_there s test place at xs found next seen x w is shown) fails;
}

-- it is shown and listed
pub seen_takes : {X : Type 0} (s test : X → Bool) (place at : ℕ) (xs found : List X) (next seen : ℕ) (x : X) → Seen s test place at xs found next seen → slice_get xs at ≡ Some x → s x ≡ true → place ≤ seen → test x ≡ true
    → Seen s test place (at + 1) xs (found ++ (x ∷ [])) (seen + 1) (seen + 1)
seen_takes s test place at xs found next seen x w is shown later passes = record {
  counted = one_more s test place at xs found next seen x w is shown;
  before = λ le. absurd (omega (arith, later, le));
  behind = λ le. walk_takes test place seen (filter s xs) found next x (w.behind later) later (shown_there s test place at xs found next seen x w is shown) passes;
}

-- the page is full
pub seen_full : {X : Type 0} (s test : X → Bool) (place at : ℕ) (xs found : List X) (next seen : ℕ) (most : Option ℕ) (x : X) → Seen s test place at xs found next seen → slice_get xs at ≡ Some x → s x ≡ true → place ≤ seen → test x ≡ true
    → is_full (length found) most ≡ true → IsWithin most (length found) → IsCut test most place (filter s xs) found (Some next)
seen_full s test place at xs found next seen most x w is shown later passes full within =
    let few : seen < length (filter s xs) = slice_get_within (filter s xs) seen x (shown_there s test place at xs found next seen x w is shown) in
    let p = walk_is_full test place seen (filter s xs) found next most x (w.behind later) later (shown_there s test place at xs found next seen x w is shown) passes full within in
    record { within = omega (arith, later, few); found_is = p.0; next_is = p.1 }

-- the list has ended
pub seen_ends : {X : Type 0} (s test : X → Bool) (place at : ℕ) (xs found : List X) (next seen : ℕ) (most : Option ℕ) → Seen s test place at xs found next seen → length xs ≤ at → place ≤ seen → IsWithin most (length found)
    → IsCut test most place (filter s xs) found None
seen_ends s test place at xs found next seen most w end later within =
    let all : seen ≡ length (filter s xs) = w.counted ∙ ap (λ ys. length (filter s ys)) (take_all at xs end) in
    let p = walk_ends test place seen (filter s xs) found next most (w.behind later) (omega (arith, all)) within in
    record { within = omega (arith, all, later); found_is = p.0; next_is = p.1 }

pub seen_few : {X : Type 0} (s test : X → Bool) (place at : ℕ) (xs found : List X) (next seen : ℕ) → Seen s test place at xs found next seen → length xs ≤ at → seen < place → length (filter s xs) < place
seen_few s test place at xs found next seen w end less =
    let all : seen ≡ length (filter s xs) = w.counted ∙ ap (λ ys. length (filter s ys)) (take_all at xs end) in
    omega (arith, all, less)
