-- Pages cut of a list in one walk.
use Rattle.std.proofs.Common.{◌≡◌, ℕ, zero, suc, ◌+◌, ◌-◌, ◌≤◌, ◌<◌, List, [], ◌∷◌, ◌++◌, take, drop, length, Option, Some, None, Bool, true, false, refl, sym, ap, ◌∙◌, arith}
use Rattle.std.specs.Prelude.{filter, slice_get, nat_lt, ⊤, if◌then◌else◌}
use Rattle.std.proofs.lemmas.Bool.{leb-true, lt-ltb}
use Rattle.std.proofs.lemmas.Bool.Decides.{nat_tests}
use Rattle.std.proofs.lemmas.List.{append-nil, length-append, length-take-le, take_all, length-drop}
use Rattle.std.proofs.lemmas.List.Elements.{filter-append}
use Rattle.std.proofs.lemmas.Option.{slice_get_within}
use Rattle.std.proofs.Math.Seq.{take-append_seam}
use Rattle.share_reply.specs.Pages.{given, up_to, next_place}
use Rattle.share_reply.specs.Cuts.{is_full}

-- ---- lists at a place

pub split_at : {X : Type 0} (xs : List X) (n : ℕ) (x : X) → slice_get xs n ≡ Some x → xs ≡ take n xs ++ (x ∷ drop (suc n) xs)
split_at [] n x is = absurd cc
split_at (y ∷ ys) zero x is = let same : y ≡ x = cc in rw same refl
split_at (y ∷ ys) (suc n) x is = ap (λ zs. y ∷ zs) (split_at ys n x is)

pub take_next : {X : Type 0} (xs : List X) (n : ℕ) (x : X) → slice_get xs n ≡ Some x → take (suc n) xs ≡ take n xs ++ (x ∷ [])
take_next [] n x is = absurd cc
take_next (y ∷ ys) zero x is = let same : y ≡ x = cc in rw same refl
take_next (y ∷ ys) (suc n) x is = ap (λ zs. y ∷ zs) (take_next ys n x is)

pub get_behind : {X : Type 0} (place n : ℕ) (xs : List X) (x : X) → slice_get xs (place + n) ≡ Some x → slice_get (drop place xs) n ≡ Some x
get_behind zero n xs x is = let e : 0 + n ≡ n = omega arith in rw e at is
get_behind (suc place) n [] x is = absurd cc
get_behind (suc place) n (y ∷ ys) x is = let e : suc place + n ≡ suc (place + n) = omega arith in get_behind place n ys x (rw e at is)

-- the element at a place stands so far behind an earlier place
pub get_from : {X : Type 0} (place at : ℕ) (xs : List X) (x : X) → place ≤ at → slice_get xs at ≡ Some x → slice_get (drop place xs) (at - place) ≡ Some x
get_from place at xs x later is = let e : at ≡ place + (at - place) = omega arith in get_behind place (at - place) xs x (ap (slice_get xs) (sym e) ∙ is)

-- ---- how many stand up to the k-th that passes

up_to_step : {X : Type 0} (test : X → Bool) (y : X) (ys : List X) (x : X) (back : List X) (b : Bool) → test y ≡ b → up_to test (suc (length (filter test ys))) (ys ++ (x ∷ back)) ≡ suc (length ys)
    → up_to test (suc (length (filter test (y ∷ ys)))) ((y ∷ ys) ++ (x ∷ back)) ≡ suc (length (y ∷ ys))
up_to_step test y ys x back true is rest = rw is (ap suc rest)
up_to_step test y ys x back false is rest = rw is (ap suc rest)

up_to_front : {X : Type 0} (test : X → Bool) (front : List X) (x : X) (back : List X) → test x ≡ true → up_to test (suc (length (filter test front))) (front ++ (x ∷ back)) ≡ suc (length front)
up_to_front test [] x back pass = rw pass refl
up_to_front test (y ∷ ys) x back pass = up_to_step test y ys x back (test y) refl (up_to_front test ys x back pass)

pub up_to_at : {X : Type 0} (test : X → Bool) (rest : List X) (n : ℕ) (x : X) → slice_get rest n ≡ Some x → test x ≡ true → up_to test (suc (length (filter test (take n rest)))) rest ≡ suc n
up_to_at test rest n x is pass =
    ap (up_to test (suc (length (filter test (take n rest))))) (split_at rest n x is)
    ∙ up_to_front test (take n rest) x (drop (suc n) rest) pass
    ∙ ap suc (let within : n < length rest = slice_get_within rest n x is in length-take-le n rest (omega arith))

-- what passes of the front, and of one more
pub filter_next : {X : Type 0} (test : X → Bool) (rest : List X) (n : ℕ) (x : X) → slice_get rest n ≡ Some x → filter test (take (suc n) rest) ≡ filter test (take n rest) ++ filter test (x ∷ [])
filter_next test rest n x is = ap (filter test) (take_next rest n x is) ∙ filter-append test (take n rest) (x ∷ [])

pub filter_split : {X : Type 0} (test : X → Bool) (rest : List X) (n : ℕ) (x : X) → slice_get rest n ≡ Some x → filter test rest ≡ filter test (take n rest) ++ filter test (x ∷ drop (suc n) rest)
filter_split test rest n x is = ap (filter test) (split_at rest n x is) ∙ filter-append test (take n rest) (x ∷ drop (suc n) rest)

-- ---- the walk

-- Up to a place so much was found, and behind the last of it the next page would begin.
pub record Walked {X : Type 0} (test : X → Bool) (place at : ℕ) (xs found : List X) (next : ℕ) : Type 0 where
  pub found_is : found ≡ filter test (take (at - place) (drop place xs))
  pub next_is : next ≡ place + up_to test (length found) (drop place xs)

abbrev pub IsWithin : Option ℕ → ℕ → Type 0
IsWithin None n = ⊤
IsWithin (Some most) n = n ≤ most

pub walk_begins : {X : Type 0} (test : X → Bool) (place : ℕ) (xs : List X) → Walked test place place xs [] place
walk_begins test place xs = record {
  found_is = let e : place - place ≡ 0 = omega arith in rw e refl;
  next_is = let e : place ≡ place + 0 = omega arith in e;
}

pub walk_passes_over : {X : Type 0} (test : X → Bool) (place at : ℕ) (xs found : List X) (next : ℕ) (x : X) → Walked test place at xs found next → place ≤ at → slice_get xs at ≡ Some x → test x ≡ false
    → Walked test place (at + 1) xs found next
walk_passes_over test place at xs found next x walked later is fails = record {
  found_is =
      let e : at + 1 - place ≡ suc (at - place) = omega arith in
      let none : filter test (x ∷ []) ≡ [] = rw fails refl in
      let more = filter_next test (drop place xs) (at - place) x (get_from place at xs x later is) in
      walked.found_is ∙ sym (append-nil _) ∙ ap (λ ys. filter test (take (at - place) (drop place xs)) ++ ys) (sym none) ∙ sym more ∙ ap (λ n. filter test (take n (drop place xs))) (sym e);
  next_is = walked.next_is;
}

pub walk_takes : {X : Type 0} (test : X → Bool) (place at : ℕ) (xs found : List X) (next : ℕ) (x : X) → Walked test place at xs found next → place ≤ at → slice_get xs at ≡ Some x → test x ≡ true
    → Walked test place (at + 1) xs (found ++ (x ∷ [])) (at + 1)
walk_takes {X} test place at xs found next x walked later is pass = record {
  found_is =
      let e : at + 1 - place ≡ suc (at - place) = omega arith in
      let one : filter test (x ∷ []) ≡ x ∷ [] = rw pass refl in
      let more = filter_next test (drop place xs) (at - place) x (get_from place at xs x later is) in
      ap (λ ys. ys ++ (x ∷ [])) walked.found_is ∙ ap (λ ys. filter test (take (at - place) (drop place xs)) ++ ys) (sym one) ∙ sym more ∙ ap (λ n. filter test (take n (drop place xs))) (sym e);
  next_is =
      let there = get_from place at xs x later is in
      let stands = up_to_at test (drop place xs) (at - place) x there pass in
      let count : length (found ++ (x ∷ [])) ≡ suc (length found) = omega (arith, length-append found (x ∷ [])) in
      let same : length found ≡ length (filter test (take (at - place) (drop place xs))) = ap length walked.found_is in
      let e : at + 1 ≡ place + suc (at - place) = omega arith in
      e ∙ ap (λ n. place + n) (sym stands) ∙ ap (λ n. place + up_to test n (drop place xs)) (sym (count ∙ ap suc same));
}

-- it is full: what was found is the page, and the next begins behind it
full_at : {X : Type 0} (test : X → Bool) (place at : ℕ) (xs found : List X) (next most : ℕ) (x : X) → Walked test place at xs found next → place ≤ at → slice_get xs at ≡ Some x → test x ≡ true → most ≡ length found
    → (found ≡ given test (Some most) place xs) × (Some next ≡ next_place test (Some most) place xs)
full_at {X} test place at xs found next most x walked later is pass full =
    let there = get_from place at xs x later is in
    let front : List X = filter test (take (at - place) (drop place xs)) in
    let back : List X = x ∷ filter test (drop (suc (at - place)) (drop place xs)) in
    let one : filter test (x ∷ drop (suc (at - place)) (drop place xs)) ≡ back = rw pass refl in
    let all : filter test (drop place xs) ≡ front ++ back = filter_split test (drop place xs) (at - place) x there ∙ ap (λ ys. front ++ ys) one in
    let counted : most ≡ length front = full ∙ ap length walked.found_is in
    let some : 0 < length back = omega arith in
    let more : most < length (filter test (drop place xs)) = rw all (omega (arith, length-append front back, counted, some)) in (
      walked.found_is ∙ sym (take-append_seam front back) ∙ ap (λ n. take n (front ++ back)) (sym counted) ∙ ap (take most) (sym all),
      ap Some (walked.next_is ∙ ap (λ n. place + up_to test n (drop place xs)) (sym full)) ∙ sym (ap (λ b. if b then Some (place + up_to test most (drop place xs)) else None) (lt-ltb most (length (filter test (drop place xs))) more)),
    )

pub walk_is_full : {X : Type 0} (test : X → Bool) (place at : ℕ) (xs found : List X) (next : ℕ) (most : Option ℕ) (x : X) → Walked test place at xs found next → place ≤ at → slice_get xs at ≡ Some x → test x ≡ true
    → is_full (length found) most ≡ true → IsWithin most (length found) → (found ≡ given test most place xs) × (Some next ≡ next_place test most place xs)
walk_is_full test place at xs found next None x walked later is pass full within = absurd cc
walk_is_full test place at xs found next (Some most) x walked later is pass full within =
    let above : most ≤ length found = leb-true most (length found) full in
    full_at test place at xs found next most x walked later is pass (omega arith)

-- one more may be given
pub within_next : (most : Option ℕ) (count : ℕ) → is_full count most ≡ false → IsWithin most (count + 1)
within_next None count room = tt
within_next (Some most) count room = grind (arith, nat_tests)

-- the list has ended: what was found is the page, and none is left
pub walk_ends : {X : Type 0} (test : X → Bool) (place at : ℕ) (xs found : List X) (next : ℕ) (most : Option ℕ) → Walked test place at xs found next → length xs ≤ at → IsWithin most (length found)
    → (found ≡ given test most place xs) × (None ≡ next_place test most place xs)
walk_ends test place at xs found next most walked end within = ended most within where
  all : found ≡ filter test (drop place xs)
  all = walked.found_is ∙ ap (filter test) (take_all (at - place) (drop place xs) (omega (arith, length-drop place xs)))

  ended : (most : Option ℕ) → IsWithin most (length found) → (found ≡ given test most place xs) × (None ≡ next_place test most place xs)
  ended None within = (all, refl)
  ended (Some most) within = (
    sym (take_all most found within) ∙ ap (take most) all,
    let none : nat_lt most (length (filter test (drop place xs))) ≡ false = rw (← all) (grind (arith, nat_tests)) in rw none refl,
  )
