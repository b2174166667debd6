-- Places in a listing.
use Rattle.std.proofs.Common.{◌≡◌, ℕ, zero, suc, ◌+◌, ◌-◌, ◌*◌, ◌<◌, ◌≤◌, List, [], ◌∷◌, ◌++◌, true, false, take, drop, length, get_or, refl, sym, ap, ◌∙◌, subst, arith, length-append}
use Rattle.std.specs.Prelude.{nat_lt, slice_get, Some, Ok, Err}
use Rattle.std.specs.Ordering.{nat_cmp}
use Rattle.std.specs.Arc.{arc_value}
use Rattle.std.proofs.lemmas.Bool.Decides.{nat_tests}
use Rattle.std.proofs.lemmas.List.{take_more, append-nil, drop_all, get_or-append_right, get_or_append_left}
use Rattle.std.proofs.lemmas.Option.{slice_get-get_or}
use Rattle.std.specs.List.Sorted.{IsBinarySearchResult}
use Rattle.std.proofs.lemmas.List.Sorted.{searched}
use Rattle.std.proofs.lemmas.List.Concat.{flat_map-append}
use Rattle.std.proofs.lemmas.List.Elements.{All-get_or, All-head, All-tail}
use Rattle.log_actions.specs.declared.actions.AddFile.{AddFile}
use Rattle.log_replay.specs.Listing.{AllSized, IsSized, SharedPart, files_at, listed, starts_of}
use Rattle.log_replay.proofs.SpotLemmas.{Sized, listed_cut, listed_split}

starts_push : (n : ℕ) (xs : List SharedPart) (p : SharedPart) → starts_of n (xs ++ p ∷ []) ≡ starts_of n xs ++ (n + length (listed xs)) ∷ []
starts_push n [] p = let e : n ≡ n + 0 = omega arith in ap (λ k. k ∷ []) e
starts_push n (x ∷ xs) p =
    let e : n + length (arc_value x) + length (listed xs) ≡ n + length (listed (x ∷ xs)) = omega (arith, length-append (arc_value x) (listed xs)) in
    ap (λ r. n ∷ r) (starts_push (n + length (arc_value x)) xs p ∙ ap (λ k. starts_of (n + length (arc_value x)) xs ++ k ∷ []) e)

listed_more : (parts : List SharedPart) (i : ℕ) (p : SharedPart) → i < length parts → p ≡ get_or parts i p → listed (take (i + 1) parts) ≡ listed (take i parts) ++ arc_value p
listed_more parts i p lt is =
    ap listed (take_more parts i p lt ∙ ap (λ q. take i parts ++ q ∷ []) (sym is)) ∙ flat_map-append arc_value (take i parts) (p ∷ []) ∙ ap (λ r. listed (take i parts) ++ r) (append-nil (arc_value p))

-- one part more
pub starts_more : (parts : List SharedPart) (i : ℕ) (p : SharedPart) (starts new : List ℕ) (len own : ℕ) → i < length parts → p ≡ get_or parts i p → AllSized parts → starts ≡ starts_of 0 (take i parts) → len ≡ length (listed (take i parts)) → len ≤ 256 * i
    → own ≡ length (arc_value p) → new ≡ starts ++ len ∷ []
    → (new ≡ starts_of 0 (take (i + 1) parts)) × (len + own ≡ length (listed (take (i + 1) parts))) × (len + own ≤ 256 * (i + 1))
starts_more parts i p starts new len own lt is sized es el most eo en =
    let one : IsSized (arc_value p) = subst Sized (sym is) (All-get_or Sized parts i p lt sized) in
    let all = listed_more parts i p lt is in
    let zero_len : len ≡ 0 + length (listed (take i parts)) = omega (arith, el) in (
      en ∙ ap (λ r. r ++ len ∷ []) es ∙ ap (λ k. starts_of 0 (take i parts) ++ k ∷ []) zero_len ∙ sym (starts_push 0 (take i parts) p) ∙ ap (starts_of 0) (ap (λ q. take i parts ++ q ∷ []) is ∙ sym (take_more parts i p lt)),
      omega (arith, el, eo, ap length all, length-append (listed (take i parts)) (arc_value p)),
      omega (arith, most, eo, one.1),
    )

-- ---- the file at a place

pub length_starts : (n : ℕ) (ps : List SharedPart) → length (starts_of n ps) ≡ length ps
length_starts n [] = refl
length_starts n (p ∷ ps) = ap suc (length_starts (n + length (arc_value p)) ps)

at_start : (n : ℕ) (ps : List SharedPart) (k : ℕ) → k < length ps → get_or (starts_of n ps) k 0 ≡ n + length (listed (take k ps))
at_start n [] k lt = absurd (omega (arith, lt))
at_start n (p ∷ ps) zero lt = omega arith
at_start n (p ∷ ps) (suc k) lt =
    let e : length (listed (take (suc k) (p ∷ ps))) ≡ length (arc_value p) + length (listed (take k ps)) = length-append (arc_value p) (listed (take k ps)) in
    let ih = at_start (n + length (arc_value p)) ps k (omega (arith, lt)) in
    omega (arith, ih, e)

no_less : (n : ℕ) (ps : List SharedPart) (k : ℕ) → k < length ps → n ≤ get_or (starts_of n ps) k 0
no_less n ps k lt = omega (arith, at_start n ps k lt)

rising : (n : ℕ) (ps : List SharedPart) (i j : ℕ) → AllSized ps → i < j → j < length ps → get_or (starts_of n ps) i 0 < get_or (starts_of n ps) j 0
rising n [] i j sized lt inside = absurd (omega (arith, inside))
rising n (p ∷ ps) i zero sized lt inside = absurd (omega (arith, lt))
rising n (p ∷ ps) zero (suc j) sized lt inside =
    omega (arith, no_less (n + length (arc_value p)) ps j (omega (arith, inside)), (All-head Sized p ps sized).0)
rising n (p ∷ ps) (suc i) (suc j) sized lt inside = rising (n + length (arc_value p)) ps i j (All-tail Sized p ps sized) (omega (arith, lt)) (omega (arith, inside))

pub starts_rising : (ps : List SharedPart) (starts : List ℕ) (i j : ℕ) → AllSized ps → starts ≡ starts_of 0 ps → i < j → j < length starts → get_or starts i 0 < get_or starts j 0
starts_rising ps starts i j sized is lt inside =
    subst (λ ns. get_or ns i 0 < get_or ns j 0) (sym is) (rising 0 ps i j sized lt (omega (arith, inside, ap length is, length_starts 0 ps)))

pub starts_first : (ps : List SharedPart) (starts : List ℕ) (place : ℕ) → starts ≡ starts_of 0 ps → place < length (listed ps) → (0 < length starts) × (get_or starts 0 0 ≤ place)
starts_first [] starts place is lt = absurd (omega (arith, lt))
starts_first (p ∷ ps) starts place is lt = subst (λ ns. (0 < length ns) × (get_or ns 0 0 ≤ place)) (sym is) (omega arith, omega arith)

-- a place within a part
pub within_part : (ps : List SharedPart) (starts : List ℕ) (place part start : ℕ) → starts ≡ starts_of 0 ps → place < length (listed ps) → part < length starts → start ≡ get_or starts part 0 → start ≤ place
    → (part + 1 < length starts → place < get_or starts (part + 1) 0) → (part < length ps) × (place - start < length (files_at ps part)) × (length (listed (take part ps)) ≡ start)
within_part ps starts place part start is lt inside at low high =
    let from_zero : (k : ℕ) → k < length ps → get_or (starts_of 0 ps) k 0 ≡ length (listed (take k ps)) = λ k lk. omega (arith, at_start 0 ps k lk) in
    let n : length starts ≡ length ps = ap length is ∙ length_starts 0 ps in
    let lp : part < length ps = omega (arith, inside, n) in
    let here : start ≡ length (listed (take part ps)) = at ∙ ap (λ ns. get_or ns part 0) is ∙ from_zero part lp in
    let split = ap length (listed_split ps part lp) ∙ length-append (listed (take part ps)) (files_at ps part ++ listed (drop (part + 1) ps)) in
    let rest = length-append (files_at ps part) (listed (drop (part + 1) ps)) in
    let cut = ap length (listed_cut ps (part + 1)) ∙ length-append (listed (take (part + 1) ps)) (listed (drop (part + 1) ps)) in (
      lp,
      elim (nat_lt (part + 1) (length ps)) as (λ b. nat_lt (part + 1) (length ps) ≡ b → place - start < length (files_at ps part)) [
        | true ↦ λ e.
            let more : part + 1 < length ps = grind (arith, nat_tests, e) in
            let next = high (omega (arith, more, n)) in
            let there : get_or starts (part + 1) 0 ≡ length (listed (take (part + 1) ps)) = ap (λ ns. get_or ns (part + 1) 0) is ∙ from_zero (part + 1) more in
            omega (arith, next, there, here, split, rest, cut, low)
        | false ↦ λ e.
            let all : length ps ≤ part + 1 = grind (arith, nat_tests, e) in
            let none : length (listed (drop (part + 1) ps)) ≡ 0 = ap (λ qs. length (listed qs)) (drop_all (part + 1) ps all) in
            omega (arith, lt, here, split, rest, none, low)
      ] refl,
      sym here,
    )

-- the file at a place of a part
pub file_there : (ps : List SharedPart) (place part start : ℕ) (x : AddFile) → part < length ps → length (listed (take part ps)) ≡ start → start ≤ place → place - start < length (files_at ps part)
    → slice_get (files_at ps part) (place - start) ≡ Some x → place < length (listed ps) → slice_get (listed ps) place ≡ Some x
file_there ps place part start x lp here low inside is lt =
    slice_get-get_or (listed ps) place x lt
    ∙ ap Some (ap (λ fs. get_or fs place x) (listed_split ps part lp)
    ∙ get_or-append_right (listed (take part ps)) (files_at ps part ++ listed (drop (part + 1) ps)) start place x here low
    ∙ get_or_append_left (files_at ps part) (listed (drop (part + 1) ps)) x (place - start) inside)
    ∙ sym (slice_get-get_or (files_at ps part) (place - start) x inside) ∙ is

-- where a search among rising starts ends
abbrev pub Rising : List ℕ → Type 0
Rising ns = (i j : ℕ) → i < j → j < length ns → get_or ns i 0 < get_or ns j 0

upto : (ns : List ℕ) → Rising ns → (i j : ℕ) → i ≤ j → j < length ns → get_or ns i 0 ≤ get_or ns j 0
upto ns rise i j le inside =
    elim (nat_lt i j) as (λ b. nat_lt i j ≡ b → get_or ns i 0 ≤ get_or ns j 0) [
      | true ↦ λ e. let lt : i < j = grind (arith, nat_tests, e) in omega (arith, rise i j lt inside)
      | false ↦ λ e. let same : i ≡ j = grind (arith, nat_tests, e, le) in subst (λ k. get_or ns i 0 ≤ get_or ns k 0) same (omega arith)
    ] refl

pub found_start : (ns : List ℕ) (place i : ℕ) → Rising ns → IsBinarySearchResult (λ y. nat_cmp y place) ns (Ok i) → (i + 1 < length ns → place < get_or ns (i + 1) 0)
found_start ns place i rise ends more =
    let found = searched ns place (Ok i) ends (upto ns rise) in
    omega (arith, rise i (i + 1) (omega arith) more, found.1)

pub after_start : (ns : List ℕ) (place i : ℕ) → Rising ns → (0 < length ns) × (get_or ns 0 0 ≤ place) → IsBinarySearchResult (λ y. nat_cmp y place) ns (Err i)
    → (1 ≤ i) × (get_or ns (i - 1) 0 ≤ place) × (i - 1 + 1 < length ns → place < get_or ns (i - 1 + 1) 0)
after_start ns place i rise first ends =
    let found = searched ns place (Err i) ends (upto ns rise) in
    elim (nat_lt 0 i) as (λ b. nat_lt 0 i ≡ b → (1 ≤ i) × (get_or ns (i - 1) 0 ≤ place) × (i - 1 + 1 < length ns → place < get_or ns (i - 1 + 1) 0)) [
      | true ↦ λ e.
          let some : 0 < i = grind (arith, nat_tests, e) in
          let back : i - 1 + 1 ≡ i = omega (arith, some) in
          (omega (arith, some), omega (arith, found.1 (i - 1) (omega (arith, some))), subst (λ k. k < length ns → place < get_or ns k 0) (sym back) (λ lt. found.2 i (omega arith) lt))
      | false ↦ λ e.
          let none : i ≤ 0 = grind (arith, nat_tests, e) in
          absurd (omega (arith, found.2 0 none first.0, first.1))
    ] refl
