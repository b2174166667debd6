-- The file of a path in a listing.
use Rattle.std.proofs.Common.{◌≡◌, ◌↔◌, ℕ, zero, suc, ◌+◌, ◌-◌, ◌<◌, List, [], ◌∷◌, ◌++◌, true, false, cond, Option, Some, None, is_some, map, take, drop, length, get_or, refl, sym, ap, ◌∙◌, bytes_eq, arith, true≢false, Contains}
use Rattle.std.specs.Prelude.{option_map, slice_get}
use Rattle.std.specs.List.{AllByRecursion, find}
use Rattle.std.proofs.lemmas.Slice.Eq.{bytes_eq-Decides}
use Rattle.std.proofs.lemmas.List.{get_or-take, get_or-drop, length-drop, length-take-le, nil_from_length}
use Rattle.std.proofs.lemmas.Option.{slice_get-get_or}
use Rattle.log_actions.specs.declared.actions.AddFile.{AddFile}
use Rattle.log_replay.specs.Listing.{IsSpot, SharedPart, files_at, listed}
use Rattle.log_replay.proofs.ListingLemmas.{others_above, others_below, same}
use Rattle.log_replay.proofs.SpotLemmas.{spot_split}

-- the first file of a path
abbrev pub file_at : List ℕ → List AddFile → Option AddFile
file_at q files = find (λ f. bytes_eq f.path q) files

skip : (q : List ℕ) (xs ys : List AddFile) → AllByRecursion (λ f. bytes_eq f.path q ≡ false) xs → file_at q (xs ++ ys) ≡ file_at q ys
skip q [] ys h = refl
skip q (x ∷ xs) ys h = rw h.0 (skip q xs ys h.1)

none_of : (q : List ℕ) (xs : List AddFile) → AllByRecursion (λ f. bytes_eq f.path q ≡ false) xs → file_at q xs ≡ None
none_of q [] h = refl
none_of q (x ∷ xs) h = rw h.0 (none_of q xs h.1)

first_of : (q : List ℕ) (ms ys : List AddFile) (f : AddFile) → AllByRecursion (λ f. f.path ≡ q) ms → 0 < length ms → Some (get_or ms 0 f) ≡ Some f → file_at q (ms ++ ys) ≡ Some f
first_of q [] ys f own some is = absurd (omega (arith, some))
first_of q (m ∷ ms) ys f own some is = rw (same m.path q own.0) is

-- the file at a spot is the first of its path
pub found_at : (parts : List SharedPart) (q : List ℕ) (i a n : ℕ) (f : AddFile) → IsSpot q parts i a n → a < n → slice_get (files_at parts i) a ≡ Some f → Some f ≡ file_at q (listed parts)
found_at parts q i a n f spot lt is =
    let p = files_at parts i in
    let xs = listed (take i parts) ++ take a p in
    let ms = take (n - a) (drop a p) in
    let ys = drop n p ++ listed (drop (i + 1) parts) in
    let inside : a < length p = omega (arith, lt, spot.within) in
    let count : length ms ≡ n - a = length-take-le (n - a) (drop a p) (omega (arith, length-drop a p, spot.within, spot.start)) in
    let start : a + 0 ≡ a = omega arith in
    let first : get_or ms 0 f ≡ get_or p a f = get_or-take (n - a) (drop a p) 0 f (omega (arith, lt)) ∙ get_or-drop a p 0 f ∙ ap (λ k. get_or p k f) start in
    let here : Some (get_or ms 0 f) ≡ Some f = ap Some first ∙ sym (slice_get-get_or p a f inside) ∙ is in
    sym (ap (file_at q) (spot_split parts q i a n spot) ∙ skip q xs (ms ++ ys) (others_below q xs spot.below) ∙ first_of q ms ys f spot.mid (omega (arith, count, lt)) here)

-- where a spot has no file, there is none of its path
pub not_found : (parts : List SharedPart) (q : List ℕ) (i a n : ℕ) → IsSpot q parts i a n → a ≡ n → None ≡ file_at q (listed parts)
not_found parts q i a n spot is =
    let p = files_at parts i in
    let xs = listed (take i parts) ++ take a p in
    let ms = take (n - a) (drop a p) in
    let ys = drop n p ++ listed (drop (i + 1) parts) in
    let count : length ms ≡ n - a = length-take-le (n - a) (drop a p) (omega (arith, length-drop a p, spot.within, spot.start)) in
    let none : ms ≡ [] = nil_from_length ms (omega (arith, count, is)) in
    sym (ap (file_at q) (spot_split parts q i a n spot) ∙ skip q xs (ms ++ ys) (others_below q xs spot.below) ∙ ap (λ r. file_at q (r ++ ys)) none ∙ none_of q ys (others_above q ys spot.above))

pub nothing_in : (parts : List SharedPart) (q : List ℕ) → parts ≡ [] → None ≡ file_at q (listed parts)
nothing_in parts q is = sym (ap (λ ps. file_at q (listed ps)) is)

there : (q : List ℕ) (fs : List AddFile) → is_some (file_at q fs) ≡ true → Contains (map (λ f. f.path) fs) q
there q [] is = absurd (true≢false (sym is))
there q (f ∷ fs) is =
    elim (bytes_eq f.path q) as (λ b. bytes_eq f.path q ≡ b → is_some (cond b (Some f) (file_at q fs)) ≡ true → Contains (map (λ f. f.path) (f ∷ fs)) q) [
      | true ↦ λ e is. (0, omega arith, (bytes_eq-Decides f.path q).0 e)
      | false ↦ λ e is. let h = there q fs is in (suc h.0, omega (arith, h.1), h.2)
    ] refl is

from_place : (q : List ℕ) (fs : List AddFile) (k : ℕ) → k < length (map (λ f. f.path) fs) → get_or (map (λ f. f.path) fs) k q ≡ q → is_some (file_at q fs) ≡ true
from_place q [] k lt is = absurd (omega (arith, lt))
from_place q (f ∷ fs) zero lt is = rw (same f.path q is) refl
from_place q (f ∷ fs) (suc k) lt is =
    elim (bytes_eq f.path q) as (λ b. is_some (cond b (Some f) (file_at q fs)) ≡ true) [
      | true ↦ refl
      | false ↦ from_place q fs k (omega (arith, lt)) is
    ]

pub is_some_map : {X Y : Type 0} (g : X → Y) (o : Option X) → is_some (option_map g o) ≡ is_some o
is_some_map g None = refl
is_some_map g (Some x) = refl

-- a file of a path is found exactly where the path is one of the files'
pub has_found : (q : List ℕ) (fs : List AddFile) → is_some (file_at q fs) ≡ true ↔ Contains (map (λ f. f.path) fs) q
has_found q fs = (there q fs, λ h. from_place q fs h.0 h.1 h.2)
