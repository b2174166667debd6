-- The parts of a listing, and the place of a path among them.
use Rattle.std.proofs.Common.{◌≡◌, ℕ, zero, suc, ◌+◌, ◌-◌, ◌<◌, ◌≤◌, List, [], ◌∷◌, ◌++◌, true, false, true≢false, Option, Some, None, is_some, map, take, drop, length, get_or, refl, sym, ap, ◌∙◌, subst, Less, Equal, Greater, arith, append_assoc}
use Rattle.std.specs.Prelude.{option_to_list, option_map, IfSome, nat_lt, Result, Ok, Err, MatchResult}
use Rattle.std.specs.List.{AllByRecursion}
use Rattle.std.specs.List.Sorted.{IsStrictlySortedBy, IsSearchInRange, IsBinarySearchResult}
use Rattle.std.specs.Ordering.{nat_cmp, ordering_reverse}
use Rattle.std.specs.Cmp.Lexicographic.{slice_cmp}
use Rattle.std.specs.Arc.{arc_value}
use Rattle.std.specs.FinMap as map
use Rattle.std.proofs.lemmas.Cmp.{nat_list_cmp_total}
use Rattle.std.proofs.lemmas.List.Elements.{All-head, All-tail, All-take, All-drop, All-append, All-get_or}
use Rattle.std.proofs.lemmas.List.{take-append-drop, drop-drop, drop_more, map-append, get_or-map, get_or-take, get_or-drop, length-map, length-drop, length-take-le, take-map, drop-map, drop_all, take_rest, take_at, drop_at, length-append, nil_from_length}
use Rattle.std.proofs.lemmas.List.Concat.{flat_map-append}
use Rattle.json_tree.proofs.Rising.{KeysRise, rises}
use Rattle.std.proofs.lemmas.Bool.Decides.{nat_tests}
use Rattle.log_actions.specs.declared.actions.AddFile.{AddFile}
use Rattle.log_replay.specs.Snapshots.{PathsRise}
use Rattle.log_replay.specs.Listing.{Above, AllSized, Below, CutsAt, FallsAt, IsListing, IsSized, IsSpot, LeadsAt, SetsPath, SharedFile, SharedPart, StandsAt, files_at, first_path, listed}
use Rattle.log_replay.proofs.ListingLemmas.{above_less, backs, below_less, both, front_below, fronts, rise_back, rise_front, rise_head, rise_none, rise_set, sets}

abbrev pub Sized : SharedPart → Type 0
Sized p = IsSized (arc_value p)

split_suc : (parts : List SharedPart) (i : ℕ) → i < length parts → listed parts ≡ listed (take i parts) ++ (files_at parts i ++ listed (drop (suc i) parts))
split_suc [] i lt = absurd (omega (arith, lt))
split_suc (p ∷ ps) zero lt = refl
split_suc (p ∷ ps) (suc i) lt =
    ap (λ r. arc_value p ++ r) (split_suc ps i (omega (arith, lt))) ∙ sym (append_assoc (arc_value p) (listed (take i ps)) (files_at ps i ++ listed (drop (suc i) ps)))

-- the files of a listing around one part
pub listed_split : (parts : List SharedPart) (i : ℕ) → i < length parts → listed parts ≡ listed (take i parts) ++ (files_at parts i ++ listed (drop (i + 1) parts))
listed_split parts i lt =
    let e : suc i ≡ i + 1 = omega arith in
    split_suc parts i lt ∙ ap (λ n. listed (take i parts) ++ (files_at parts i ++ listed (drop n parts))) e

-- the part at a place rises
pub part_rises : (parts : List SharedPart) (i : ℕ) → i < length parts → PathsRise (listed parts) → PathsRise (files_at parts i)
part_rises parts i lt h = rise_front (files_at parts i) (listed (drop (i + 1) parts)) (rise_back (listed (take i parts)) _ (subst PathsRise (listed_split parts i lt) h))

-- a list around one of its elements
pub split_at : {X : Type 0} (i : ℕ) (xs : List X) → xs ≡ take i xs ++ drop i xs
split_at i xs = sym (take-append-drop i xs)

around : (a p c : List AddFile) (k : ℕ) (g : AddFile) → drop k p ≡ g ∷ drop (k + 1) p → a ++ (p ++ c) ≡ (a ++ take k p) ++ (g ∷ (drop (k + 1) p ++ c))
around a p c k g e =
    ap (λ q. a ++ (q ++ c)) (split_at k p ∙ ap (λ r. take k p ++ r) e) ∙ ap (λ r. a ++ r) (append_assoc (take k p) (g ∷ drop (k + 1) p) c)
    ∙ sym (append_assoc a (take k p) (g ∷ (drop (k + 1) p ++ c)))

-- one element at a place is what stands from there up to the next
one_there : (p : List AddFile) (k : ℕ) (g : AddFile) (path : List ℕ) → drop k p ≡ g ∷ drop (k + 1) p → g.path ≡ path → AllByRecursion (λ f. f.path ≡ path) (take (k + 1 - k) (drop k p))
one_there p k g path e is =
    let one : k + 1 - k ≡ 1 = omega arith in
    rw (one, e) (is, tt)

-- where a file of the path stands in a part
pub spot_here : (parts : List SharedPart) (path : List ℕ) (i k : ℕ) → PathsRise (listed parts) → i < length parts → StandsAt path (files_at parts i) k → IsSpot path parts i k (k + 1)
spot_here parts path i k rise lt (g, inside, e, is) =
    let whole = listed_split parts i lt ∙ around (listed (take i parts)) (files_at parts i) (listed (drop (i + 1) parts)) k g e in
    let rises = subst PathsRise whole rise in
    record {
      here = lt;
      start = omega arith;
      within = omega (arith, inside);
      below = subst (λ q. Below q (listed (take i parts) ++ take k (files_at parts i))) is (front_below (listed (take i parts) ++ take k (files_at parts i)) g (drop (k + 1) (files_at parts i) ++ listed (drop (i + 1) parts)) rises);
      mid = one_there (files_at parts i) k g path e is;
      above = subst (λ q. Above q (drop (k + 1) (files_at parts i) ++ listed (drop (i + 1) parts))) is (rise_head g _ (rise_back (listed (take i parts) ++ take k (files_at parts i)) (g ∷ (drop (k + 1) (files_at parts i) ++ listed (drop (i + 1) parts))) rises));
    }

-- what a list's first file is above, the list is above
pub above_from : (path : List ℕ) (fs : List AddFile) → PathsRise fs → 0 < length fs → slice_cmp nat_cmp path (first_path fs) ≡ Less → Above path fs
above_from path [] rise some is = absurd (omega (arith, some))
above_from path (f ∷ fs) rise some is = (is, above_less path f.path fs is (rise_head f fs rise))

-- all parts before one whose first file is below a path are below it
pub below_before : (path : List ℕ) (xs fs ys : List AddFile) → PathsRise (xs ++ (fs ++ ys)) → 0 < length fs → slice_cmp nat_cmp (first_path fs) path ≡ Less → Below path xs
below_before path xs [] ys rise some is = absurd (omega (arith, some))
below_before path xs (f ∷ fs) ys rise some is = below_less f.path path xs is (front_below xs f (fs ++ ys) rise)

none_between : (p : List AddFile) (k : ℕ) (path : List ℕ) → AllByRecursion (λ f. f.path ≡ path) (take (k - k) (drop k p))
none_between p k path = let none : k - k ≡ 0 = omega arith in rw none tt

-- where no file of the path stands in a part, and the parts before and after it are below and above
pub spot_between : (parts : List SharedPart) (path : List ℕ) (i k : ℕ) → i < length parts → Below path (listed (take i parts)) → CutsAt path (files_at parts i) k → Above path (listed (drop (i + 1) parts)) → IsSpot path parts i k k
spot_between parts path i k lt before (inside, low, high) after = record {
  here = lt;
  start = omega arith;
  within = inside;
  below = both _ (listed (take i parts)) (take k (files_at parts i)) before low;
  mid = none_between (files_at parts i) k path;
  above = both _ (drop k (files_at parts i)) (listed (drop (i + 1) parts)) high after;
}

-- a list cut at two places
cut_twice : {X : Type 0} (p : List X) (a n : ℕ) → a ≤ n → p ≡ take a p ++ (take (n - a) (drop a p) ++ drop n p)
cut_twice p a n le =
    let sum : a + (n - a) ≡ n = omega (arith, le) in
    split_at a p ∙ ap (λ r. take a p ++ r) (split_at (n - a) (drop a p) ∙ ap (λ r. take (n - a) (drop a p) ++ r) (drop-drop (n - a) a p ∙ ap (λ m. drop m p) sum))

-- a listing around a spot
pub spot_split : (parts : List SharedPart) (path : List ℕ) (i a n : ℕ) → IsSpot path parts i a n
    → listed parts ≡ (listed (take i parts) ++ take a (files_at parts i)) ++ (take (n - a) (drop a (files_at parts i)) ++ (drop n (files_at parts i) ++ listed (drop (i + 1) parts)))
spot_split parts path i a n spot =
    let p = files_at parts i in
    let z = listed (drop (i + 1) parts) in
    listed_split parts i spot.here
    ∙ ap (λ r. listed (take i parts) ++ r) (ap (λ r. r ++ z) (cut_twice p a n spot.start) ∙ append_assoc (take a p) (take (n - a) (drop a p) ++ drop n p) z ∙ ap (λ r. take a p ++ r) (append_assoc (take (n - a) (drop a p)) (drop n p) z))
    ∙ sym (append_assoc (listed (take i parts)) (take a p) (take (n - a) (drop a p) ++ (drop n p ++ z)))

-- the listing with another file at a spot, or none
pub spot_set : (parts : List SharedPart) (new : List AddFile) (path : List ℕ) (file : Option AddFile) (i a n : ℕ) → PathsRise (listed parts) → IsSpot path parts i a n → IfSome file (λ f. f.path ≡ path)
    → new ≡ (listed (take i parts) ++ take a (files_at parts i)) ++ (option_to_list file ++ (drop n (files_at parts i) ++ listed (drop (i + 1) parts))) → PathsRise new × SetsPath path file (listed parts) new
spot_set parts new path file i a n rise spot is e =
    let xs = listed (take i parts) ++ take a (files_at parts i) in
    let ms = take (n - a) (drop a (files_at parts i)) in
    let ys = drop n (files_at parts i) ++ listed (drop (i + 1) parts) in
    let whole : listed parts ≡ xs ++ (ms ++ ys) = spot_split parts path i a n spot in
    let rises : PathsRise (xs ++ (ms ++ ys)) = subst PathsRise whole rise in (
      subst PathsRise (sym e) (rise_set path file xs ys is (rise_front xs (ms ++ ys) rises) (rise_back ms ys (rise_back xs (ms ++ ys) rises)) spot.below spot.above),
      subst (λ f. SetsPath path file f new) (sym whole) (subst (SetsPath path file (xs ++ (ms ++ ys))) (sym e) (sets path file xs ms ys is spot.below spot.mid spot.above)),
    )

pub not_some : {X : Type 0} (o : Option X) → is_some o ≡ false → o ≡ None
not_some None is = refl
not_some (Some x) is = absurd (true≢false is)

-- the listing with no file at a spot that has none
pub nothing_set : (parts : List SharedPart) (path : List ℕ) (file : Option SharedFile) (i a n : ℕ) → PathsRise (listed parts) → IsSpot path parts i a n → a ≡ n → file ≡ None
    → SetsPath path (option_map arc_value file) (listed parts) (listed parts)
nothing_set parts path file i a n rise spot is none =
    let p = files_at parts i in
    let ms = take (n - a) (drop a p) in
    let nil : ms ≡ [] = nil_from_length ms (omega (arith, length-take-le (n - a) (drop a p) (omega (arith, length-drop a p, spot.within, spot.start)), is)) in
    subst (λ f. SetsPath path (option_map arc_value f) (listed parts) (listed parts)) (sym none)
    (spot_set parts (listed parts) path None i a n rise spot tt
    (spot_split parts path i a n spot ∙ ap (λ r. (listed (take i parts) ++ take a p) ++ (r ++ (drop n p ++ listed (drop (i + 1) parts)))) nil)).1

-- what holds at each place of a list holds of its elements
pub by_places : {X : Type 0} (P : X → Type 0) (xs : List X) → ((k : ℕ) (d : X) → k < length xs → P (get_or xs k d)) → AllByRecursion P xs
by_places P [] h = tt
by_places P (x ∷ xs) h = (h 0 x (omega arith), by_places P xs (λ k d lt. h (suc k) d (omega (arith, lt))))

flip_greater : (x y : List ℕ) → slice_cmp nat_cmp x y ≡ Greater → slice_cmp nat_cmp y x ≡ Less
flip_greater x y e = nat_list_cmp_total.antisymm y x ∙ ap ordering_reverse e

of_files : (P : AddFile → Type 0) (es : List SharedFile) → AllByRecursion (λ a. P (arc_value a)) es → AllByRecursion P (map arc_value es)
of_files P [] h = tt
of_files P (a ∷ es) h = (h.0, of_files P es h.1)

stands : (path : List ℕ) (es : List SharedFile) (i : ℕ) → i < length es → ((d : SharedFile) → slice_cmp nat_cmp (arc_value (get_or es i d)).path path ≡ Equal) → StandsAt path (map arc_value es) i
stands path [] i lt is = absurd (omega (arith, lt))
stands path (a ∷ es) i lt is =
    let inside : i < length (map arc_value (a ∷ es)) = subst (λ n. i < n) (sym (length-map (a ∷ es) arc_value)) lt in (
      get_or (map arc_value (a ∷ es)) i (arc_value a),
      inside,
      drop_more (map arc_value (a ∷ es)) i (arc_value a) inside,
      ap (λ f. f.path) (get_or-map arc_value (a ∷ es) i a (arc_value a) lt) ∙ map.slice_cmp-IsAntisymmetric map.nat_cmp-IsAntisymmetric _ path (is a),
    )

cuts : (path : List ℕ) (es : List SharedFile) (i : ℕ) → i ≤ length es
    → ((k : ℕ) (d : SharedFile) → 0 ≤ k → k < i → slice_cmp nat_cmp (arc_value (get_or es k d)).path path ≡ Less)
    → ((k : ℕ) (d : SharedFile) → i ≤ k → k < length es → slice_cmp nat_cmp (arc_value (get_or es k d)).path path ≡ Greater)
    → CutsAt path (map arc_value es) i
cuts path es i le low high = (
  subst (λ n. i ≤ n) (sym (length-map es arc_value)) le,
  subst (Below path) (sym (take-map arc_value i es)) (of_files _ (take i es) (by_places (λ (a : SharedFile). slice_cmp nat_cmp (arc_value a).path path ≡ Less) (take i es)
      (λ k d lt. let inside : k < i = omega (arith, lt, length-take-le i es le) in subst (λ (a : SharedFile). slice_cmp nat_cmp (arc_value a).path path ≡ Less) (sym (get_or-take i es k d inside)) (low k d (omega arith) inside)))),
  subst (Above path) (sym (drop-map arc_value i es)) (of_files _ (drop i es) (by_places (λ (a : SharedFile). slice_cmp nat_cmp path (arc_value a).path ≡ Less) (drop i es)
      (λ k d lt. let inside : i + k < length es = omega (arith, lt, length-drop i es) in
      subst (λ (a : SharedFile). slice_cmp nat_cmp path (arc_value a).path ≡ Less) (sym (get_or-drop i es k d)) (flip_greater _ path (high (i + k) d (omega arith) inside))))),
)

paths_alike : (es : List SharedFile) → map (λ f. f.path) (map arc_value es) ≡ map (λ (a : SharedFile). (arc_value a).path) es
paths_alike [] = refl
paths_alike (a ∷ es) = ap (λ r. (arc_value a).path ∷ r) (paths_alike es)

-- a search in a part
pub part_searched : (path : List ℕ) (es : List SharedFile) (r : Result ℕ ℕ) → PathsRise (map arc_value es) → IsSearchInRange r (length es) → IsBinarySearchResult (λ (a : SharedFile). slice_cmp nat_cmp (arc_value a).path path) es r
    → MatchResult r (StandsAt path (map arc_value es)) (CutsAt path (map arc_value es))
part_searched path es (Ok i) rise within ends = stands path es i within ends
part_searched path es (Err i) rise within ends =
    let parted = ends (rises (λ (a : SharedFile). (arc_value a).path) es path (subst (IsStrictlySortedBy (slice_cmp nat_cmp)) (paths_alike es) rise)) in
    cuts path es i within parted.0 parted.1

first_above : (x : List ℕ) (v rest : List AddFile) → 0 < length v → Above x (v ++ rest) → slice_cmp nat_cmp x (first_path v) ≡ Less
first_above x [] rest some h = absurd (omega (arith, some))
first_above x (f ∷ fs) rest some h = h.0

firsts_above : (x : List ℕ) (ps : List SharedPart) → AllSized ps → Above x (listed ps) → AllByRecursion (λ y. slice_cmp nat_cmp x y ≡ Less) (map (λ p. first_path (arc_value p)) ps)
firsts_above x [] sized h = tt
firsts_above x (p ∷ ps) sized h =
    (first_above x (arc_value p) (listed ps) (All-head Sized p ps sized).0 h, firsts_above x ps (All-tail Sized p ps sized) (backs _ (arc_value p) (listed ps) h))

rest_above : (v rest : List AddFile) → 0 < length v → PathsRise (v ++ rest) → Above (first_path v) rest
rest_above [] rest some h = absurd (omega (arith, some))
rest_above (f ∷ fs) rest some h = backs _ fs rest (rise_head f (fs ++ rest) h)

-- the first paths of parts rise
pub firsts_rise : (ps : List SharedPart) → PathsRise (listed ps) → AllSized ps → KeysRise (λ p. first_path (arc_value p)) ps
unfolding IsStrictlySortedBy
firsts_rise [] rise sized = tt
firsts_rise (p ∷ ps) rise sized =
    (firsts_above (first_path (arc_value p)) ps (All-tail Sized p ps sized) (rest_above (arc_value p) (listed ps) (All-head Sized p ps sized).0 rise), firsts_rise ps (rise_back (arc_value p) (listed ps) rise) (All-tail Sized p ps sized))

at_place : (ps : List SharedPart) (i : ℕ) (d : SharedPart) → i < length ps → files_at ps i ≡ arc_value (get_or ps i d)
at_place ps i d lt = get_or-map arc_value ps i d [] lt

leads : (path : List ℕ) (ps : List SharedPart) (i : ℕ) → i < length ps → ((d : SharedPart) → slice_cmp nat_cmp (first_path (arc_value (get_or ps i d))) path ≡ Equal) → LeadsAt path ps i
leads path [] i lt is = absurd (omega (arith, lt))
leads path (p ∷ ps) i lt is = (lt, ap first_path (at_place (p ∷ ps) i p lt) ∙ map.slice_cmp-IsAntisymmetric map.nat_cmp-IsAntisymmetric _ path (is p))

falls : (path : List ℕ) (ps : List SharedPart) (i : ℕ) → i ≤ length ps
    → ((k : ℕ) (d : SharedPart) → 0 ≤ k → k < i → slice_cmp nat_cmp (first_path (arc_value (get_or ps k d))) path ≡ Less)
    → ((k : ℕ) (d : SharedPart) → i ≤ k → k < length ps → slice_cmp nat_cmp (first_path (arc_value (get_or ps k d))) path ≡ Greater)
    → FallsAt path ps i
falls path [] i le low high = (le, λ some. absurd (omega (arith, le, some)), λ lt. absurd (omega (arith, lt)))
falls path (p ∷ ps) i le low high = (
  le,
  λ some. subst (λ v. slice_cmp nat_cmp (first_path v) path ≡ Less) (sym (at_place (p ∷ ps) (i - 1) p (omega (arith, some, le)))) (low (i - 1) p (omega arith) (omega (arith, some))),
  λ lt. flip_greater _ path (subst (λ v. slice_cmp nat_cmp (first_path v) path ≡ Greater) (sym (at_place (p ∷ ps) i p lt)) (high i p (omega arith) lt)),
)

-- a search among parts by their first paths
pub parts_searched : (path : List ℕ) (ps : List SharedPart) (r : Result ℕ ℕ) → IsListing ps → IsSearchInRange r (length ps) → IsBinarySearchResult (λ p. slice_cmp nat_cmp (first_path (arc_value p)) path) ps r
    → MatchResult r (LeadsAt path ps) (FallsAt path ps)
parts_searched path ps (Ok i) listing within ends = leads path ps i within ends
parts_searched path ps (Err i) listing within ends =
    let parted = ends (rises (λ p. first_path (arc_value p)) ps path (firsts_rise ps listing.rise listing.sized)) in
    falls path ps i within parted.0 parted.1

sized_at : (ps : List SharedPart) (i : ℕ) → i < length ps → AllSized ps → 0 < length (files_at ps i)
sized_at [] i lt sized = absurd (omega (arith, lt))
sized_at (p ∷ ps) i lt sized = subst (λ v. 0 < length v) (sym (at_place (p ∷ ps) i p lt)) (All-get_or Sized (p ∷ ps) i p lt sized).0

first_stands : (path : List ℕ) (v : List AddFile) → 0 < length v → first_path v ≡ path → StandsAt path v 0
first_stands path [] some is = absurd (omega (arith, some))
first_stands path (f ∷ fs) some is = (f, omega arith, refl, is)

-- the spot of a path that a part begins with
pub spot_leads : (ps : List SharedPart) (path : List ℕ) (i : ℕ) → IsListing ps → LeadsAt path ps i → IsSpot path ps i 0 1
spot_leads ps path i listing (lt, is) = spot_here ps path i 0 listing.rise lt (first_stands path (files_at ps i) (sized_at ps i lt listing.sized) is)

listed_rest : (ps : List SharedPart) (i : ℕ) → i < length ps → listed (drop i ps) ≡ files_at ps i ++ listed (drop (i + 1) ps)
listed_rest [] i lt = absurd (omega (arith, lt))
listed_rest (p ∷ ps) i lt = ap listed (drop_more (p ∷ ps) i p lt) ∙ ap (λ v. v ++ listed (drop (i + 1) (p ∷ ps))) (sym (at_place (p ∷ ps) i p lt))

longer : (v w : List AddFile) → 0 < length v → 0 < length (v ++ w)
longer [] w some = absurd (omega (arith, some))
longer (f ∷ fs) w some = omega arith

first_same : (v w : List AddFile) → 0 < length v → first_path v ≡ first_path (v ++ w)
first_same [] w some = absurd (omega (arith, some))
first_same (f ∷ fs) w some = refl

-- all parts from where the first paths are above a path on are above it
pub rest_falls : (path : List ℕ) (ps : List SharedPart) (i : ℕ) → IsListing ps → FallsAt path ps i → Above path (listed (drop i ps))
rest_falls path ps i listing (le, low, high) =
    elim (nat_lt i (length ps)) as (λ b. nat_lt i (length ps) ≡ b → Above path (listed (drop i ps))) [
      | true ↦ λ e.
          let lt : i < length ps = grind (arith, nat_tests, e) in
          let some = sized_at ps i lt listing.sized in
          let v = files_at ps i ++ listed (drop (i + 1) ps) in
          let rises = rise_back (listed (take i ps)) v (subst PathsRise (listed_split ps i lt) listing.rise) in
          subst (Above path) (sym (listed_rest ps i lt)) (above_from path v rises (longer (files_at ps i) _ some) (subst (λ q. slice_cmp nat_cmp path q ≡ Less) (first_same (files_at ps i) _ some) (high lt)))
      | false ↦ λ e. let all : length ps ≤ i = grind (arith, nat_tests, e) in subst (λ qs. Above path (listed qs)) (sym (drop_all i ps all)) tt
    ] refl

-- the spot of a path below all first paths
pub spot_first : (ps : List SharedPart) (path : List ℕ) → IsListing ps → 0 < length ps → FallsAt path ps 0 → IsSpot path ps 0 0 0
spot_first ps path listing some fall =
    let all = subst (Above path) (listed_rest ps 0 some) (rest_falls path ps 0 listing fall) in
    spot_between ps path 0 0 some tt (omega arith, tt, fronts _ (files_at ps 0) (listed (drop (0 + 1) ps)) all) (backs _ (files_at ps 0) (listed (drop (0 + 1) ps)) all)

-- the spot of a path in the last part whose first path is below it
pub spot_cuts : (ps : List SharedPart) (path : List ℕ) (i j k : ℕ) → IsListing ps → i ≡ j + 1 → FallsAt path ps i → CutsAt path (files_at ps j) k → IsSpot path ps j k k
spot_cuts ps path i j k listing is fall cut =
    let lt : j < length ps = omega (arith, is, fall.0) in
    let before : i - 1 ≡ j = omega (arith, is) in
    let low = subst (λ n. slice_cmp nat_cmp (first_path (files_at ps n)) path ≡ Less) before (fall.1 (omega (arith, is))) in
    spot_between ps path j k lt (below_before path (listed (take j ps)) (files_at ps j) (listed (drop (j + 1) ps)) (subst PathsRise (listed_split ps j lt) listing.rise) (sized_at ps j lt listing.sized) low) cut
    (subst (λ n. Above path (listed (drop n ps))) is (rest_falls path ps i listing fall))

-- the files before a place, more, and those from another on
pub spliced_is : (es : List SharedFile) (new0 new1 new2 : List SharedFile) (v more : List AddFile) (a n : ℕ) → map arc_value es ≡ v → map arc_value new0 ≡ map arc_value (take a es) → map arc_value new1 ≡ map arc_value new0 ++ more
    → map arc_value new2 ≡ map arc_value new1 ++ map arc_value (take (length es - n) (drop n es)) → map arc_value new2 ≡ take a v ++ (more ++ drop n v)
spliced_is es new0 new1 new2 v more a n is e0 e1 e2 =
    let front : map arc_value new0 ≡ take a v = e0 ∙ sym (take-map arc_value a es) ∙ ap (take a) is in
    let back : map arc_value (take (length es - n) (drop n es)) ≡ drop n v = ap (map arc_value) (take_rest es n) ∙ sym (drop-map arc_value n es) ∙ ap (drop n) is in
    e2 ∙ ap (λ r. map arc_value new1 ++ r) back ∙ ap (λ r. r ++ drop n v) (e1 ∙ ap (λ r. r ++ more) front) ∙ append_assoc (take a v) more (drop n v)

pub part_read : (ps : List SharedPart) (i : ℕ) (p : SharedPart) → i < length ps → p ≡ get_or ps i p → files_at ps i ≡ arc_value p
part_read ps i p lt is = at_place ps i p lt ∙ ap arc_value (sym is)

-- a list put between parts in two pieces
pub two_parts : (parts : List SharedPart) (place : ℕ) (es : List SharedFile) (n : ℕ) (before after rest : List AddFile) → rest ≡ map arc_value (drop n es) ++ after
    → before ++ (map arc_value (take n es) ++ rest) ≡ before ++ (map arc_value es ++ after)
two_parts parts place es n before after rest is =
    ap (λ r. before ++ r) (ap (λ r. map arc_value (take n es) ++ r) is ∙ sym (append_assoc (map arc_value (take n es)) (map arc_value (drop n es)) after)
    ∙ ap (λ r. r ++ after) (sym (map-append arc_value (take n es) (drop n es)) ∙ ap (map arc_value) (take-append-drop n es)))

-- the files of parts cut at a place
pub listed_cut : (parts : List SharedPart) (i : ℕ) → listed parts ≡ listed (take i parts) ++ listed (drop i parts)
listed_cut parts i = ap listed (split_at i parts) ∙ flat_map-append arc_value (take i parts) (drop i parts)

pub own_value : (file : Option SharedFile) (path : List ℕ) → IfSome file (λ f. (arc_value f).path ≡ path) → IfSome (option_map arc_value file) (λ f. f.path ≡ path)
own_value None path is = is
own_value (Some f) path is = is

-- a path's file where there were no files
pub set_none : (path : List ℕ) (file : Option AddFile) (new : List AddFile) → IfSome file (λ f. f.path ≡ path) → new ≡ option_to_list file ++ [] → PathsRise new × SetsPath path file [] new
set_none path file new is e =
    (subst PathsRise (sym e) (rise_set path file [] [] is rise_none rise_none tt tt), subst (SetsPath path file []) (sym e) (sets path file [] [] [] is tt tt tt))

-- the parts without one
removed_front : (parts : List SharedPart) (i : ℕ) → i < length parts → take i (take i parts ++ drop (suc i) parts) ≡ take i parts
removed_front parts i lt = take_at (take i parts) (drop (suc i) parts) i (length-take-le i parts (omega (arith, lt)))

removed_back : (parts : List SharedPart) (i : ℕ) → i < length parts → drop i (take i parts ++ drop (suc i) parts) ≡ drop (i + 1) parts
removed_back parts i lt =
    let e : suc i ≡ i + 1 = omega arith in
    drop_at (take i parts) (drop (suc i) parts) i (length-take-le i parts (omega (arith, lt))) ∙ ap (λ n. drop n parts) e

pub removed_sized : (parts rest : List SharedPart) (i : ℕ) → rest ≡ take i parts ++ drop (suc i) parts → AllSized parts → AllSized rest
removed_sized parts rest i e sized = subst AllSized (sym e) (All-append Sized (take i parts) (drop (suc i) parts) (All-take Sized i parts sized) (All-drop Sized (suc i) parts sized))

-- files put in place of a part
pub replaced : (parts rest : List SharedPart) (new v p more : List AddFile) (i a n : ℕ) → i < length parts → rest ≡ take i parts ++ drop (suc i) parts → p ≡ files_at parts i → v ≡ take a p ++ (more ++ drop n p)
    → new ≡ listed (take i rest) ++ (v ++ listed (drop i rest)) → new ≡ (listed (take i parts) ++ take a (files_at parts i)) ++ (more ++ (drop n (files_at parts i) ++ listed (drop (i + 1) parts)))
replaced parts rest new v p more i a n lt er ep ev en =
    let q = files_at parts i in
    let z = listed (drop (i + 1) parts) in
    let front : listed (take i rest) ≡ listed (take i parts) = ap (λ r. listed (take i r)) er ∙ ap listed (removed_front parts i lt) in
    let back : listed (drop i rest) ≡ z = ap (λ r. listed (drop i r)) er ∙ ap listed (removed_back parts i lt) in
    let own : v ≡ take a q ++ (more ++ drop n q) = ev ∙ ap (λ r. take a r ++ (more ++ drop n r)) ep in
    en ∙ ap (λ r. r ++ (v ++ listed (drop i rest))) front ∙ ap (λ r. listed (take i parts) ++ (v ++ r)) back ∙ ap (λ r. listed (take i parts) ++ (r ++ z)) own
    ∙ ap (λ r. listed (take i parts) ++ r) (append_assoc (take a q) (more ++ drop n q) z ∙ ap (λ r. take a q ++ r) (append_assoc more (drop n q) z))
    ∙ sym (append_assoc (listed (take i parts)) (take a q) (more ++ (drop n q ++ z)))

one_at_most : (file : Option AddFile) → length (option_to_list file) ≤ 1
one_at_most None = omega arith
one_at_most (Some f) = omega arith

sizes_at : (ps : List SharedPart) (i : ℕ) → i < length ps → AllSized ps → length (files_at ps i) ≤ 256
sizes_at [] i lt sized = absurd (omega (arith, lt))
sizes_at (p ∷ ps) i lt sized = subst (λ v. length v ≤ 256) (sym (at_place (p ∷ ps) i p lt)) (All-get_or Sized (p ∷ ps) i p lt sized).1

-- a part with one file more has at most 257
pub one_more : (parts : List SharedPart) (p : List AddFile) (es : List SharedFile) (file : Option AddFile) (i a n : ℕ) → i < length parts → AllSized parts → p ≡ files_at parts i → a ≤ n → n ≤ length (files_at parts i)
    → map arc_value es ≡ take a p ++ (option_to_list file ++ drop n p) → length es ≤ 257
one_more parts p es file i a n lt sized ep le within is =
    let most : length p ≤ 256 = subst (λ v. length v ≤ 256) (sym ep) (sizes_at parts i lt sized) in
    let inside : n ≤ length p = subst (λ v. n ≤ length v) (sym ep) within in
    let all = sym (length-map es arc_value) ∙ ap length is ∙ length-append (take a p) (option_to_list file ++ drop n p) in
    let some = length-append (option_to_list file) (drop n p) in
    let front = length-take-le a p (omega (arith, le, inside)) in
    omega (arith, all, some, front, length-drop n p, one_at_most file, most, le, inside)
