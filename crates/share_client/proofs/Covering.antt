-- The ranges of a file's pieces have each of its places once, and what comes of them is as long as the file.
use Rattle.std.proofs.Common.{◌≡◌, ℕ, zero, suc, ◌+◌, ◌-◌, ◌*◌, ◌<◌, ◌≤◌, ◌==◌, Bool, true, false, List, [], ◌∷◌, ◌++◌, length, drop, leb, Ok, refl, sym, ap, ◌∙◌, arith, length-append}
use Rattle.std.specs.List.{concat, flat_map, range_with_len}
use Rattle.std.proofs.Math.Nat.{le-div_iff_mul-le, lt-div-mul-add}
use Rattle.std.proofs.lemmas.Bool.Decides.{nat_tests}
use Rattle.std.proofs.lemmas.List.{append-nil, length-drop, length-take-le}
use Rattle.file_ranges.specs.Ranges.{IsRange, Range}
use Rattle.share_client.specs.Laws.{PiecesAreWhole, PiecesCover, places}
use Rattle.share_client.specs.Pieces.{Came, TakesBy, piece_range, pieces_in}
use Rattle.share_client.specs.Sides.{Side}
use Rattle.share_client.specs.declared.exchange.Response.{Response}
use Rattle.share_client.specs.declared.target.Target.{Target}

-- ---- numbers, one after another

joined : (a n m : ℕ) → range_with_len a n ++ range_with_len (a + n) m ≡ range_with_len a (n + m)
joined a zero m =
    let same : a + zero ≡ a = omega arith in
    let none : zero + m ≡ m = omega arith in
    ap (λ (k : ℕ). range_with_len k m) same ∙ ap (range_with_len a) (sym none)
joined a (suc n) m =
    let next : a + suc n ≡ (a + 1) + n = omega arith in
    let more : suc (n + m) ≡ suc n + m = omega arith in
    ap (λ (k : ℕ). a ∷ (range_with_len (a + 1) n ++ range_with_len k m)) next ∙ ap (λ (xs : List ℕ). a ∷ xs) (joined (a + 1) n m) ∙ ap (range_with_len a) more

joined_at : (a n b m t : ℕ) → a + n ≡ b → n + m ≡ t → range_with_len a n ++ range_with_len b m ≡ range_with_len a t
joined_at a n b m t start sum = ap (λ (k : ℕ). range_with_len a n ++ range_with_len k m) (sym start) ∙ joined a n m ∙ ap (range_with_len a) sum

-- ---- pieces

module _ (piece size : ℕ) (some : 0 < piece) where
  abbrev count : ℕ
  count = pieces_in piece size

  -- all of them have the whole file
  enough : size ≤ count * piece
  enough = let above = lt-div-mul-add {a = size + piece - 1} {b = piece} some in omega (arith, above, some)

  -- each of them begins inside of it
  begins : (k : ℕ) → k < count → k * piece < size
  begins k lt = let fits = (le-div_iff_mul-le {k = piece} {x = k + 1} {y = size + piece - 1} some).0 (omega (arith, lt)) in omega (arith, fits, some)

  abbrev long : ℕ → ℕ
  long k = (piece_range piece size k).last + 1 - (piece_range piece size k).first

  rest_at : (k : ℕ) (b : Bool) → k < count → leb (k * piece + piece) size ≡ b → long k + (size - (k + 1) * piece) ≡ size - k * piece
  rest_at k true lt is = let inside = begins k lt in let le : k * piece + piece ≤ size = grind (arith, nat_tests, is) in omega (arith, inside, le, some)
  rest_at k false lt is = let inside = begins k lt in let gt : size < k * piece + piece = grind (arith, nat_tests, is) in omega (arith, inside, gt, some)

  -- so many places are left, or those of the piece and of those behind it
  rest : (k : ℕ) → k < count → long k + (size - (k + 1) * piece) ≡ size - k * piece
  rest k lt = rest_at k (leb (k * piece + piece) size) lt refl

  is_range : (k : ℕ) → k < count → IsRange (piece_range piece size k)
  is_range k lt = let inside = begins k lt in record { some = omega (arith, inside, some); within = omega (arith, inside, some) }

  here_at : (k : ℕ) (b : Bool) → k < count → leb (k * piece + piece) size ≡ b
      → places (piece_range piece size k) ++ range_with_len ((k + 1) * piece) (size - (k + 1) * piece) ≡ range_with_len (k * piece) (size - k * piece)
  here_at k true lt is =
      let inside = begins k lt in
      let le : k * piece + piece ≤ size = grind (arith, nat_tests, is) in
      joined_at (k * piece) (long k) ((k + 1) * piece) (size - (k + 1) * piece) (size - k * piece) (omega (arith, inside, le, some)) (rest k lt)
  here_at k false lt is =
      let gt : size < k * piece + piece = grind (arith, nat_tests, is) in
      let none : size - (k + 1) * piece ≡ 0 = omega (arith, gt) in
      let all : long k ≡ size - k * piece = let sum = rest k lt in omega (arith, sum, none) in
      ap (λ (n : ℕ). places (piece_range piece size k) ++ range_with_len ((k + 1) * piece) n) none ∙ append-nil (places (piece_range piece size k)) ∙ ap (range_with_len (k * piece)) all

  covered : (n k : ℕ) → k + n ≡ count → flat_map (λ j. places (piece_range piece size j)) (range_with_len k n) ≡ range_with_len (k * piece) (size - k * piece)
  covered zero k e =
      let last : k ≡ count = omega (arith, e) in
      let same = ap (λ (n : ℕ). n * piece) last in
      let none : size - k * piece ≡ 0 = omega (arith, same, enough) in
      sym (ap (range_with_len (k * piece)) none)
  covered (suc n) k e =
      ap (λ (xs : List ℕ). places (piece_range piece size k) ++ xs) (covered n (k + 1) (omega (arith, e)))
      ∙ here_at k (leb (k * piece + piece) size) (omega (arith, e)) refl

  pub cover : flat_map (λ k. places (piece_range piece size k)) (range_with_len 0 count) ≡ range_with_len 0 size
  cover =
      let start : 0 * piece ≡ 0 = omega arith in
      let all : size - 0 * piece ≡ size = omega arith in
      covered count 0 (omega arith) ∙ ap (λ (k : ℕ). range_with_len k (size - 0 * piece)) start ∙ ap (range_with_len 0) all

-- ---- what comes of them

taken_by : (range : Range) (r : Response) (given : List ℕ) (b : Bool) → IsRange range → TakesBy b range r (Ok given) → length given ≡ range.last + 1 - range.first
taken_by range r given true is t = ap length t.1 ∙ t.0.long
taken_by range r given false is t =
    let some = is.some in
    let within = is.within in
    let all = t.0 in
    ap length t.1 ∙ length-take-le (range.last + 1 - range.first) (drop range.first r.body.items) (omega (arith, some, within, all, length-drop range.first r.body.items))

came_long : (target : Target) (piece size : ℕ) (some : 0 < piece) (given : List (List ℕ)) (k : ℕ) (old new : Side) → k + length given ≡ pieces_in piece size → Came target piece size k given old new → length (concat given) ≡ size - k * piece
came_long target piece size some [] k old new e came =
    let all = enough piece size some in
    let last : k ≡ pieces_in piece size = omega (arith, e) in
    let same = ap (λ (n : ℕ). n * piece) last in
    omega (arith, all, same)
came_long target piece size some (g ∷ more) k old new e came =
    let lt : k < pieces_in piece size = omega (arith, e) in
    let r = came.1 in
    let one = taken_by (piece_range piece size k) r.0 g (r.0.status == 206) (is_range piece size some k lt) r.2 in
    let behind = came_long target piece size some more (k + 1) came.0 new (omega (arith, e)) came.2 in
    omega (arith, length-append g (concat more), one, behind, rest piece size some k lt)

pub pieces_cover : PiecesCover
pieces_cover piece size some = cover piece size some

pub pieces_are_whole : PiecesAreWhole
pieces_are_whole target piece size given old new some came all =
    let whole : size - 0 * piece ≡ size = omega arith in
    came_long target piece size some given 0 old new (omega (arith, all)) came ∙ whole
