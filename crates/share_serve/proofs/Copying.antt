-- Pieces of an object.
use Rattle.std.proofs.Common.{◌≡◌, ℕ, ◌+◌, ◌-◌, ◌<◌, ◌≤◌, Bool, List, [], ◌∷◌, ◌++◌, length, take, drop, Option, Some, None, IfSome, option_map, refl, sym, ap, ◌∙◌, subst, arith, length-append, append_assoc, true≢false}
use Rattle.std.proofs.Math.Seq.{drop-append_seam, take-add, take-append-add}
use Rattle.std.proofs.Math.ListN.{replicate}
use Rattle.std.proofs.lemmas.List.{append-nil, length-drop, length-replicate, length-take-le, take-append-drop, take-take}
use Rattle.std.specs.FinMap as map
use Rattle.std.specs.Io.KnownBytes.{append_known}
use mathlib.Core.List.{IsPrefix}
use Rattle.edge_core.specs.Objects.{Objects, Gets, Grows}
use Rattle.edge_core.specs.declared.store.Got.TheVariants as got
use Rattle.file_ranges.specs.Ranges.{IsRange, Range, bytes_at}
use Rattle.share_serve.specs.Sends.{HasRead, HasReadOf, HasSize, IsCopied}
use Rattle.share_serve.specs.Turns.{IsObject}
use Rattle.share_serve.specs.declared.file.Copied.TheVariants as copied
use Rattle.share_serve.proofs.Basics.{prefix_trans}

pub nothing : (xs : List ℕ) → length xs ≡ 0 → xs ≡ []
nothing [] e = refl
nothing (x ∷ xs) e = absurd (omega arith)

same_some : {A : Type 0} (x y : A) → Some x ≡ Some y → x ≡ y
same_some x y e = cc

size_found : (os : Objects) (name : List ℕ) (size : ℕ) (o : Option (List ℕ)) → map.get os name ≡ o → option_map length o ≡ Some size → (bytes : List ℕ) × (map.get os name ≡ Some bytes) × (length bytes ≡ size)
size_found os name size None e is = absurd cc
size_found os name size (Some bytes) e is = (bytes, e, same_some (length bytes) size is)

-- the store told the object's size
pub sized : (name : List ℕ) (size : ℕ) (objects : Option Objects) → IfSome objects (λ os. option_map length (map.get os name) ≡ Some size) → HasSize size name objects
sized name size None is = tt
sized name size (Some os) is = size_found os name size (map.get os name) refl is

module _ (name : List ℕ) (size : ℕ) where
  pub read_none : (objects : Option Objects) → HasSize size name objects → HasRead name size 0 objects []
  read_none None there = record { count = refl; told = tt }
  read_none (Some os) there = record { count = refl; told = (there.0, there.1, there.2, refl) }

  pub read_grows : (at : ℕ) (old new : Option Objects) (part : List ℕ) → Grows old new → HasRead name size at old part → HasRead name size at new part
  read_grows at None new part g r = record { count = r.count; told = subst (λ (z : Option Objects). IfSome z (λ os. (bytes : List ℕ) × (map.get os name ≡ Some bytes) × (length bytes ≡ size) × (part ≡ take at bytes))) (sym g) tt }
  read_grows at (Some a) None part g r = absurd (true≢false g)
  read_grows at (Some a) (Some b) part g r = record { count = r.count; told = (r.told.0, g name r.told.0 r.told.1, r.told.2, r.told.3) }

  joined : (at n m : ℕ) (bytes out part : List ℕ) → m ≤ n → take n out ≡ take n (drop at bytes) → part ≡ take at bytes → part ++ take m out ≡ take (at + m) bytes
  joined at n m bytes out part le same is =
      let e : take m out ≡ take m (drop at bytes) = sym (take-take m n out le) ∙ ap (take m) same ∙ take-take m n (drop at bytes) le in
      ap (λ (z : List ℕ). z ++ take m out) is ∙ ap (λ (z : List ℕ). take at bytes ++ z) e ∙ sym (take-add at m bytes)

  pub read_more : (at n m : ℕ) (old new : Option Objects) (alone : Bool) (out part : List ℕ) → m ≤ n → Gets old new alone name at (got.Bytes n) out → HasRead name size at old part → HasRead name size (at + m) new (part ++ take m out)
  read_more at n m old None alone out part le g r = record { count = length-append part (take m out) ∙ (let a = r.count in let b = g.1 in omega (arith, length-take-le m out (omega arith))); told = tt }
  read_more at n m old (Some new) alone out part le g r =
      let was = read_grows at old (Some new) part g.0.grows r in
      let bytes : was.told.0 ≡ g.2.0 = same_some was.told.0 g.2.0 (sym was.told.1 ∙ g.2.1) in record {
        count = length-append part (take m out) ∙ (let a = r.count in let b = g.1 in omega (arith, length-take-le m out (omega arith)));
        told = (g.2.0, g.2.1, ap length (sym bytes) ∙ was.told.2, joined at n m g.2.0 out part le g.2.2.same (was.told.3 ∙ ap (take at) bytes));
      }

  -- all of the bytes, which begin with what was read
  pub whole : (at : ℕ) (objects : Option Objects) (part : List ℕ) → at ≤ size → HasRead name size at objects part → (bytes : List ℕ) × (length bytes ≡ size) × IsObject name objects bytes × IsPrefix part bytes
  whole at None part le r = (part ++ replicate (size - at) 0, length-append part (replicate (size - at) 0) ∙ (let a = r.count in omega (arith, length-replicate {A = ℕ} (size - at) 0)), tt, (replicate (size - at) 0, refl))
  whole at (Some os) part le r = (r.told.0, r.told.2, r.told.1, (drop at r.told.0, ap (λ (z : List ℕ). z ++ drop at r.told.0) r.told.3 ∙ take-append-drop at r.told.0))

-- ---- a range of an object

-- how many bytes it has
pub range_length : (range : Range) (bytes : List ℕ) → IsRange range → length bytes ≡ range.size → length (bytes_at range bytes) ≡ range.last + 1 - range.first
range_length range bytes is long =
    let some = is.some in
    let within = is.within in
    length-take-le (range.last + 1 - range.first) (drop range.first bytes) (omega (arith, some, within, long, length-drop range.first bytes))

module _ (name : List ℕ) (range : Range) (is : IsRange range) where
  -- nothing of it was read
  pub range_none : (objects : Option Objects) → HasSize range.size name objects → HasReadOf name range range.first objects []
  range_none None there =
      let front = replicate {A = ℕ} range.first 0 in
      let long : length front ≡ range.first = length-replicate {A = ℕ} range.first 0 in
      (front, long, record { count = ap length (append-nil front) ∙ long; told = tt })
  range_none (Some os) there =
      let some = is.some in
      let within = is.within in
      let front = take range.first there.0 in
      let long : length front ≡ range.first = length-take-le range.first there.0 (let size = there.2 in omega (arith, some, within, size)) in
      (front, long, record { count = ap length (append-nil front) ∙ long; told = (there.0, there.1, there.2, append-nil front) })

  pub range_grows : (at : ℕ) (old new : Option Objects) (given : List ℕ) → Grows old new → HasReadOf name range at old given → HasReadOf name range at new given
  range_grows at old new given g r = (r.0, r.1, read_grows name range.size at old new (r.0 ++ given) g r.2)

  pub range_more : (at n m : ℕ) (old new : Option Objects) (alone : Bool) (out given : List ℕ) → m ≤ n → Gets old new alone name at (got.Bytes n) out → HasReadOf name range at old given → HasReadOf name range (at + m) new (given ++ take m out)
  range_more at n m old new alone out given le g r =
      let more = read_more name range.size at n m old new alone out (r.0 ++ given) le g r.2 in
      (r.0, r.1, subst (λ (z : List ℕ). HasRead name range.size (at + m) new z) (append_assoc r.0 given (take m out)) more)

  given_front : (bytes before given rest : List ℕ) → length before ≡ range.first → (before ++ given) ++ rest ≡ bytes → length given ≤ range.last + 1 - range.first → IsPrefix given (bytes_at range bytes)
  given_front bytes before given rest long whole le =
      let size = range.last + 1 - range.first in
      let left = size - length given in
      let sum : size ≡ length given + left = omega (arith, le) in
      let behind : drop range.first bytes ≡ given ++ rest =
      ap (λ (n : ℕ). drop n bytes) (sym long) ∙ ap (drop (length before)) (sym whole ∙ append_assoc before given rest) ∙ drop-append_seam before (given ++ rest) in
      let cut : take size (given ++ rest) ≡ given ++ take left rest = ap (λ (n : ℕ). take n (given ++ rest)) sum ∙ take-append-add given rest left in
      (take left rest, sym cut ∙ ap (take size) (sym behind))

  -- all bytes of the object, of which the range begins with what was read
  pub range_shown : (at : ℕ) (objects : Option Objects) (given : List ℕ) → at ≤ range.last + 1 → HasReadOf name range at objects given
      → (bytes : List ℕ) × (length bytes ≡ range.size) × IsObject name objects bytes × IsPrefix given (bytes_at range bytes) × (range.first + length given ≡ at)
  range_shown at objects given le r =
      let some = is.some in
      let within = is.within in
      let long = r.1 in
      let count = r.2.count in
      let w = whole name range.size at objects (r.0 ++ given) (omega (arith, le, within)) r.2 in
      let sum : range.first + length given ≡ at = omega (arith, long, count, length-append r.0 given) in
      (w.0, w.1, w.2, given_front w.0 r.0 given w.3.0 r.1 w.3.1 (omega (arith, le, sum)), sum)

  module _ (at : ℕ) (objects : Option Objects) (given : List ℕ) (old new : Option (List ℕ)) (read : HasReadOf name range at objects given) where
    pub copied_cut : (sent : ℕ) → range.first + sent ≡ at → at < range.last + 1 → new ≡ append_known old given → IsCopied (copied.Cut sent) name range objects old new
    copied_cut sent place lt held =
        let w = range_shown at objects given (omega (arith, lt)) read in
        let sum = w.4 in
        let all = range_length range w.0 is w.1 in
        (w.0, w.1, w.2, (given, w.3, omega (arith, sum, place), omega (arith, place, all, lt), held))

    pub copied_whole : at ≡ range.last + 1 → new ≡ append_known old given → IsCopied copied.Whole name range objects old new
    copied_whole end held =
        let w = range_shown at objects given (omega (arith, end)) read in
        let sum = w.4 in
        let all = range_length range w.0 is w.1 in
        let none : w.3.0 ≡ [] = nothing w.3.0 (omega (arith, sum, all, end, length-append given w.3.0, ap length w.3.1)) in
        (w.0, w.1, w.2, held ∙ ap (append_known old) (sym (append-nil given) ∙ ap (λ (z : List ℕ). given ++ z) (sym none) ∙ w.3.1))

    pub copied_in_part : at ≤ range.last + 1 → (piece : List ℕ) → IsPrefix piece given → new ≡ append_known old piece → IsCopied copied.WriteFault name range objects old new
    copied_in_part le piece front held =
        let w = range_shown at objects given le read in
        (w.0, w.1, w.2, (piece, prefix_trans piece given (bytes_at range w.0) front w.3, held))

pub piece_front : (part out : List ℕ) (n : ℕ) → IsPrefix (part ++ take n out) (part ++ out)
piece_front part out n = (drop n out, append_assoc part (take n out) (drop n out) ∙ ap (λ (z : List ℕ). part ++ z) (take-append-drop n out))
