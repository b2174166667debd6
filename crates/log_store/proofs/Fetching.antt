-- Steps of reading an object.
use Rattle.std.proofs.Common.{◌≡◌, ℕ, ◌+◌, ◌<◌, ◌≤◌, List, [], ◌++◌, length, take, drop, Option, Some, None, refl, sym, ap, ◌∙◌, subst, Bool, arith, min}
use Rattle.std.specs.Prelude.{IfSome}
use Rattle.std.proofs.lemmas.List.{take-append-drop, length-append, length-take, take_all}
use Rattle.std.proofs.Math.Seq.{take-append-add}
use Rattle.std.proofs.lemmas.Option.{same_Some}
use Rattle.std.specs.FinMap as finmap
use Rattle.edge_core.specs.Objects.{Objects, IsPiece, Gets, Grows}
use Rattle.edge_core.specs.declared.store.Got.TheVariants as got
use Rattle.log_store.specs.Loads.{IsOver}

-- the first bytes of an object, or none where it is absent
abbrev pub IsFront : List ℕ → Option (List ℕ) → Type 0
IsFront bytes None = bytes ≡ []
IsFront bytes (Some all) = take (length bytes) all ≡ bytes

some-none : {X : Type 0} {x : X} → Some x ≡ None → ⊥
some-none e = cc

empty_front : (o : Option (List ℕ)) → IsFront [] o
empty_front None = refl
empty_front (Some all) = refl

pub empty_fronts : (o : Option Objects) (name : List ℕ) → IfSome o (λ os. IsFront [] (finmap.get os name))
empty_fronts None name = tt
empty_fronts (Some os) name = empty_front (finmap.get os name)

empty_then : (bytes : List ℕ) (o : Option (List ℕ)) → bytes ≡ [] → IsFront bytes o
empty_then bytes o e = subst (λ b. IsFront b o) (sym e) (empty_front o)

still : (bytes : List ℕ) (r s : Option (List ℕ)) → ((all : List ℕ) → r ≡ Some all → s ≡ Some all) → IsFront bytes r → IsFront bytes s
still bytes None s grows h = empty_then bytes s h
still bytes (Some all) s grows h = subst (λ o. IsFront bytes o) (sym (grows all refl)) h

-- a front of an object stays one as objects are added
fronts_grow : (a b : Option Objects) (name bytes : List ℕ) → Grows a b → IfSome a (λ os. IsFront bytes (finmap.get os name)) → IfSome b (λ os. IsFront bytes (finmap.get os name))
fronts_grow a None name bytes g h = tt
fronts_grow None (Some ys) name bytes g h = absurd (some-none g)
fronts_grow (Some xs) (Some ys) name bytes g h = still bytes (finmap.get xs name) (finmap.get ys name) (λ all. g name all) h

-- one piece more
front_more : (bytes all : List ℕ) (n : ℕ) (out : List ℕ) → n ≤ length out → take (length bytes) all ≡ bytes → take n out ≡ take n (drop (length bytes) all)
    → take (length (bytes ++ take n out)) all ≡ bytes ++ take n out
front_more bytes all n out fits front same =
    let whole : all ≡ bytes ++ drop (length bytes) all = sym (take-append-drop (length bytes) all) ∙ ap (λ f. f ++ drop (length bytes) all) front in
    let size : length (bytes ++ take n out) ≡ length bytes + n = simp (length-append, length-take) (grind (arith)) in
    rw size (ap (take (length bytes + n)) whole ∙ take-append-add bytes (drop (length bytes) all) n ∙ ap (λ p. bytes ++ p) (sym same))

-- the whole object was read
front_all : (bytes all : List ℕ) → take (length bytes) all ≡ bytes → length all ≤ length bytes → all ≡ bytes
front_all bytes all front short = sym (take_all (length bytes) all short) ∙ front

whole_at : (bytes : List ℕ) (o : Option (List ℕ)) (out : List ℕ) → IsFront bytes o → (all : List ℕ) × (o ≡ Some all) × IsPiece all (length bytes) 0 out → o ≡ Some bytes
whole_at bytes None out front piece = absurd (some-none (sym piece.1))
whole_at bytes (Some all) out front piece =
    let same : all ≡ piece.0 = same_Some all piece.0 piece.1 in
    ap Some (front_all bytes all front (subst (λ x. length x ≤ length bytes) (sym same) ((piece.2).none.0 refl)))

got_whole_at : (alone : Bool) (mid new : Option Objects) (name bytes out : List ℕ) → IfSome mid (λ os. IsFront bytes (finmap.get os name)) → Gets mid new alone name (length bytes) (got.Bytes 0) out
    → IfSome new (λ os. finmap.get os name ≡ Some bytes)
got_whole_at alone mid None name bytes out front piece = tt
got_whole_at alone mid (Some os) name bytes out front piece = whole_at bytes (finmap.get os name) out (fronts_grow mid (Some os) name bytes (piece.0).grows front) piece.2

pub got_whole : (alone : Bool) (mid new : Option Objects) (name bytes out : List ℕ) (from n : ℕ) → from ≡ length bytes → n ≡ 0 → IfSome mid (λ os. IsFront bytes (finmap.get os name)) → Gets mid new alone name from (got.Bytes n) out
    → IfSome new (λ os. finmap.get os name ≡ Some bytes)
got_whole alone mid new name bytes out from n e z front piece =
    got_whole_at alone mid new name bytes out front (subst (λ k. Gets mid new alone name (length bytes) (got.Bytes k) out) z (subst (λ f. Gets mid new alone name f (got.Bytes n) out) e piece))

over_at : (bytes : List ℕ) (o : Option (List ℕ)) (limit : ℕ) → limit < length bytes → IsFront bytes o → IsOver limit o
over_at bytes None limit over front = let none : length bytes ≡ 0 = ap length front in absurd (omega (arith, none, over))
over_at bytes (Some all) limit over front =
    let size : length bytes ≡ min (length bytes) (length all) = ap length (sym front) ∙ length-take (length bytes) all in
    omega arith

-- a front that is longer than the limit
pub front_over : (mid : Option Objects) (name bytes : List ℕ) (limit : ℕ) → limit < length bytes → IfSome mid (λ os. IsFront bytes (finmap.get os name)) → IfSome mid (λ os. IsOver limit (finmap.get os name))
front_over None name bytes limit over front = tt
front_over (Some os) name bytes limit over front = over_at bytes (finmap.get os name) limit over front

more_at : (bytes : List ℕ) (o : Option (List ℕ)) (out : List ℕ) (n : ℕ) → n ≤ length out → IsFront bytes o → (all : List ℕ) × (o ≡ Some all) × IsPiece all (length bytes) n out → IsFront (bytes ++ take n out) o
more_at bytes None out n fits front piece = absurd (some-none (sym piece.1))
more_at bytes (Some all) out n fits front piece =
    let same : all ≡ piece.0 = same_Some all piece.0 piece.1 in
    front_more bytes all n out fits front (subst (λ x. take n out ≡ take n (drop (length bytes) x)) (sym same) (piece.2).same)

got_more_at : (alone : Bool) (mid new : Option Objects) (name bytes out : List ℕ) (n : ℕ) → IfSome mid (λ os. IsFront bytes (finmap.get os name)) → Gets mid new alone name (length bytes) (got.Bytes n) out
    → IfSome new (λ os. IsFront (bytes ++ take n out) (finmap.get os name))
got_more_at alone mid None name bytes out n front piece = tt
got_more_at alone mid (Some os) name bytes out n front piece = more_at bytes (finmap.get os name) out n piece.1 (fronts_grow mid (Some os) name bytes (piece.0).grows front) piece.2

pub got_more : (alone : Bool) (mid new : Option Objects) (name bytes out items : List ℕ) (from n : ℕ) → from ≡ length bytes → items ≡ bytes ++ take n out → IfSome mid (λ os. IsFront bytes (finmap.get os name)) → Gets mid new alone name from (got.Bytes n) out
    → IfSome new (λ os. IsFront items (finmap.get os name))
got_more alone mid new name bytes out items from n e is front piece =
    subst (λ b. IfSome new (λ os. IsFront b (finmap.get os name))) (sym is) (got_more_at alone mid new name bytes out n front (subst (λ f. Gets mid new alone name f (got.Bytes n) out) e piece))

pub got_absent : (alone : Bool) (mid new : Option Objects) (name : List ℕ) (from : ℕ) (out : List ℕ) → Gets mid new alone name from got.Absent out → IfSome new (λ os. finmap.get os name ≡ None)
got_absent alone mid None name from out piece = tt
got_absent alone mid (Some os) name from out piece = piece.1

-- one piece more makes the bytes longer
pub longer : (items bytes : List ℕ) (n : ℕ) (out : List ℕ) → items ≡ bytes ++ take n out → 0 < n → n ≤ length out → length bytes < length items
longer items bytes n out is some fits =
    let size : length items ≡ length bytes + n = ap length is ∙ length-append bytes (take n out) ∙ ap (λ k. length bytes + k) (length-take n out ∙ omega arith) in
    omega arith
