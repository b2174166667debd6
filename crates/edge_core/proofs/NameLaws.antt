-- A name and a segment, or two names, make a name where a slash joins them.
use Rattle.std.proofs.Common.{◌≡◌, ℕ, ◌+◌, ◌<◌, ◌≤◌, List, [], ◌∷◌, ◌++◌, length, sym, ◌∙◌, ap, refl, Bool, true, false, cond, ◌&&◌, ◌==◌, nat_lt, nat_le, codes, append_assoc, length-append, arith}
use Rattle.std.specs.List.{list_all, onto_first}
use Rattle.std.proofs.lemmas.List.Folds.{list_all-append, list_any-append}
use Rattle.edge_core.proofs.Basics.{each, neither, not_true, nat_le_true, nat_lt_true}
use Rattle.edge_core.specs.Names.{has_slash, has_zero, is_segment, is_one_segment, segments, is_name}

onto_some : (x : ℕ) (ps : List (List ℕ)) → 0 < length (onto_first x ps)
onto_some x [] = omega arith
onto_some x (p ∷ ps) = omega arith

some_case : (x : ℕ) (b : Bool) (ps : List (List ℕ)) → 0 < length (cond b ([] ∷ ps) (onto_first x ps))
some_case x true ps = omega arith
some_case x false ps = onto_some x ps

-- there is at least one part
some_segments : (a : List ℕ) → 0 < length (segments a)
some_segments [] = omega arith
some_segments (x ∷ a) = some_case x (x == 47) (segments a)

onto_append : (x : ℕ) (ps qs : List (List ℕ)) → 0 < length ps → onto_first x (ps ++ qs) ≡ onto_first x ps ++ qs
onto_append x [] qs some = absurd (omega arith)
onto_append x (p ∷ ps) qs some = refl

append_case : (x : ℕ) (b : Bool) (whole ps qs : List (List ℕ)) → 0 < length ps → whole ≡ ps ++ qs
    → cond b ([] ∷ whole) (onto_first x whole) ≡ cond b ([] ∷ ps) (onto_first x ps) ++ qs
append_case x true whole ps qs some e = ap (λ r. [] ∷ r) e
append_case x false whole ps qs some e = ap (onto_first x) e ∙ onto_append x ps qs some

-- a slash stands between the parts on its two sides
pub segments-append : (a b : List ℕ) → segments (a ++ 47 ∷ b) ≡ segments a ++ segments b
segments-append [] b = refl
segments-append (x ∷ a) b = append_case x (x == 47) (segments (a ++ 47 ∷ b)) (segments a) (segments b) (some_segments a) (segments-append a b)

one_case : (x : ℕ) (s : List ℕ) (b : Bool) → b ≡ false → segments s ≡ s ∷ [] → cond b ([] ∷ segments s) (onto_first x (segments s)) ≡ (x ∷ s) ∷ []
one_case x s b free e = rw (free, e) refl

-- without a slash there is one part
pub one_part : (s : List ℕ) → has_slash s ≡ false → segments s ≡ s ∷ []
one_part [] free = refl
one_part (x ∷ s) free = let p = neither (x == 47) (has_slash s) free in one_case x s (x == 47) p.0 (one_part s p.1)

-- what makes a name
record Named (bytes : List ℕ) : Type 0 where
  some : nat_lt 0 (length bytes) ≡ true
  fits : nat_le (length bytes) 1024 ≡ true
  free : has_zero bytes ≡ false
  parts : list_all is_segment (segments bytes) ≡ true

named : (a : List ℕ) → is_name a ≡ true → Named a
named a is =
    let p = each _ _ is in
    let q = each _ _ p.1 in
    let r = each _ _ q.1 in
    record { some = p.0; fits = q.0; free = not_true _ r.0; parts = r.1 }

is_named : (a : List ℕ) → Named a → is_name a ≡ true
is_named a n = rw (n.some, n.fits, n.free, n.parts) refl

-- two names with a slash between them are a name where that fits
pub is_name-append : (a b : List ℕ) → is_name a ≡ true → is_name b ≡ true → length a + 1 + length b ≤ 1024 → is_name (a ++ 47 ∷ b) ≡ true
is_name-append a b first last fits =
    let m = named a first in
    let n = named b last in
    let long : length (a ++ 47 ∷ b) ≡ length a + (length b + 1) = length-append a (47 ∷ b) ∙ omega arith in
    is_named (a ++ 47 ∷ b) (record {
      some = nat_lt_true 0 (length (a ++ 47 ∷ b)) (omega arith);
      fits = nat_le_true (length (a ++ 47 ∷ b)) 1024 (omega arith);
      free = list_any-append (λ x. x == 0) a (47 ∷ b) ∙ rw (m.free, n.free) refl;
      parts = ap (list_all is_segment) (segments-append a b) ∙ list_all-append is_segment (segments a) (segments b) ∙ rw (m.parts, n.parts) refl;
    })

-- a segment that is short enough is a name
pub is_name-one : (s : List ℕ) → is_one_segment s ≡ true → length s ≤ 1024 → is_name s ≡ true
is_name-one s one fits =
    let p = each _ _ one in
    let q = each _ _ p.1 in
    let some = (each _ _ p.0).0 in
    is_named s (record {
      some = some;
      fits = nat_le_true (length s) 1024 fits;
      free = not_true _ q.1;
      parts = ap (list_all is_segment) (one_part s (not_true _ q.0)) ∙ rw p.0 refl;
    })

-- what a segment by itself is
pub is_one_segment-from : (s : List ℕ) → is_segment s ≡ true → has_slash s ≡ false → has_zero s ≡ false → is_one_segment s ≡ true
is_one_segment-from s part free clean = rw (part, free, clean) refl

-- a name below another is a name where that fits
pub is_name-below : (dir name : List ℕ) → is_name dir ≡ true → is_name name ≡ true → length dir + 1 + length name ≤ 1024 → is_name (dir ++ codes "/" ++ name) ≡ true
is_name-below dir name first last fits = ap is_name (append_assoc dir (47 ∷ []) name) ∙ is_name-append dir name first last fits

-- an object directly in a folder has a name where that fits
pub is_name-in_folder : (dir s : List ℕ) → is_name dir ≡ true → is_one_segment s ≡ true → length dir + 1 + length s ≤ 1024 → is_name (dir ++ codes "/" ++ s) ≡ true
is_name-in_folder dir s is one fits =
    is_name-below dir s is (is_name-one s one (omega arith)) fits

-- an object in a folder of a folder has a name where that fits
pub is_name-in_folders : (dir s t : List ℕ) → is_name dir ≡ true → is_one_segment s ≡ true → is_one_segment t ≡ true → length dir + 1 + length s + 1 + length t ≤ 1024
    → is_name (dir ++ codes "/" ++ s ++ codes "/" ++ t) ≡ true
is_name-in_folders dir s t is one other fits =
    let long : length (dir ++ codes "/" ++ s) ≡ length dir + 1 + length s = simp length-append (omega arith) in
    is_name-in_folder (dir ++ codes "/" ++ s) t (is_name-in_folder dir s is one (omega arith)) other (omega arith)

-- the last segment of a name is a segment by itself
pub one_segment : (a s : List ℕ) → is_name (a ++ 47 ∷ s) ≡ true → has_slash s ≡ false → is_one_segment s ≡ true
one_segment a s is free =
    let n = named (a ++ 47 ∷ s) is in
    let parts : (list_all is_segment (segments a) && list_all is_segment (segments s)) ≡ true
    = sym (list_all-append is_segment (segments a) (segments s)) ∙ ap (list_all is_segment) (sym (segments-append a s)) ∙ n.parts in
    let last : (is_segment s && true) ≡ true = ap (list_all is_segment) (sym (one_part s free)) ∙ (each (list_all is_segment (segments a)) (list_all is_segment (segments s)) parts).1 in
    let part : is_segment s ≡ true = (each (is_segment s) true last).0 in
    let clean : has_zero s ≡ false = (neither (has_zero a) (has_zero s) (sym (list_any-append (λ x. x == 0) a (47 ∷ s)) ∙ n.free)).1 in
    rw (part, free, clean) refl
