-- Plain data: what the fields of an object are made of.
use Rattle.std.proofs.Common.{◌≡◌, ℕ, suc, ◌<◌, ◌≤◌, ◌^◌, ℤ, pos, negsuc, List, [], ◌∷◌, true, Option, Some, None, option_map, refl, ap, ◌∙◌, arith, FitsSigned, lt-ltb}
use Rattle.std.specs.Prelude.{⊤, IfSome}
use Rattle.std.specs.Int.{w64}
use Rattle.std.specs.List.{list_all}
use Rattle.std.specs.List.Sorted.{IsStrictlySortedBy}
use Rattle.std.specs.List.{AllByRecursion}
use Rattle.std.specs.Ordering.{nat_cmp, is_gt, ordering_reverse}
use Rattle.std.specs.declared.cmp.Ordering.TheVariants.{Less, Greater}
use Rattle.std.specs.Cmp.Lexicographic.{slice_cmp}
use Rattle.std.proofs.lemmas.Cmp.{nat_list_cmp_total}
use Rattle.std.proofs.lemmas.Bool.{and_parts}
use Rattle.serde_json.specs.Data.{Data, string, depth, items_depth, members_depth}
use Rattle.serde_json.specs.Find.{of_integer}
use Rattle.json_tree.specs.Fields.{whole}
use Rattle.json_tree.specs.Pairs.{IsPairs, names}
use Rattle.json_print.specs.Fields.{Field, members_of, object_of, ascend}
use Rattle.json_print.specs.Plain.{IsPlain, ItemsArePlain, MembersArePlain, AreAbove, IsWhole}
use Rattle.json_print.specs.Values.{text_or_null, text_items, texts_value, pair_members, pairs_value, count_value, whole_value}
use Rattle.json_print.proofs.Lookups.{is_greater, ReadsBack, OnSomeReadsBack}

-- plain data of at most n levels
abbrev pub IsPlainTo : ℕ → Data → Type 0
IsPlainTo n d = IsPlain d × (depth d ≤ n)

abbrev pub OnSomePlainTo : ℕ → Option Data → Type 0
OnSomePlainTo n None = ⊤
OnSomePlainTo n (Some d) = IsPlainTo n d

abbrev pub ArePlainTo : ℕ → List Field → Type 0
ArePlainTo n [] = ⊤
ArePlainTo n (f ∷ more) = OnSomePlainTo n f.1 × ArePlainTo n more

above : (k : List ℕ) (fields : List Field) → list_all (λ g. is_gt (slice_cmp nat_cmp g.0 k)) fields ≡ true → AreAbove k (members_of fields)
above k [] e = tt
above k ((l, None) ∷ more) e = above k more (and_parts _ _ e).1
above k ((l, Some d) ∷ more) e = (is_greater (slice_cmp nat_cmp l k) (and_parts _ _ e).0, above k more (and_parts _ _ e).1)

members_plain : (n : ℕ) (fields : List Field) → ascend fields ≡ true → ArePlainTo n fields → MembersArePlain (members_of fields)
members_plain n [] e h = tt
members_plain n ((k, None) ∷ more) e h = members_plain n more (and_parts _ _ e).1 h.1
members_plain n ((k, Some d) ∷ more) e h = (h.0.0, (members_plain n more (and_parts _ _ e).1 h.1, above k more (and_parts _ _ e).0))

members_shallow : (n : ℕ) (fields : List Field) → ArePlainTo n fields → members_depth (members_of fields) ≤ n
members_shallow n [] h = omega arith
members_shallow n ((k, None) ∷ more) h = members_shallow n more h.1
members_shallow n ((k, Some d) ∷ more) h = let a : depth d ≤ n = h.0.1 in let b = members_shallow n more h.1 in omega arith

-- an object of plain fields in order
pub plain-object_of : (n : ℕ) (fields : List Field) → ascend fields ≡ true → ArePlainTo n fields → IsPlainTo (suc n) (object_of fields)
plain-object_of n fields e h = (members_plain n fields e h, (let b = members_shallow n fields h in omega arith))

-- ---- values

items_plain : (texts : List (List ℕ)) → ItemsArePlain (text_items texts)
items_plain [] = tt
items_plain (s ∷ more) = (tt, items_plain more)

items_shallow : (texts : List (List ℕ)) → items_depth (text_items texts) ≤ 0
items_shallow [] = omega arith
items_shallow (s ∷ more) = let b = items_shallow more in omega arith

pub plain-texts_value : (n : ℕ) (texts : List (List ℕ)) → IsPlainTo (suc n) (texts_value texts)
plain-texts_value n texts = (items_plain texts, (let b = items_shallow texts in omega arith))

text_or_null_plain : (o : Option (List ℕ)) → IsPlainTo 0 (text_or_null o)
text_or_null_plain None = (tt, omega arith)
text_or_null_plain (Some s) = (tt, omega arith)

greater : (k l : List ℕ) → slice_cmp nat_cmp k l ≡ Less → slice_cmp nat_cmp l k ≡ Greater
greater k l e = nat_list_cmp_total.antisymm l k ∙ ap ordering_reverse e

pairs_above : (k : List ℕ) (pairs : List (List ℕ × Option (List ℕ))) → AllByRecursion (λ l. slice_cmp nat_cmp k l ≡ Less) (names pairs) → AreAbove k (pair_members pairs)
pairs_above k [] h = tt
pairs_above k ((l, value) ∷ more) h = (greater k l h.0, pairs_above k more h.1)

pairs_plain : (pairs : List (List ℕ × Option (List ℕ))) → IsPairs pairs → MembersArePlain (pair_members pairs)
unfolding IsStrictlySortedBy
pairs_plain [] h = tt
pairs_plain ((k, value) ∷ more) h = ((text_or_null_plain value).0, (pairs_plain more h.1, pairs_above k more h.0))

pairs_shallow : (pairs : List (List ℕ × Option (List ℕ))) → members_depth (pair_members pairs) ≤ 0
pairs_shallow [] = omega arith
pairs_shallow ((k, value) ∷ more) = let a : depth (text_or_null value) ≤ 0 = (text_or_null_plain value).1 in let b = pairs_shallow more in omega arith

pub plain-pairs_value : (n : ℕ) (pairs : List (List ℕ × Option (List ℕ))) → IsPairs pairs → IsPlainTo (suc n) (pairs_value pairs)
plain-pairs_value n pairs h = (pairs_plain pairs h, (let b = pairs_shallow pairs in omega arith))

whole_plain : (z : ℤ) → FitsSigned w64 z → IsWhole (of_integer z)
whole_plain (pos n) h = let b : n < 2 ^ 63 = h.sfits in omega arith
whole_plain (negsuc n) h = h.sfits

pub plain-whole_value : (n : ℕ) (z : ℤ) → FitsSigned w64 z → IsPlainTo n (whole_value z)
plain-whole_value n z h = (whole_plain z h, omega arith)

whole-whole_value : (z : ℤ) → FitsSigned w64 z → whole (whole_value z) ≡ Some z
whole-whole_value (pos n) h = rw (lt-ltb n (2 ^ 63) h.sfits)
whole-whole_value (negsuc n) h = refl

-- a whole number of 64 bits is read as itself
pub whole_read : (z : ℤ) → FitsSigned w64 z → ReadsBack whole whole_value z
whole_read z h = (refl, whole-whole_value z h)

pub some_whole_read : (o : Option ℤ) → IfSome o (FitsSigned w64) → OnSomeReadsBack whole whole_value o
some_whole_read None h = tt
some_whole_read (Some z) h = whole_read z h

-- ---- values that may be absent

pub plain-text_or_none : (n : ℕ) (o : Option (List ℕ)) → OnSomePlainTo n (option_map string o)
plain-text_or_none n None = tt
plain-text_or_none n (Some s) = (tt, omega arith)

pub plain-count_or_none : (n limit : ℕ) (o : Option ℕ) → limit ≤ 2 ^ 64 → IfSome o (λ m. m < limit) → OnSomePlainTo n (option_map count_value o)
plain-count_or_none n limit None small h = tt
plain-count_or_none n limit (Some m) small h = let b : m < limit = h in (omega arith, omega arith)

pub plain-whole_or_none : (n : ℕ) (o : Option ℤ) → IfSome o (FitsSigned w64) → OnSomePlainTo n (option_map whole_value o)
plain-whole_or_none n None h = tt
plain-whole_or_none n (Some z) h = plain-whole_value n z h

pub plain-texts_or_none : (n : ℕ) (o : Option (List (List ℕ))) → OnSomePlainTo (suc n) (option_map texts_value o)
plain-texts_or_none n None = tt
plain-texts_or_none n (Some texts) = plain-texts_value n texts

pub plain-pairs_or_none : (n : ℕ) (o : Option (List (List ℕ × Option (List ℕ)))) → IfSome o IsPairs → OnSomePlainTo (suc n) (option_map pairs_value o)
plain-pairs_or_none n None h = tt
plain-pairs_or_none n (Some pairs) h = plain-pairs_value n pairs h
