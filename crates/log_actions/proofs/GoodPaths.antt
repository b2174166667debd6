-- A good path has a name below each short location.
use Rattle.std.proofs.Common.{◌≡◌, ℕ, ◌+◌, ◌<◌, ◌≤◌, List, [], ◌∷◌, ◌++◌, length, refl, sym, ap, ◌∙◌, Bool, true, false, cond, Option, Some, None, arith, append_assoc, length-append, true≢false, codes, is_some, not, eqb, Result, Ok, Err}
use Rattle.std.specs.Prelude.{◌&&◌, replicate, nat_lt, nat_le, IsSome, IsTrue, IfOk, option_and_then}
use Rattle.std.specs.Str.{is_utf8}
use Rattle.std.specs.List.{list_all}
use Rattle.std.proofs.lemmas.List.Folds.{list_all-append, list_any-append}
use Rattle.edge_core.proofs.Basics.{each, neither, not_true, nat_le_true, nat_lt_true}
use Rattle.edge_core.proofs.NameLaws.{segments-append, is_name-below}
use Rattle.edge_core.specs.Names.{has_zero, is_name, is_segment, segments}
use Rattle.percent_encoding.specs.Percent.{percent_decode}
use Rattle.log_actions.specs.Paths.{is_good_path, is_relative, name_of_text, name_under}

some_bytes : (b : List ℕ) → list_all is_segment (segments b) ≡ true → 0 < length b
some_bytes [] parts = absurd (true≢false (sym parts))
some_bytes (x ∷ b) parts = omega arith

nat_le_is : (m n : ℕ) → nat_le m n ≡ true → m ≤ n
nat_le_is m n e = search (arith, e)

-- what stands after a slash in a name is one
is_name-after : (a b : List ℕ) → is_name (a ++ 47 ∷ b) ≡ true → (is_name b ≡ true) × (length a + 1 + length b ≤ 1024)
is_name-after a b is =
    let w = a ++ 47 ∷ b in
    let p = each (nat_lt 0 (length w)) (nat_le (length w) 1024 && (not (has_zero w) && list_all is_segment (segments w))) is in
    let q = each (nat_le (length w) 1024) (not (has_zero w) && list_all is_segment (segments w)) p.1 in
    let r = each (not (has_zero w)) (list_all is_segment (segments w)) q.1 in
    let fits : length (a ++ 47 ∷ b) ≤ 1024 = nat_le_is (length (a ++ 47 ∷ b)) 1024 q.0 in
    let long : length (a ++ 47 ∷ b) ≡ length a + (length b + 1) = length-append a (47 ∷ b) ∙ omega arith in
    let clean : has_zero b ≡ false = (neither (has_zero a) (has_zero b) (sym (list_any-append (λ x. eqb x 0) a (47 ∷ b)) ∙ not_true _ r.0)).1 in
    let parts : list_all is_segment (segments b) ≡ true = (each (list_all is_segment (segments a)) (list_all is_segment (segments b)) (sym (list_all-append is_segment (segments a) (segments b)) ∙ ap (list_all is_segment) (sym (segments-append a b)) ∙ r.1)).1 in
    (rw (nat_lt_true 0 (length b) (some_bytes b parts), nat_le_true (length b) 1024 (omega arith), clean, parts) refl, omega arith)

some_name : (location text : List ℕ) → is_some (name_of_text location text) ≡ true → is_name (location ++ codes "/" ++ text) ≡ true
some_name location text some = named _ (is_name (location ++ codes "/" ++ text)) some
  where
    named : (o : List ℕ) (b : Bool) → is_some (cond b (Some o) None) ≡ true → b ≡ true
    named o true some = refl
    named o false some = some

pub short_location : (location text : List ℕ) → is_name location ≡ true → length location ≤ 256 → is_some (name_of_text (replicate 256 97) text) ≡ true → is_some (name_of_text location text) ≡ true
short_location location text is short some =
    let long = some_name (replicate 256 97) text some in
    let rest = is_name-after (replicate 256 97) text (ap is_name (sym (append_assoc (replicate 256 97) (47 ∷ []) text)) ∙ long) in
    let whole : is_name (location ++ codes "/" ++ text) ≡ true = is_name-below location text is rest.0 (omega (arith, rest.1)) in
    ap (λ b. is_some (cond b (Some (location ++ codes "/" ++ text)) None)) whole

under_case : (location path : List ℕ) (r u : Bool) → is_name location ≡ true → length location ≤ 256
    → is_some (cond r (option_and_then (name_of_text (replicate 256 97)) (cond u (Some (percent_decode path)) None)) None) ≡ true
    → is_some (cond r (option_and_then (name_of_text location) (cond u (Some (percent_decode path)) None)) None) ≡ true
under_case location path true true is short some = short_location location (percent_decode path) is short some
under_case location path true false is short some = some
under_case location path false u is short some = some

-- a good path has a name below each location of at most 256 bytes
pub good_path_has_name : (location path : List ℕ) → is_name location ≡ true → length location ≤ 256 → is_good_path path ≡ true → is_some (name_under location path) ≡ true
good_path_has_name location path is short good = under_case location path (is_relative path) (is_utf8 (percent_decode path)) is short good

pub good_answer : {E : Type 0} (location path : List ℕ) (r : Result (Option (List ℕ)) E) → is_name location ≡ true → IfOk r (λ name. name ≡ name_under location path) → IfOk r (λ name. IsTrue (is_good_path path) → length location ≤ 256 → IsSome name)
good_answer location path (Ok o) is e = λ good short. ap is_some e ∙ good_path_has_name location path is short good
good_answer location path (Err e) is v = tt
