-- The names of commits are names.
use Rattle.std.proofs.Common.{◌≡◌, ℕ, ◌+◌, ◌-◌, ◌*◌, ◌<◌, ◌≤◌, List, ◌++◌, length, take, refl, sym, ap, ◌∙◌, Bool, true, false, arith, rules, get_or, tests, codes, nat_lt, nat_le, length-append, true≢false, cond, Option, Some, None, is_some, Result, Ok, Err}
use Rattle.std.specs.Prelude.{◌^◌, IsTrue, IsSome, IfOk, MatchOption}
use Rattle.std.specs.List.{list_all}
use Rattle.std.specs.Char.{digit_value, is_ascii_digit}
use Rattle.std.specs.Str.Parse.{digits_value}
use Rattle.std.proofs.lemmas.Bool.{and_right}
use Rattle.std.proofs.lemmas.Bool.Decides.{nat_tests}
use Rattle.std.proofs.lemmas.Int.Digits.{digits_value_more}
use Rattle.std.proofs.lemmas.Str.Parse.{digits_value-take-le}
use Rattle.std.proofs.lemmas.List.Folds.{list_all_at}
use Rattle.edge_core.specs.Names.{is_name}
use Rattle.edge_core.proofs.Basics.{nat_le_true}
use Rattle.edge_core.proofs.NameLaws.{is_name-in_folder, is_name-in_folders}
use Rattle.edge_core.proofs.Numbered.{numbered_size, numbered_is_one}
use Rattle.log_commit.specs.Names.{folder, segment_of, commit_name, name_of}

nat_le_is : (m n : ℕ) → nat_le m n ≡ true → m ≤ n
nat_le_is m n e = search (arith, e)

long_name : (s : List ℕ) → nat_le (length s) 1024 ≡ false → is_name s ≡ false
long_name s e = rw e (and_right (nat_lt 0 (length s)) false refl)

whole_size : (f s : List ℕ) → length (f ++ codes "/" ++ s) ≡ length f + 1 + length s
whole_size f s = simp length-append refl

short_case : (location : List ℕ) (version : ℕ) (b : Bool) → nat_le (length (commit_name location version)) 1024 ≡ b → is_name location ≡ true → version < 2 ^ 64 → is_name (commit_name location version) ≡ b
short_case location version true e is lt =
    let size = numbered_size version lt in
    let fits : length (commit_name location version) ≤ 1024 = nat_le_is _ _ e in
    let long : length (commit_name location version) ≡ length location + 12 + 25 = whole_size (folder location) (segment_of version) ∙ omega (arith, whole_size location (codes "_delta_log"), size) in
    is_name-in_folders location (codes "_delta_log") (segment_of version) is refl (numbered_is_one version lt) (omega arith)
short_case location version false e is lt = long_name (commit_name location version) e

-- a version's commit has a name exactly where it has at most 1,024 bytes
pub commit_is_name : (location : List ℕ) (version : ℕ) → is_name location ≡ true → version < 2 ^ 64 → is_name (commit_name location version) ≡ nat_le (length (commit_name location version)) 1024
commit_is_name location version is lt = short_case location version _ refl is lt

in_range : (c : ℕ) (b : Bool) → is_ascii_digit c ≡ b → b ≡ true → (48 ≤ c) × (c ≤ 57)
in_range c b e pass = let h : is_ascii_digit c ≡ true = e ∙ pass in search (rules, tests)

digit_is : (c : ℕ) → 48 ≤ c → c ≤ 57 → digit_value c ≡ c - 48
digit_is c low high = grind (arith, nat_tests)

digit_at : (ds : List ℕ) (i : ℕ) (b : Bool) → is_ascii_digit (get_or ds i 0) ≡ b → i < length ds → list_all is_ascii_digit ds ≡ true → digit_value (get_or ds i 0) ≡ get_or ds i 0 - 48
digit_at ds i false e lt all = absurd (true≢false (sym all ∙ list_all_at is_ascii_digit ds i 0 lt e))
digit_at ds i true e lt all = let p = in_range (get_or ds i 0) true e refl in digit_is (get_or ds i 0) p.0 p.1

-- the folder of the log of a table at a short location has a name
pub folder_is_name : (location : List ℕ) → is_name location ≡ true → length location ≤ 256 → is_name (folder location) ≡ true
folder_is_name location is short = is_name-in_folder location (codes "_delta_log") is refl (omega arith)

-- each version has a name at a short location
pub short_has_name : (location : List ℕ) (version : ℕ) → version < 2 ^ 64 → length location ≤ 256 → is_some (name_of location version) ≡ true
short_has_name location version lt short =
    let size = numbered_size version lt in
    let long : length (commit_name location version) ≡ length location + 12 + 25 = whole_size (folder location) (segment_of version) ∙ omega (arith, whole_size location (codes "_delta_log"), size) in
    let fits : nat_le (length (commit_name location version)) 1024 ≡ true = nat_le_true (length (commit_name location version)) 1024 (omega arith) in
    ap (λ b. is_some (cond b (Some (commit_name location version)) None)) fits

pub short_answer : {E : Type 0} (location : List ℕ) (version : ℕ) (r : Result (Option (List ℕ)) E) → version < 2 ^ 64 → IfOk r (λ name. name ≡ name_of location version) → IfOk r (λ name. length location ≤ 256 → IsSome name)
short_answer location version (Ok o) lt e = λ short. ap is_some e ∙ short_has_name location version lt short
short_answer location version (Err e) lt v = tt

-- the number that one digit more writes
pub number_more : (ds : List ℕ) (i n : ℕ) → i < length ds → list_all is_ascii_digit ds ≡ true → n ≡ digits_value 10 (take i ds) → digits_value 10 (take (i + 1) ds) ≡ n * 10 + (get_or ds i 0 - 48)
number_more ds i n lt all is = digits_value_more 10 ds i lt ∙ ap (λ v. v * 10 + digit_value (get_or ds i 0)) (sym is) ∙ ap (λ v. n * 10 + v) (digit_at ds i _ refl lt all)

-- and the digits write no less
pub number_least : (ds : List ℕ) (i n : ℕ) → i < length ds → list_all is_ascii_digit ds ≡ true → n ≡ digits_value 10 (take i ds) → n * 10 + (get_or ds i 0 - 48) ≤ digits_value 10 ds
number_least ds i n lt all is =
    let more = number_more ds i n lt all is in
    let most = digits_value-take-le 10 ds (i + 1) (omega arith) in
    omega arith

-- the name that is made of bytes
pub made_name : (s t : List ℕ) (o : Option (List ℕ)) (b : Bool) → s ≡ t → is_name t ≡ b → MatchOption o (is_name s ≡ false) (λ n. (n ≡ s) × IsTrue (is_name n)) → o ≡ cond b (Some t) None
made_name s t None true e is h = absurd (true≢false (sym is ∙ ap is_name (sym e) ∙ h))
made_name s t None false e is h = refl
made_name s t (Some n) true e is h = ap Some (h.0 ∙ e)
made_name s t (Some n) false e is h = absurd (true≢false (sym h.1 ∙ ap is_name (h.0 ∙ e) ∙ is))
