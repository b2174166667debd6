-- A list of actions keeps the rules of a commit exactly where none of them breaks one after those before it.
use Rattle.std.proofs.Common.{◌≡◌, ℕ, zero, suc, ◌+◌, ◌≤◌, List, [], ◌∷◌, ◌++◌, length, Option, Some, None, Ok, is_ok, refl, sym, ap, ◌∙◌, subst, Bool, true, false, cond, not, arith, true≢false, bytes_eq, nat_le, append_assoc}
use Rattle.std.specs.Prelude.{◌&&◌, filter_map}
use Rattle.std.specs.List.{count_by, list_any, list_all, cons_option, range_with_len}
use Rattle.std.specs.Option.{option_map_or}
use Rattle.std.proofs.lemmas.Bool.{and_parts, le-leb, leb-true}
use Rattle.std.proofs.lemmas.List.{append-nil}
use Rattle.std.proofs.lemmas.List.Elements.{filter_map-append}
use Rattle.std.proofs.lemmas.List.FromFn.{length-range_with_len}
use Rattle.std.proofs.lemmas.List.Folds.{list_all-append}
use Rattle.std.proofs.lemmas.List.Sums.{sum_by-append}
use Rattle.log_actions.specs.Commits.{IsCommit, is_protocol, is_meta_data, has_good_path, counted_path, are_distinct}
use Rattle.log_actions.specs.declared.actions.Action.{Action}
use Rattle.log_commit.specs.Rules.{broken_rule, commit_from, first_broken, has_path_again, or_else, unless_broken}
use Rattle.log_commit.specs.declared.faults.CommitFault.{CommitFault}
use Rattle.log_commit.specs.declared.faults.CommitFault.TheVariants as fault
use Rattle.log_commit.proofs.Distinct.{weight, count_more, counts, counts-none, any-flip, twice, one_more}

-- the rules, one by one
pub record Rules (actions : List Action) : Type 0 where
  protocols : count_by is_protocol actions ≤ 1
  meta_data : count_by is_meta_data actions ≤ 1
  paths : list_all has_good_path actions ≡ true
  distinct : are_distinct (filter_map counted_path actions) ≡ true

pub rules_of : (actions : List Action) → IsCommit actions → Rules actions
rules_of actions is =
    let a = and_parts (nat_le (count_by is_protocol actions) 1) _ is in
    let b = and_parts (nat_le (count_by is_meta_data actions) 1) _ a.1 in
    let c = and_parts (list_all has_good_path actions) (are_distinct (filter_map counted_path actions)) b.1 in
    record { protocols = leb-true _ _ a.0; meta_data = leb-true _ _ b.0; paths = c.0; distinct = c.1 }

pub by_rules : (actions : List Action) → Rules actions → IsCommit actions
by_rules actions r =
    let p : nat_le (count_by is_protocol actions) 1 ≡ true = le-leb (count_by is_protocol actions) 1 r.protocols in
    let m : nat_le (count_by is_meta_data actions) 1 ≡ true = le-leb (count_by is_meta_data actions) 1 r.meta_data in
    rw (p, m, r.paths, r.distinct) refl

-- no rule is broken
record Kept (front : List Action) (a : Action) : Type 0 where
  protocol : (is_protocol a && list_any is_protocol front) ≡ false
  meta_data : (is_meta_data a && list_any is_meta_data front) ≡ false
  path : has_good_path a ≡ true
  again : has_path_again front a ≡ false

some_fault : (e : CommitFault) → Some e ≡ None → ⊥
some_fault e h = cc

kept_case : (n : ℕ) (p m g t : Bool) → cond p (Some (fault.TwoProtocols n)) (cond m (Some (fault.TwoMetaData n)) (cond (not g) (Some (fault.BadPath n)) (cond t (Some (fault.PathTwice n)) None))) ≡ None
    → (p ≡ false) × (m ≡ false) × (g ≡ true) × (t ≡ false)
kept_case n true m g t e = absurd (some_fault _ e)
kept_case n false true g t e = absurd (some_fault _ e)
kept_case n false false false t e = absurd (some_fault _ e)
kept_case n false false true true e = absurd (some_fault _ e)
kept_case n false false true false e = (refl, refl, refl, refl)

kept : (n : ℕ) (front : List Action) (a : Action) → broken_rule n front a ≡ None → Kept front a
kept n front a e =
    let k = kept_case n (is_protocol a && list_any is_protocol front) (is_meta_data a && list_any is_meta_data front) (has_good_path a) (has_path_again front a) e in
    record { protocol = k.0; meta_data = k.1; path = k.2; again = k.3 }

none_broken : (n : ℕ) (front : List Action) (a : Action) → Kept front a → broken_rule n front a ≡ None
none_broken n front a k = rw (k.protocol, k.meta_data, k.path, k.again) refl

-- how often a test passes in a list with one more
count_at : (test : Action → Bool) (front rest : List Action) (a : Action) → count_by test (front ++ a ∷ rest) ≡ count_by test front + (weight (test a) + count_by test rest)
count_at test front rest a = sum_by-append (λ x. cond (test x) 1 0) front (a ∷ rest) ∙ ap (λ n. count_by test front + n) (count_more test a rest)

one_case : (test : Action → Bool) (front : List Action) (b : Bool) → (b && list_any test front) ≡ false → count_by test front ≤ 1 → count_by test front + (weight b + 0) ≤ 1
one_case test front false e h = omega arith
one_case test front true e h = omega (arith, counts-none test front e)

at_most_one : (test : Action → Bool) (front : List Action) (a : Action) → (test a && list_any test front) ≡ false → count_by test front ≤ 1 → count_by test (front ++ a ∷ []) ≤ 1
at_most_one test front a e h = subst (λ n. n ≤ 1) (sym (count_at test front [] a)) (one_case test front (test a) e h)

alone_case : (test : Action → Bool) (front rest : List Action) (b c : Bool) → list_any test front ≡ c → count_by test front + (weight b + count_by test rest) ≤ 1 → (b && c) ≡ false
alone_case test front rest false c e h = refl
alone_case test front rest true false e h = refl
alone_case test front rest true true e h = absurd (omega (arith, counts test front e))

not_before : (test : Action → Bool) (front rest : List Action) (a : Action) → count_by test (front ++ a ∷ rest) ≤ 1 → (test a && list_any test front) ≡ false
not_before test front rest a h = alone_case test front rest (test a) (list_any test front) refl (subst (λ n. n ≤ 1) (count_at test front rest a) h)

-- whether a path, if there is one, is among some
abbrev among : List (List ℕ) → Option (List ℕ) → Bool
among paths o = option_map_or (λ path. list_any (bytes_eq path) paths) o false

distinct_more : (paths : List (List ℕ)) (o : Option (List ℕ)) → among paths o ≡ false → are_distinct paths ≡ true → are_distinct (paths ++ cons_option o []) ≡ true
distinct_more paths None e all = ap are_distinct (append-nil paths) ∙ all
distinct_more paths (Some p) e all = one_more paths p all (any-flip p paths ∙ e)

not_among : (paths rest : List (List ℕ)) (o : Option (List ℕ)) (b : Bool) → among paths o ≡ b → are_distinct (paths ++ cons_option o rest) ≡ true → b ≡ false
not_among paths rest None b e all = sym e
not_among paths rest (Some p) false e all = refl
not_among paths rest (Some p) true e all = absurd (true≢false (sym all ∙ twice paths rest p (any-flip p paths ∙ e)))

paths_at : (front rest : List Action) (a : Action) → filter_map counted_path (front ++ a ∷ rest) ≡ filter_map counted_path front ++ cons_option (counted_path a) (filter_map counted_path rest)
paths_at front rest a = filter_map-append counted_path front (a ∷ rest)

good_at : (front rest : List Action) (a : Action) → list_all has_good_path (front ++ a ∷ rest) ≡ true → has_good_path a ≡ true
good_at front rest a all =
    let parts = and_parts (list_all has_good_path front) (has_good_path a && list_all has_good_path rest) (sym (list_all-append has_good_path front (a ∷ rest)) ∙ all) in
    (and_parts (has_good_path a) (list_all has_good_path rest) parts.1).0

kept_more : (front : List Action) (a : Action) → Rules front → Kept front a → Rules (front ++ a ∷ [])
kept_more front a r k = record {
  protocols = at_most_one is_protocol front a k.protocol r.protocols;
  meta_data = at_most_one is_meta_data front a k.meta_data r.meta_data;
  paths = list_all-append has_good_path front (a ∷ []) ∙ rw (r.paths, k.path) refl;
  distinct = ap are_distinct (paths_at front [] a) ∙ distinct_more (filter_map counted_path front) (counted_path a) k.again r.distinct;
}

before : (front rest : List Action) (a : Action) → Rules (front ++ a ∷ rest) → Kept front a
before front rest a r = record {
  protocol = not_before is_protocol front rest a r.protocols;
  meta_data = not_before is_meta_data front rest a r.meta_data;
  path = good_at front rest a r.paths;
  again = not_among (filter_map counted_path front) (filter_map counted_path rest) (counted_path a) _ refl (sym (ap are_distinct (paths_at front rest a)) ∙ r.distinct);
}

none_both : (o p : Option CommitFault) → or_else o p ≡ None → (o ≡ None) × (p ≡ None)
none_both None p e = (refl, e)
none_both (Some f) p e = absurd (some_fault f e)

none_first : (front : List Action) (ns : List ℕ) (actions : List Action) → first_broken front ns actions ≡ None → length ns ≡ length actions → Rules front → Rules (front ++ actions)
none_first front [] [] e same r = subst Rules (sym (append-nil front)) r
none_first front [] (a ∷ actions) e same r = absurd (omega arith)
none_first front (n ∷ ns) [] e same r = absurd (omega arith)
none_first front (n ∷ ns) (a ∷ actions) e same r =
    let none = none_both (broken_rule n front a) (first_broken (front ++ a ∷ []) ns actions) e in
    subst Rules (append_assoc front (a ∷ []) actions) (none_first (front ++ a ∷ []) ns actions none.1 (omega arith) (kept_more front a r (kept n front a none.0)))

all_none : (front : List Action) (ns : List ℕ) (actions : List Action) → Rules (front ++ actions) → first_broken front ns actions ≡ None
all_none front [] actions r = refl
all_none front (n ∷ ns) [] r = refl
all_none front (n ∷ ns) (a ∷ actions) r =
    ap (λ o. or_else o (first_broken (front ++ a ∷ []) ns actions)) (none_broken n front a (before front actions a r))
    ∙ all_none (front ++ a ∷ []) ns actions (subst Rules (sym (append_assoc front (a ∷ []) actions)) r)

-- where no action breaks a rule, they are a commit's
pub commit_unbroken : (ns : List ℕ) (actions : List Action) → first_broken [] ns actions ≡ None → length ns ≡ length actions → IsCommit actions
commit_unbroken ns actions e same = by_rules actions (none_first [] ns actions e same (rules_of [] refl))

pub unbroken_commit : (ns : List ℕ) (actions : List Action) → IsCommit actions → first_broken [] ns actions ≡ None
unbroken_commit ns actions is = all_none [] ns actions (rules_of actions is)

broken_none : (o : Option CommitFault) (actions : List Action) → unless_broken o actions ≡ Ok actions → o ≡ None
broken_none None actions is = refl
broken_none (Some e) actions is = absurd (true≢false (sym (ap is_ok is)))

-- actions are a commit's exactly where none of them breaks a rule
pub from_gives : (actions : List Action) → commit_from actions ≡ Ok actions → IsCommit actions
from_gives actions is = commit_unbroken (range_with_len 1 (length actions)) actions (broken_none (first_broken [] (range_with_len 1 (length actions)) actions) actions is) (length-range_with_len 1 (length actions))

pub from_commit : (actions : List Action) → IsCommit actions → commit_from actions ≡ Ok actions
from_commit actions is = ap (λ o. unless_broken o actions) (unbroken_commit (range_with_len 1 (length actions)) actions is)

-- the numbers from one on, with one more at the end
pub range_more : (a n : ℕ) → range_with_len a (suc n) ≡ range_with_len a n ++ (a + n) ∷ []
range_more a zero = let e : a ≡ a + 0 = omega arith in ap (λ v. v ∷ []) e
range_more a (suc n) = let e : a + 1 + n ≡ a + suc n = omega arith in ap (λ vs. a ∷ vs) (range_more (a + 1) n ∙ ap (λ v. range_with_len (a + 1) n ++ v ∷ []) e)
