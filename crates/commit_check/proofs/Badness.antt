-- The first action that an offer can't have is the lesser of two places.
use Rattle.std.proofs.Common.{◌≡◌, ℕ, ◌+◌, ◌-◌, ◌≤◌, List, [], ◌∷◌, ◌++◌, Bool, true, false, cond, not, Option, Some, None, Result, Ok, Err, is_some, option_map, length, refl, sym, ap, ◌∙◌, subst, arith, length-append}
use Rattle.std.specs.Prelude.{◌||◌, ◌&&◌, IfSome, nat_lt}
use Rattle.std.specs.List.{list_any, position_from, range_with_len}
use Rattle.std.specs.Option.{option_or}
use Rattle.std.proofs.lemmas.Bool.Decides.{nat_tests}
use Rattle.log_actions.specs.Commits.{has_good_path, is_meta_data, is_protocol}
use Rattle.log_actions.specs.declared.actions.Action.{Action}
use Rattle.log_actions.specs.declared.actions.Action.TheVariants as action
use Rattle.log_actions.specs.declared.actions.CommitInfo.{CommitInfo}
use Rattle.log_commit.specs.Rules.{broken_rule, commit_from, first_broken, has_path_again, or_else, unless_broken}
use Rattle.log_commit.specs.declared.faults.CommitFault.{CommitFault}
use Rattle.log_commit.specs.declared.faults.CommitFault.TheVariants as fault
use Rattle.commit_check.specs.Admission.{first_bad, is_unfit}
use Rattle.commit_check.specs.Offers.{commit_with}
use Rattle.commit_check.specs.Places.{lesser, place_in}
use Rattle.commit_check.proofs.Places.{first_bound, lower}

-- the place of the first action that breaks a rule after those in front
abbrev pub first_breaking : List Action → List Action → Option ℕ
first_breaking front [] = None
first_breaking front (a ∷ actions) = cond (is_some (broken_rule 1 front a)) (Some (length front)) (first_breaking (front ++ a ∷ []) actions)

-- the lesser of two places
abbrev pub least : Option ℕ → Option ℕ → Option ℕ
least None o = o
least (Some m) None = Some m
least (Some m) (Some n) = Some (cond (nat_lt m n) m n)

longer : (front : List Action) (a : Action) → length (front ++ a ∷ []) ≡ length front + 1
longer front a = length-append front (a ∷ [])

breaking_case : (b : Bool) (i : ℕ) (o : Option ℕ) → IfSome o (λ k. i + 1 ≤ k) → IfSome (cond b (Some i) o) (λ k. i ≤ k)
breaking_case true i o h = omega arith
breaking_case false i o h = lower i o h

breaking_bound : (front actions : List Action) → IfSome (first_breaking front actions) (λ k. length front ≤ k)
breaking_bound front [] = tt
breaking_bound front (a ∷ actions) =
    breaking_case (is_some (broken_rule 1 front a)) (length front) (first_breaking (front ++ a ∷ []) actions)
    (subst (λ n. IfSome (first_breaking (front ++ a ∷ []) actions) (λ k. n ≤ k)) (longer front a) (breaking_bound (front ++ a ∷ []) actions))

least_first : (i : ℕ) (o : Option ℕ) → IfSome o (λ k. i ≤ k) → least (Some i) o ≡ Some i
least_first i None h = refl
least_first i (Some k) h =
    elim (nat_lt i k) as (λ b. nat_lt i k ≡ b → Some (cond b i k) ≡ Some i) [
      | true ↦ λ e. refl
      | false ↦ λ e. let same : k ≡ i = grind (arith, nat_tests, e, h) in ap Some same
    ] refl

least_second : (i : ℕ) (o : Option ℕ) → IfSome o (λ k. i + 1 ≤ k) → least o (Some i) ≡ Some i
least_second i None h = refl
least_second i (Some m) h =
    elim (nat_lt m i) as (λ b. nat_lt m i ≡ b → Some (cond b m i) ≡ Some i) [
      | true ↦ λ e. absurd (grind (arith, nat_tests, e, h))
      | false ↦ λ e. refl
    ] refl

bad_case : (u b : Bool) (i : ℕ) (more unfit breaking : Option ℕ) → IfSome unfit (λ k. i + 1 ≤ k) → IfSome breaking (λ k. i + 1 ≤ k) → more ≡ least unfit breaking
    → cond (u || b) (Some i) more ≡ least (cond u (Some i) unfit) (cond b (Some i) breaking)
bad_case true true i more unfit breaking g h e = sym (least_first i (Some i) (omega arith))
bad_case true false i more unfit breaking g h e = sym (least_first i breaking (lower i breaking h))
bad_case false true i more unfit breaking g h e = sym (least_second i unfit g)
bad_case false false i more unfit breaking g h e = e

-- the first action that can't be there is the first that is unfit, or that breaks a rule
pub bad_is_least : (location : List ℕ) (front actions : List Action) (i : ℕ) → i ≡ length front
    → first_bad location front actions ≡ least (position_from (is_unfit location) i actions) (first_breaking front actions)
bad_is_least location front [] i at = refl
bad_is_least location front (a ∷ actions) i at =
    let next : i + 1 ≡ length (front ++ a ∷ []) = omega (arith, at, longer front a) in
    let later : IfSome (first_breaking (front ++ a ∷ []) actions) (λ k. i + 1 ≤ k) = subst (λ n. IfSome (first_breaking (front ++ a ∷ []) actions) (λ k. n ≤ k)) (sym next) (breaking_bound (front ++ a ∷ []) actions) in
    let whole = bad_case (is_unfit location a) (is_some (broken_rule 1 front a)) i (first_bad location (front ++ a ∷ []) actions) (position_from (is_unfit location) (i + 1) actions) (first_breaking (front ++ a ∷ []) actions)
    (first_bound (is_unfit location) (i + 1) actions) later (bad_is_least location (front ++ a ∷ []) actions (i + 1) next) in
    subst (λ n. cond (is_unfit location a || is_some (broken_rule 1 front a)) (Some n) (first_bad location (front ++ a ∷ []) actions)
    ≡ least (cond (is_unfit location a) (Some i) (position_from (is_unfit location) (i + 1) actions)) (cond (is_some (broken_rule 1 front a)) (Some n) (first_breaking (front ++ a ∷ []) actions))) at whole

-- ---- the rules of a commit whose first action is a commitInfo

broken_place : (n : ℕ) (p m g t : Bool)
    → option_map place_in (cond p (Some (fault.TwoProtocols n)) (cond m (Some (fault.TwoMetaData n)) (cond (not g) (Some (fault.BadPath n)) (cond t (Some (fault.PathTwice n)) None))))
    ≡ cond (is_some (cond p (Some (fault.TwoProtocols 1)) (cond m (Some (fault.TwoMetaData 1)) (cond (not g) (Some (fault.BadPath 1)) (cond t (Some (fault.PathTwice 1)) None))))) (Some (n - 2)) None
broken_place n true m g t = refl
broken_place n false true g t = refl
broken_place n false false false t = refl
broken_place n false false true true = refl
broken_place n false false true false = refl

else_place : (o rest : Option CommitFault) → option_map place_in (or_else o rest) ≡ option_or (option_map place_in o) (option_map place_in rest)
else_place None rest = refl
else_place (Some e) rest = refl

or_place : (b : Bool) (i : ℕ) (rest : Option ℕ) → option_or (cond b (Some i) None) rest ≡ cond b (Some i) rest
or_place true i rest = refl
or_place false i rest = refl

breaking_is : (info : CommitInfo) (front actions : List Action) (n : ℕ) → n ≡ length front + 2
    → option_map place_in (first_broken (action.CommitInfo info ∷ front) (range_with_len n (length actions)) actions) ≡ first_breaking front actions
breaking_is info front [] n at = refl
breaking_is info front (a ∷ actions) n at =
    let here : n - 2 ≡ length front = omega (arith, at) in
    let next : n + 1 ≡ length (front ++ a ∷ []) + 2 = omega (arith, at, longer front a) in
    else_place (broken_rule n (action.CommitInfo info ∷ front) a) (first_broken (action.CommitInfo info ∷ (front ++ a ∷ [])) (range_with_len (n + 1) (length actions)) actions)
    ∙ ap (λ o. option_or o (option_map place_in (first_broken (action.CommitInfo info ∷ (front ++ a ∷ [])) (range_with_len (n + 1) (length actions)) actions)))
    (broken_place n (is_protocol a && list_any is_protocol front) (is_meta_data a && list_any is_meta_data front) (has_good_path a) (has_path_again front a))
    ∙ or_place (is_some (broken_rule 1 front a)) (n - 2) _
    ∙ ap (cond (is_some (broken_rule 1 front a)) (Some (n - 2))) (breaking_is info (front ++ a ∷ []) actions (n + 1) next)
    ∙ ap (λ k. cond (is_some (broken_rule 1 front a)) (Some k) (first_breaking (front ++ a ∷ []) actions)) here

abbrev broken_in : ℕ → List Action → Option CommitFault
broken_in now actions = first_broken [] (range_with_len 1 (length (commit_with now actions))) (commit_with now actions)

first_of_all : (now : ℕ) (actions : List Action) → option_map place_in (broken_in now actions) ≡ first_breaking [] actions
first_of_all now actions = breaking_is (record { timestamp = Some now }) [] actions 2 (omega arith)

abbrev fault_or : CommitFault → Result (List Action) CommitFault → CommitFault
fault_or e (Ok c) = e
fault_or e (Err f) = f

abbrev actions_or : List Action → Result (List Action) CommitFault → List Action
actions_or xs (Ok c) = c
actions_or xs (Err f) = xs

no_err : (xs : List Action) (f : CommitFault) → Ok xs ≡ Err f → ⊥
no_err xs f h = cc

no_ok : (f : CommitFault) (xs : List Action) → Err f ≡ Ok xs → ⊥
no_ok f xs h = cc

fault_is : (o : Option CommitFault) (all : List Action) (e : CommitFault) → unless_broken o all ≡ Err e → o ≡ Some e
fault_is None all e is = absurd (no_err all e is)
fault_is (Some f) all e is = ap (λ r. Some (fault_or e r)) is

unbroken : (o : Option CommitFault) (all c : List Action) → unless_broken o all ≡ Ok c → o ≡ None
unbroken None all c is = refl
unbroken (Some f) all c is = absurd (no_ok f c is)

same_actions : (o : Option CommitFault) (all c : List Action) → unless_broken o all ≡ Ok c → c ≡ all
same_actions None all c is = sym (ap (actions_or all) is)
same_actions (Some f) all c is = absurd (no_ok f c is)

least_lesser : (u : Option ℕ) (n : ℕ) → least u (Some n) ≡ Some (lesser u n)
least_lesser None n = refl
least_lesser (Some m) n = refl

least_none : (u : Option ℕ) → least u None ≡ u
least_none None = refl
least_none (Some m) = refl

-- where a rule is broken
pub bad_where_broken : (location : List ℕ) (now : ℕ) (actions : List Action) (e : CommitFault) (u : Option ℕ) → u ≡ position_from (is_unfit location) 0 actions → commit_from (commit_with now actions) ≡ Err e
    → first_bad location [] actions ≡ Some (lesser u (place_in e))
bad_where_broken location now actions e u is broken =
    bad_is_least location [] actions 0 refl
    ∙ ap (λ o. least o (first_breaking [] actions)) (sym is)
    ∙ ap (least u) (sym (first_of_all now actions) ∙ ap (option_map place_in) (fault_is (broken_in now actions) (commit_with now actions) e broken))
    ∙ least_lesser u (place_in e)

-- where none is
pub bad_where_unbroken : (location : List ℕ) (now : ℕ) (actions c : List Action) (u : Option ℕ) → u ≡ position_from (is_unfit location) 0 actions → commit_from (commit_with now actions) ≡ Ok c
    → first_bad location [] actions ≡ u
bad_where_unbroken location now actions c u is made =
    bad_is_least location [] actions 0 refl
    ∙ ap (λ o. least o (first_breaking [] actions)) (sym is)
    ∙ ap (least u) (sym (first_of_all now actions) ∙ ap (option_map place_in) (unbroken (broken_in now actions) (commit_with now actions) c made))
    ∙ least_none u

pub commit_is : (now : ℕ) (actions c : List Action) → commit_from (commit_with now actions) ≡ Ok c → c ≡ commit_with now actions
commit_is now actions c made = same_actions (broken_in now actions) (commit_with now actions) c made
