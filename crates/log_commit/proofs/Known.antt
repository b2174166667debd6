-- What is known of the actions before one.
use Rattle.std.proofs.Common.{◌≡◌, ℕ, ◌+◌, ◌<◌, List, [], ◌∷◌, ◌++◌, length, take, drop, get_or, Option, Some, None, is_some, refl, sym, ap, ◌∙◌, subst, Bool, true, false, true≢false, bytes_eq}
use Rattle.std.specs.Prelude.{◌||◌, filter_map}
use Rattle.std.specs.Borrow.{Bor}
use Rattle.std.specs.BTreeMap.{BTreeMap}
use Rattle.std.specs.List.{list_any, cons_option}
use Rattle.std.specs.Option.{option_map_or}
use Rattle.std.proofs.lemmas.Cmp.{nat_list_eq_equiv}
use Rattle.std.proofs.lemmas.List.{take_more, drop_more, append-nil}
use Rattle.std.proofs.lemmas.List.Elements.{filter_map-append}
use Rattle.std.proofs.lemmas.List.Folds.{list_any-append}
use Rattle.log_actions.specs.Commits.{counted_path, is_meta_data, is_protocol}
use Rattle.log_actions.specs.declared.actions.Action.{Action}
use Rattle.log_commit.specs.Rules.{broken_rule, first_broken, or_else}
use Rattle.log_commit.specs.Passes.{broken, holds}
use Rattle.log_commit.specs.Seen.{Knows, Records}
use Rattle.log_commit.specs.declared.faults.CommitFault.{CommitFault}
use Rattle.log_commit.specs.declared.rules.Seen.{Seen}

or_swap : (a b : Bool) → (b || a) ≡ (a || (b || false))
or_swap true true = refl
or_swap true false = refl
or_swap false true = refl
or_swap false false = refl

any_more : (test : Action → Bool) (front : List Action) (a : Action) → (list_any test front || test a) ≡ list_any test (front ++ a ∷ [])
any_more test front a = or_false (list_any test front) (test a) ∙ sym (list_any-append test front (a ∷ []))
  where
    or_false : (b c : Bool) → (b || c) ≡ (b || (c || false))
    or_false true c = refl
    or_false false true = refl
    or_false false false = refl

path_more : (q : List ℕ) (paths : List (List ℕ)) (o : Option (List ℕ)) → (option_map_or (λ path. bytes_eq path q) o false || list_any (bytes_eq q) paths) ≡ list_any (bytes_eq q) (paths ++ cons_option o [])
path_more q paths None = ap (list_any (bytes_eq q)) (sym (append-nil paths))
path_more q paths (Some p) = ap (λ b. b || list_any (bytes_eq q) paths) (nat_list_eq_equiv.symm p q) ∙ or_swap (list_any (bytes_eq q) paths) (bytes_eq q p) ∙ sym (list_any-append (bytes_eq q) paths (p ∷ []))

knows_one_more : (old new : Seen) (front : List Action) (a : Action) → Knows old front → Records old new a → Knows new (front ++ a ∷ [])
knows_one_more old new front a k r = record {
  protocol = r.protocol ∙ ap (λ b. b || is_protocol a) k.protocol ∙ any_more is_protocol front a;
  meta_data = r.meta_data ∙ ap (λ b. b || is_meta_data a) k.meta_data ∙ any_more is_meta_data front a;
  paths = λ q. r.paths q ∙ ap (λ b. option_map_or (λ path. bytes_eq path q) (counted_path a) false || b) (k.paths q) ∙ path_more q (filter_map counted_path front) (counted_path a) ∙ ap (list_any (bytes_eq q)) (sym (filter_map-append counted_path front (a ∷ [])));
}

-- one action more is known
pub knows_more : (old new : Seen) (actions : List Action) (i : ℕ) (a : Action) → i < length actions → a ≡ get_or actions i a → Knows old (take i actions) → Records old new a → Knows new (take (i + 1) actions)
knows_more old new actions i a lt is k r =
    subst (Knows new) (ap (λ x. take i actions ++ x ∷ []) is ∙ sym (take_more actions i a lt)) (knows_one_more old new (take i actions) a k r)

again_is : (seen : BTreeMap (Bor (List ℕ)) (Unit {0})) (paths : List (List ℕ)) (o : Option (List ℕ)) → ((q : List ℕ) → holds seen q ≡ list_any (bytes_eq q) paths)
    → option_map_or (holds seen) o false ≡ option_map_or (λ path. list_any (bytes_eq path) paths) o false
again_is seen paths None h = refl
again_is seen paths (Some p) h = h p

-- the rule that is broken, of what is known
pub broken_is : (n : ℕ) (seen : Seen) (front : List Action) (a : Action) → Knows seen front → broken n seen.protocol seen.meta_data (option_map_or (holds seen.paths) (counted_path a) false) a ≡ broken_rule n front a
broken_is n seen front a k = rw (k.protocol, k.meta_data, again_is seen.paths (filter_map counted_path front) (counted_path a) k.paths) refl

-- the first that is broken, by the next action
pub first_next : (numbers : List ℕ) (actions : List Action) (i : ℕ) (a : Action) → i < length numbers → i < length actions → a ≡ get_or actions i a
    → first_broken (take i actions) (drop i numbers) (drop i actions) ≡ or_else (broken_rule (get_or numbers i 0) (take i actions) a) (first_broken (take (i + 1) actions) (drop (i + 1) numbers) (drop (i + 1) actions))
first_next numbers actions i a some lt is =
    rw (drop_more numbers i 0 some, drop_more actions i a lt, take_more actions i a lt, ← is) refl

none_of : (o : Option CommitFault) → is_some o ≡ false → o ≡ None
none_of None e = refl
none_of (Some f) e = absurd (true≢false e)

-- the next action breaks no rule
pub left_more : (numbers : List ℕ) (actions : List Action) (i : ℕ) (a : Action) (seen : Seen) (o total : Option CommitFault) → i < length numbers → i < length actions → a ≡ get_or actions i a → Knows seen (take i actions)
    → o ≡ broken (get_or numbers i 0) seen.protocol seen.meta_data (option_map_or (holds seen.paths) (counted_path a) false) a → is_some o ≡ false
    → first_broken (take i actions) (drop i numbers) (drop i actions) ≡ total → first_broken (take (i + 1) actions) (drop (i + 1) numbers) (drop (i + 1) actions) ≡ total
left_more numbers actions i a seen o total some lt is k e none left =
    let unbroken : broken_rule (get_or numbers i 0) (take i actions) a ≡ None = sym (broken_is (get_or numbers i 0) seen (take i actions) a k) ∙ sym e ∙ none_of o none in
    sym (first_next numbers actions i a some lt is ∙ ap (λ r. or_else r (first_broken (take (i + 1) actions) (drop (i + 1) numbers) (drop (i + 1) actions))) unbroken) ∙ left
