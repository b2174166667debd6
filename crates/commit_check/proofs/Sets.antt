-- What is known of an offer's actions, set by set.
use Rattle.std.proofs.Common.{◌≡◌, ℕ, ◌+◌, ◌<◌, ◌≤◌, List, [], ◌∷◌, ◌++◌, length, take, get_or, Option, Some, None, refl, sym, ap, ◌∙◌, subst, Bool, true, false, bytes_eq}
use Rattle.std.specs.Prelude.{◌||◌, filter_map}
use Rattle.std.specs.Borrow.{Bor}
use Rattle.std.specs.BTreeMap.{BTreeMap}
use Rattle.std.specs.List.{list_any, cons_option}
use Rattle.std.proofs.lemmas.Cmp.{nat_list_eq_equiv}
use Rattle.std.proofs.lemmas.List.{take_all, take_more, append-nil}
use Rattle.std.proofs.lemmas.List.Elements.{filter_map-append}
use Rattle.std.proofs.lemmas.List.Folds.{list_any-append}
use Rattle.log_actions.specs.declared.actions.Action.{Action}
use Rattle.log_commit.specs.Passes.{holds}
use Rattle.commit_check.specs.Known.{Knows, Records}
use Rattle.commit_check.specs.Lookups.{has_one, puts_one}
use Rattle.commit_check.specs.Offers.{added_path, app_of, is_one_of, removed_path}
use Rattle.commit_check.specs.declared.offered.Offered.{Offered}

abbrev Set : Type 0
Set = BTreeMap (Bor (List ℕ)) (Unit {0})

or_swap : (a b : Bool) → (b || a) ≡ (a || (b || false))
or_swap true true = refl
or_swap true false = refl
or_swap false true = refl
or_swap false false = refl

-- a set that has these texts has one more once it is put in
puts_more : (set : Set) (texts : List (List ℕ)) (o : Option (List ℕ)) (q : List ℕ) → ((q : List ℕ) → holds set q ≡ list_any (bytes_eq q) texts) → puts_one set o q ≡ list_any (bytes_eq q) (texts ++ cons_option o [])
puts_more set texts None q h = h q ∙ ap (list_any (bytes_eq q)) (sym (append-nil texts))
puts_more set texts (Some p) q h =
    ap (λ b. bytes_eq p q || b) (h q) ∙ ap (λ b. b || list_any (bytes_eq q) texts) (nat_list_eq_equiv.symm p q)
    ∙ or_swap (list_any (bytes_eq q) texts) (bytes_eq q p) ∙ sym (list_any-append (bytes_eq q) texts (p ∷ []))

one_more : (pick : Action → Option (List ℕ)) (old new : Set) (front : List Action) (a : Action) → ((q : List ℕ) → holds old q ≡ list_any (bytes_eq q) (filter_map pick front))
    → ((q : List ℕ) → holds new q ≡ puts_one old (pick a) q) → (q : List ℕ) → holds new q ≡ list_any (bytes_eq q) (filter_map pick (front ++ a ∷ []))
one_more pick old new front a before now q =
    now q ∙ puts_more old (filter_map pick front) (pick a) q before ∙ ap (list_any (bytes_eq q)) (sym (filter_map-append pick front (a ∷ [])))

knows_one_more : (old new : Offered) (front : List Action) (a : Action) → Knows old front → Records old new a → Knows new (front ++ a ∷ [])
knows_one_more old new front a k r = record {
  added = one_more added_path old.added new.added front a k.added r.added;
  removed = one_more removed_path old.removed new.removed front a k.removed r.removed;
  apps = one_more app_of old.apps new.apps front a k.apps r.apps;
}

-- one action more is known
pub knows_more : (old new : Offered) (actions : List Action) (i : ℕ) (a : Action) → i < length actions → a ≡ get_or actions i a → Knows old (take i actions) → Records old new a → Knows new (take (i + 1) actions)
knows_more old new actions i a lt is k r =
    subst (Knows new) (ap (λ x. take i actions ++ x ∷ []) is ∙ sym (take_more actions i a lt)) (knows_one_more old new (take i actions) a k r)

-- all are known
pub knows_all : (o : Offered) (actions : List Action) (i : ℕ) → length actions ≤ i → Knows o (take i actions) → Knows o actions
knows_all o actions i all k = subst (Knows o) (take_all i actions all) k

-- what a set has is what stands among the texts
pub has_is : (set : Set) (texts : List (List ℕ)) (o : Option (List ℕ)) → ((q : List ℕ) → holds set q ≡ list_any (bytes_eq q) texts) → has_one set o ≡ is_one_of texts o
has_is set texts None h = refl
has_is set texts (Some p) h = h p
