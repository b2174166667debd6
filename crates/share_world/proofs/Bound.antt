-- What a recipient sees was bound, and so has a log.
use Rattle.std.proofs.Common.{◌≡◌, ◌⊎◌, ℕ, ◌||◌, Bool, true, false, List, [], ◌∷◌, Option, Some, None, sym, refl, ap, ◌∙◌, bytes_eq, inl, inr, unwrap_or, option_map, option_and_then}
use Rattle.std.specs.List.{cons_option, filter_map, last_or, list_any}
use Rattle.share_catalog.specs.Catalogue.{binding_edition, bound, bound_location, is_table, last_word, locations_bound, said, says_binding}
use Rattle.share_catalog.specs.Views.{Spot, binding, grant, shared, spot_with}
use Rattle.share_catalog.specs.declared.edit.Binding.{Binding}
use Rattle.share_catalog.specs.declared.edit.Edit.{Edit}
use Rattle.share_catalog.specs.declared.edit.Edit.TheVariants as edit
use Rattle.share_catalog.specs.declared.table_name.TableName.{TableName}
use Rattle.share_catalog.proofs.KeyTests.{bytes_refl}

said_is : {X : Type 0} (b : Bool) (x y : X) → said b x ≡ Some y → x ≡ y
said_is true x y e = cc e
said_is false x y e = absurd (cc e)

not_none : {X : Type 0} (b : Bool) (y : X) → said b None ≡ Some (Some y) → ⊥
not_none true y e = cc e
not_none false y e = cc e

-- an edit that says a binding binds its location
binds : (t : TableName) (x : Edit) (b : Binding) → says_binding t x ≡ Some (Some b) → bound_location x ≡ Some b.location
binds t (edit.Bind u c) b is = let one : Some c ≡ Some b = said_is (is_table u t) (Some c) (Some b) is in let same : c ≡ b = cc one in ap (λ (y : Binding). Some y.location) same
binds t (edit.Unbind u) b is = absurd (not_none (is_table u t) b is)
binds t (edit.NewShare n) b is = absurd (not_none (bytes_eq n t.share) b is)
binds t (edit.DropShare n) b is = absurd (not_none (bytes_eq n t.share) b is)
binds t (edit.NewRecipient n c) b is = absurd (cc is)
binds t (edit.Rotate n c) b is = absurd (cc is)
binds t (edit.DropRecipient n) b is = absurd (cc is)
binds t (edit.Grant n m) b is = absurd (cc is)
binds t (edit.Revoke n m) b is = absurd (cc is)

any_cons : (l : List ℕ) (o : Option (List ℕ)) (xs : List (List ℕ)) → list_any (bytes_eq l) xs ≡ true → list_any (bytes_eq l) (cons_option o xs) ≡ true
any_cons l None xs e = e
any_cons l (Some x) xs e = elim (bytes_eq l x) as (λ b. (b || list_any (bytes_eq l) xs) ≡ true) [
  | true ↦ refl
  | false ↦ e
]

first_cons : (l : List ℕ) (xs : List (List ℕ)) → list_any (bytes_eq l) (l ∷ xs) ≡ true
first_cons l xs = ap (λ b. b || list_any (bytes_eq l) xs) (bytes_refl l)

later : (t : TableName) (x : Edit) (es : List Edit) (b : Binding) (p : Option (Option Binding)) → says_binding t x ≡ p → (p ≡ Some (Some b)) ⊎ (list_any (bytes_eq b.location) (locations_bound es) ≡ true) → list_any (bytes_eq b.location) (locations_bound (x ∷ es)) ≡ true
later t x es b p word (inl here) = ap (λ (q : Option (List ℕ)). list_any (bytes_eq b.location) (cons_option q (locations_bound es))) (binds t x b (word ∙ here)) ∙ first_cons b.location (locations_bound es)
later t x es b p word (inr after) = any_cons b.location (bound_location x) (locations_bound es) after

by_word : (t : TableName) (x : Edit) (es : List Edit) (o : Option (Option Binding)) (b : Binding)
    → ((p : Option (Option Binding)) → last_or p (filter_map (says_binding t) es) ≡ Some (Some b) → (p ≡ Some (Some b)) ⊎ (list_any (bytes_eq b.location) (locations_bound es) ≡ true))
    → (p : Option (Option Binding)) → says_binding t x ≡ p → last_or o (cons_option p (filter_map (says_binding t) es)) ≡ Some (Some b) → (o ≡ Some (Some b)) ⊎ (list_any (bytes_eq b.location) (locations_bound (x ∷ es)) ≡ true)
by_word t x es o b rest None word last = elim (rest o last) [ inl w ↦ inl w | inr w ↦ inr (any_cons b.location (bound_location x) (locations_bound es) w) ]
by_word t x es o b rest (Some v) word last = inr (later t x es b (Some v) word (rest (Some v) last))

-- the last that is said was said before, or is said by one of the edits
last_said : (t : TableName) (es : List Edit) (o : Option (Option Binding)) (b : Binding) → last_or o (filter_map (says_binding t) es) ≡ Some (Some b) → (o ≡ Some (Some b)) ⊎ (list_any (bytes_eq b.location) (locations_bound es) ≡ true)
last_said t [] o b is = inl is
last_said t (x ∷ es) o b is = by_word t x es o b (λ p. last_said t es p b) (says_binding t x) refl is

unwrapped : (o : Option (Option Binding)) (b : Binding) → unwrap_or o None ≡ Some b → o ≡ Some (Some b)
unwrapped None b e = absurd (cc e)
unwrapped (Some v) b e = ap Some e

bound_there : (es : List Edit) (t : TableName) (b : Binding) → bound es t ≡ Some b → list_any (bytes_eq b.location) (locations_bound es) ≡ true
bound_there es t b is = elim (last_said t es None b (unwrapped (last_word (says_binding t) es) b is)) [ inl w ↦ absurd (cc w) | inr w ↦ w ]

spot_place : (n : Option ℕ) (o : Option (Binding × ℕ)) (s : Spot) → option_and_then (λ edition. option_map (spot_with edition) o) n ≡ Some s → (b : Binding × ℕ) × (o ≡ Some b) × (b.0.location ≡ s.location)
spot_place None o s e = absurd (cc e)
spot_place (Some n) None s e = absurd (cc e)
spot_place (Some n) (Some b) s e = let same : spot_with n b ≡ s = cc e in (b, refl, ap (λ (x : Spot). x.location) same)

binding_is : (o : Option Binding) (n : ℕ) (b : Binding × ℕ) → option_map (λ (x : Binding). (x, n)) o ≡ Some b → o ≡ Some b.0
binding_is None n b e = absurd (cc e)
binding_is (Some x) n b e = let same : (x, n) ≡ b = cc e in ap (λ (p : Binding × ℕ). Some p.0) same

-- the location of a table that is seen was bound
pub seen_bound : (es : List Edit) (r : List ℕ) (t : TableName) (s : Spot) → shared es r t ≡ Some s → list_any (bytes_eq s.location) (locations_bound es) ≡ true
seen_bound es r t s is =
    let place = spot_place (grant es r t.share) (binding es t) s is in
    let there : bound es t ≡ Some place.0.0 = binding_is (bound es t) (binding_edition es t) place.0 place.1 in
    ap (λ (l : List ℕ). list_any (bytes_eq l) (locations_bound es)) (sym place.2) ∙ bound_there es t place.0.0 there
