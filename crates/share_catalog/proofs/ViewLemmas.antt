-- The maps of a view say what the edits say, and so are what is listed.
use Rattle.std.proofs.Common.{◌≡◌, ℕ, List, [], ◌∷◌, Bool, true, false, cond, ◌&&◌, ◌||◌, Option, Some, None, map, option_map, option_and_then, length, refl, sym, ap, ◌∙◌, bytes_eq, Ordering, arith, true≢false, inl, inr, ◌⊎◌}
use Rattle.std.specs.Prelude.{filter_map}
use Rattle.std.specs.List.{cons_option, list_any}
use Rattle.std.specs.Ordering.{eq_by_cmp}
use Rattle.std.specs.FinMap as maps
use Rattle.std.specs.FinMap.Entries.{find, is_sorted, same_entries}
use Rattle.share_catalog.specs.declared.edit.Binding.{Binding}
use Rattle.share_catalog.specs.declared.edit.Edit.{Edit}
use Rattle.share_catalog.specs.declared.listing.Bound.{Bound}
use Rattle.share_catalog.specs.declared.listing.Granted.{Granted}
use Rattle.share_catalog.specs.declared.table_name.TableName.{TableName}
use Rattle.share_catalog.specs.Catalogue.{binding_edition, bound, grant_edition, granted, is_table, pairs_granted, said, same_pair, tables_bound}
use Rattle.share_catalog.specs.Listed.{bound_entry, grant_entry}
use Rattle.share_catalog.specs.Listing.{ListsBindings, ListsGrants}
use Rattle.share_catalog.specs.TableNames.{parts_of, texts_cmp}
use Rattle.share_catalog.specs.Views.{Spot, binding, bindings_of, grant, grants_of, keyed, name_in, name_key, names_bound, share_for, share_key, shared, shares_granted, spot_with, table_of, tables_of}
use Rattle.share_catalog.specs.ViewLaws.{BindingsAreListed, BindingsAreShown, GrantsAreListed, GrantsAreShown, TablesAreShown}
use Rattle.share_catalog.proofs.KeyTests.{bytes_is, bytes_sym, name_tie, pair_is, pair_tie, table_is, table_tie}
use Rattle.share_catalog.proofs.ListingLemmas.{same_texts, tie_of}
use Rattle.share_catalog.proofs.Orders.{texts_total}
use Rattle.share_catalog.proofs.Silent.{unbound, ungranted}
use Rattle.share_catalog.proofs.SortedLemmas.{held}
use Rattle.share_catalog.proofs.Words.{any_in, any_same}

-- ---- what a function gives, by keys

module _ {A V : Type 0} (key : A → List (List ℕ)) (f : A → Option V) (one : (x y : A) → eq_by_cmp texts_cmp (key x) (key y) ≡ true → f x ≡ f y) where
  abbrev is_at : A → A → Bool
  is_at x y = eq_by_cmp texts_cmp (key x) (key y)

  none_here : (b c : Bool) (o : Option V) → (b ≡ true → o ≡ None) → cond c o None ≡ cond (b || c) o None
  none_here true true o e = refl
  none_here true false o e = sym (e refl)
  none_here false c o e = refl

  some_here : (b c : Bool) (v : V) (o : Option V) → (b ≡ true → o ≡ Some v) → cond b (Some v) (cond c o None) ≡ cond (b || c) o None
  some_here true c v o e = sym (e refl)
  some_here false c v o e = refl

  found_here : (x : A) (ys : List A) → find texts_cmp (key x) (keyed key f ys) ≡ cond (list_any (is_at x) ys) (f x) None
  found_here x [] = refl
  found_here x (y ∷ ys) =
      elim (f y) as (λ o. f y ≡ o → find texts_cmp (key x) (cons_option (option_map (λ (v : V). (key y, v)) o) (keyed key f ys)) ≡ cond (list_any (is_at x) (y ∷ ys)) (f x) None) [
        | None ↦ λ e. found_here x ys ∙ none_here (is_at x y) (list_any (is_at x) ys) (f x) (λ h. one x y h ∙ e)
        | Some v ↦ λ e. ap (cond (is_at x y) (Some v)) (found_here x ys) ∙ some_here (is_at x y) (list_any (is_at x) ys) v (f x) (λ h. one x y h ∙ e)
      ] refl

  all_found : (x : A) (ys : List A) (b : Bool) → list_any (is_at x) ys ≡ b → (b ≡ false → f x ≡ None) → find texts_cmp (key x) (keyed key f ys) ≡ f x
  all_found x ys true e none = found_here x ys ∙ ap (λ b. cond b (f x) None) e
  all_found x ys false e none = found_here x ys ∙ ap (λ b. cond b (f x) None) e ∙ sym (none refl)

  -- the map has what the function gives, if the function gives nothing behind the list
  pub get-keyed : (x : A) (ys : List A) → (list_any (is_at x) ys ≡ false → f x ≡ None) → maps.get (maps.from_entries {R = texts_cmp} (keyed key f ys)) (key x) ≡ f x
  get-keyed x ys none = maps.get-from_entries texts_total (keyed key f ys) (key x) ∙ all_found x ys (list_any (is_at x) ys) refl none

-- what is found among the parts that a test leaves
any_kept : {A B : Type 0} (part : A → Option B) (p : B → Bool) (q : A → Bool) → ((x : A) → any_in p (part x) ≡ q x) → (xs : List A) → list_any p (filter_map part xs) ≡ list_any q xs
any_kept part p q same [] = refl
any_kept {A} {B} part p q same (x ∷ xs) =
    elim (part x) as (λ o. any_in p o ≡ q x → list_any p (cons_option o (filter_map part xs)) ≡ (q x || list_any q xs)) [
      | None ↦ λ e. any_kept part p q same xs ∙ ap (λ b. b || list_any q xs) e
      | Some y ↦ λ e i. e i || any_kept part p q same xs i
    ] (same x)

any_said : {X : Type 0} (p : X → Bool) (b : Bool) (x : X) → any_in p (said b x) ≡ (b && p x)
any_said p true x = refl
any_said p false x = refl

-- ---- what the maps say

none_said : (edits : List Edit) (r s : List ℕ) → granted edits r s ≡ false → grant edits r s ≡ None
none_said edits r s none = ap (λ b. said b (grant_edition edits r s)) none

none_bound : (edits : List Edit) (t : TableName) → bound edits t ≡ None → binding edits t ≡ None
none_bound edits t none = ap (option_map (λ (b : Binding). (b, binding_edition edits t))) none

same_share : (edits : List Edit) (r s x : List ℕ) → eq_by_cmp texts_cmp (share_key s) (share_key x) ≡ true → grant edits r s ≡ grant edits r x
same_share edits r s x e = ap (grant edits r) (bytes_is s x (sym (name_tie s x) ∙ e))

was_granted : (edits : List Edit) (r s : List ℕ) → list_any (λ x. eq_by_cmp texts_cmp (share_key s) (share_key x)) (shares_granted edits r) ≡ list_any (same_pair (r, s)) (pairs_granted edits)
was_granted edits r s =
    any_kept (share_for r) (λ x. eq_by_cmp texts_cmp (share_key s) (share_key x)) (same_pair (r, s))
    (λ p. any_said (λ x. eq_by_cmp texts_cmp (share_key s) (share_key x)) (bytes_eq p.0 r) p.1 ∙ (λ i. bytes_sym p.0 r i && name_tie s p.1 i))
    (pairs_granted edits)

pub grants_are_shown : GrantsAreShown
grants_are_shown edits r s =
    get-keyed share_key (grant edits r) (same_share edits r) s (shares_granted edits r) (λ none. none_said edits r s (ungranted r s edits (sym (was_granted edits r s) ∙ none)))

same_name : (edits : List Edit) (s : List ℕ) (n m : List ℕ × List ℕ) → eq_by_cmp texts_cmp (name_key n) (name_key m) ≡ true → binding edits (table_of s n) ≡ binding edits (table_of s m)
same_name edits s n m e =
    let parts = pair_is n.0 n.1 m.0 m.1 (sym (pair_tie n.0 n.1 m.0 m.1) ∙ e) in
    λ i. binding edits (record { share = s; schema = parts.0 i; table = parts.1 i })

was_bound : (edits : List Edit) (s : List ℕ) (n : List ℕ × List ℕ)
    → list_any (λ m. eq_by_cmp texts_cmp (name_key n) (name_key m)) (names_bound edits s) ≡ list_any (is_table (table_of s n)) (tables_bound edits)
was_bound edits s n =
    any_kept (name_in s) (λ m. eq_by_cmp texts_cmp (name_key n) (name_key m)) (is_table (table_of s n))
    (λ t. any_said (λ m. eq_by_cmp texts_cmp (name_key n) (name_key m)) (bytes_eq t.share s) (t.schema, t.table) ∙ (λ i. bytes_sym t.share s i && pair_tie n.0 n.1 t.schema t.table i))
    (tables_bound edits)

pub bindings_are_shown : BindingsAreShown
bindings_are_shown edits s schema table =
    let n : List ℕ × List ℕ = (schema, table) in
    get-keyed name_key (λ m. binding edits (table_of s m)) (same_name edits s) n (names_bound edits s)
    (λ none. none_bound edits (table_of s n) (unbound (table_of s n) edits (sym (was_bound edits s n) ∙ none)))

same_table : (edits : List Edit) (r : List ℕ) (t u : TableName) → eq_by_cmp texts_cmp (parts_of t) (parts_of u) ≡ true → shared edits r t ≡ shared edits r u
same_table edits r t u e = ap (shared edits r) (table_is t u (sym (table_tie t u) ∙ e))

none_shared : (edits : List Edit) (r : List ℕ) (t : TableName) (o : Option ℕ) → binding edits t ≡ None → option_and_then (λ edition. option_map (spot_with edition) (binding edits t)) o ≡ None
none_shared edits r t None none = refl
none_shared edits r t (Some n) none = ap (option_map (spot_with n)) none

pub tables_are_shown : TablesAreShown
tables_are_shown edits r t =
    get-keyed parts_of (shared edits r) (same_table edits r) t (tables_bound edits)
    (λ none. none_shared edits r t (grant edits r t.share) (none_bound edits t (unbound t edits (any_same (is_table t) (λ u. eq_by_cmp texts_cmp (parts_of t) (parts_of u)) (λ u. sym (table_tie t u)) (tables_bound edits) ∙ none))))

-- ---- keys of another length

other_length : (q k : List (List ℕ)) (b : Bool) → eq_by_cmp texts_cmp q k ≡ b → (length q ≡ length k → ⊥) → b ≡ false
other_length q k false e apart = refl
other_length q k true e apart = absurd (apart (ap length (same_texts q k (tie_of (texts_cmp q k) e))))

pub none_mapped : {X V : Type 0} (entry : X → List (List ℕ) × V) (q : List (List ℕ)) → ((x : X) → length q ≡ length (entry x).0 → ⊥) → (xs : List X) → find texts_cmp q (map entry xs) ≡ None
none_mapped entry q apart [] = refl
none_mapped entry q apart (x ∷ xs) =
    ap (λ b. cond b (Some (entry x).1) (find texts_cmp q (map entry xs))) (other_length q (entry x).0 _ refl (apart x)) ∙ none_mapped entry q apart xs

none_keyed : {A V : Type 0} (key : A → List (List ℕ)) (f : A → Option V) (q : List (List ℕ)) → ((x : A) → length q ≡ length (key x) → ⊥) → (xs : List A) → find texts_cmp q (keyed key f xs) ≡ None
none_keyed key f q apart [] = refl
none_keyed {A} {V} key f q apart (x ∷ xs) =
    elim (f x) as (λ o. find texts_cmp q (cons_option (option_map (λ (v : V). (key x, v)) o) (keyed key f xs)) ≡ None) [
      | None ↦ none_keyed key f q apart xs
      | Some v ↦ ap (λ b. cond b (Some v) (find texts_cmp q (keyed key f xs))) (other_length q (key x) _ refl (apart x)) ∙ none_keyed key f q apart xs
    ]

-- a key of another length isn't in the map
pub none_in_map : {A V : Type 0} (key : A → List (List ℕ)) (f : A → Option V) (q : List (List ℕ)) → ((x : A) → length q ≡ length (key x) → ⊥) → (xs : List A)
    → find texts_cmp q (maps.entries (maps.from_entries {R = texts_cmp} (keyed key f xs))) ≡ None
none_in_map key f q apart xs = sym (maps.get-entries (maps.from_entries {R = texts_cmp} (keyed key f xs)) q) ∙ maps.get-from_entries texts_total (keyed key f xs) q ∙ none_keyed key f q apart xs

-- ---- what is listed

grant_at : (edits : List Edit) (r : List ℕ) (items : List Granted) → ListsGrants edits r items → (q : List (List ℕ)) → find texts_cmp q (map grant_entry items) ≡ find texts_cmp q (maps.entries (grants_of edits r))
grant_at edits r items lists [] =
    none_mapped grant_entry [] (λ g e. absurd (omega (arith, e))) items ∙ sym (none_in_map share_key (grant edits r) [] (λ s e. absurd (omega (arith, e))) (shares_granted edits r))
grant_at edits r items lists (s ∷ []) = lists.exact s ∙ sym (grants_are_shown edits r s) ∙ maps.get-entries (grants_of edits r) (s ∷ [])
grant_at edits r items lists (s ∷ a ∷ more) =
    none_mapped grant_entry (s ∷ a ∷ more) (λ g e. absurd (omega (arith, e))) items
    ∙ sym (none_in_map share_key (grant edits r) (s ∷ a ∷ more) (λ x e. absurd (omega (arith, e))) (shares_granted edits r))

pub grants_are_listed : GrantsAreListed
grants_are_listed edits r items lists =
    same_entries texts_cmp texts_total same_texts (map grant_entry items) (maps.entries (grants_of edits r)) (held _ lists.ordered) (maps.entries_sorted (grants_of edits r)) (grant_at edits r items lists)

-- a key that isn't a schema with a table isn't in the map of bindings
pub no_binding_at : (edits : List Edit) (s : List ℕ) (q : List (List ℕ)) → (length q ≡ 2 → ⊥) → find texts_cmp q (maps.entries (bindings_of edits s)) ≡ None
no_binding_at edits s q apart = none_in_map name_key (λ m. binding edits (table_of s m)) q (λ n. apart) (names_bound edits s)

no_bound_at : (items : List Bound) (q : List (List ℕ)) → (length q ≡ 2 → ⊥) → find texts_cmp q (map bound_entry items) ≡ None
no_bound_at items q apart = none_mapped bound_entry q (λ b. apart) items

binding_at : (edits : List Edit) (s : List ℕ) (items : List Bound) → ListsBindings edits s items → (q : List (List ℕ))
    → find texts_cmp q (map bound_entry items) ≡ find texts_cmp q (maps.entries (bindings_of edits s))
binding_at edits s items lists [] = no_bound_at items [] (λ e. absurd (omega (arith, e))) ∙ sym (no_binding_at edits s [] (λ e. absurd (omega (arith, e))))
binding_at edits s items lists (a ∷ []) = no_bound_at items (a ∷ []) (λ e. absurd (omega (arith, e))) ∙ sym (no_binding_at edits s (a ∷ []) (λ e. absurd (omega (arith, e))))
binding_at edits s items lists (a ∷ b ∷ []) = lists.exact a b ∙ sym (bindings_are_shown edits s a b) ∙ maps.get-entries (bindings_of edits s) (a ∷ b ∷ [])
binding_at edits s items lists (a ∷ b ∷ c ∷ more) =
    no_bound_at items (a ∷ b ∷ c ∷ more) (λ e. absurd (omega (arith, e))) ∙ sym (no_binding_at edits s (a ∷ b ∷ c ∷ more) (λ e. absurd (omega (arith, e))))

pub bindings_are_listed : BindingsAreListed
bindings_are_listed edits s items lists =
    same_entries texts_cmp texts_total same_texts (map bound_entry items) (maps.entries (bindings_of edits s)) (held _ lists.ordered) (maps.entries_sorted (bindings_of edits s)) (binding_at edits s items lists)
