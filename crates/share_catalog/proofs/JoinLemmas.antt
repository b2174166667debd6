-- The bindings of each granted share, one share after the other, are the tables that a recipient sees.
use Rattle.std.proofs.Common.{◌≡◌, ℕ, List, [], ◌∷◌, ◌++◌, Bool, true, false, cond, ◌&&◌, T, Option, Some, None, map, option_map, option_and_then, length, refl, sym, ap, ◌∙◌, subst, Less, Equal, Greater, Ordering, arith}
use Rattle.std.specs.Option.{option_or}
use Rattle.std.specs.Ordering.{is_lt, is_eq, ordering_then, eq_by_cmp}
use Rattle.std.specs.Cmp.{tied_itself}
use Rattle.std.specs.FinMap as maps
use Rattle.std.specs.FinMap.Entries.{find, below_all, is_sorted, same_entries}
use Rattle.std.proofs.lemmas.Cmp.{nat_list_cmp_total}
use Rattle.std.proofs.lemmas.Map.Text.{is_eq-slice_cmp}
use Rattle.share_catalog.specs.declared.edit.Binding.{Binding}
use Rattle.share_catalog.specs.declared.edit.Edit.{Edit}
use Rattle.share_catalog.specs.declared.listing.Granted.{Granted}
use Rattle.share_catalog.specs.declared.table_name.TableName.{TableName}
use Rattle.share_catalog.specs.Catalogue.{tables_bound}
use Rattle.share_catalog.specs.Listed.{grant_entry}
use Rattle.share_catalog.specs.Listing.{ListsGrants}
use Rattle.share_catalog.specs.Maps.{bytes_cmp}
use Rattle.share_catalog.specs.TableNames.{parts_of, texts_cmp}
use Rattle.share_catalog.specs.Views.{Spot, behind, binding, bindings_of, grant, grants_of, joined, shared, spot_with, table_of, tables_of}
use Rattle.share_catalog.specs.ViewLaws.{TablesAreJoined}
use Rattle.share_catalog.proofs.KeyTests.{both_tie, bytes_is, name_tie}
use Rattle.share_catalog.proofs.ListingLemmas.{same_texts}
use Rattle.share_catalog.proofs.Orders.{texts_total}
use Rattle.share_catalog.proofs.SortedLemmas.{both, held, in_both, less, lt_of}
use Rattle.share_catalog.proofs.ViewLemmas.{bindings_are_shown, no_binding_at, none_in_map, none_mapped, tables_are_shown}

abbrev Rows : Type 0
Rows = List (List (List ℕ) × (Binding × ℕ))

abbrev Spots : Type 0
Spots = List (List (List ℕ) × Spot)

abbrev bindings : List Edit → List ℕ → Rows
bindings edits s = maps.entries (bindings_of edits s)

-- ---- they stand in order

rows_below : (g : Granted) (x : List (List ℕ)) (es : Rows) (ys : Spots) → ((k : List (List ℕ)) → texts_cmp x (g.share.now ∷ k) ≡ Less) → T (below_all texts_cmp x ys)
    → T (below_all texts_cmp x (map (behind g) es ++ ys))
rows_below g x [] ys lt h = h
rows_below g x (e ∷ es) ys lt h = in_both _ _ (lt_of _ (lt e.0)) (rows_below g x es ys lt h)

less_alone : (o : Ordering) → ordering_then o Equal ≡ Less → o ≡ Less
less_alone Less e = refl
less_alone Equal e = e
less_alone Greater e = e

joined_below : (edits : List Edit) (a : List ℕ) (rest : List (List ℕ)) (gs : List Granted) → T (below_all texts_cmp (a ∷ []) (map grant_entry gs)) → T (below_all texts_cmp (a ∷ rest) (joined edits gs))
joined_below edits a rest [] h = tt
joined_below edits a rest (g ∷ gs) h =
    let parts = both (is_lt (texts_cmp (a ∷ []) (g.share.now ∷ []))) (below_all texts_cmp (a ∷ []) (map grant_entry gs)) h in
    let lt : bytes_cmp a g.share.now ≡ Less = less_alone (bytes_cmp a g.share.now) (less _ parts.0) in
    rows_below g (a ∷ rest) (bindings edits g.share.now) (joined edits gs) (λ k. ap (λ o. ordering_then o (texts_cmp rest k)) lt) (joined_below edits a rest gs parts.1)

rows_above : (g : Granted) (k : List (List ℕ)) (es : Rows) (ys : Spots) → T (below_all texts_cmp k es) → T (below_all texts_cmp (g.share.now ∷ k) ys)
    → T (below_all texts_cmp (g.share.now ∷ k) (map (behind g) es ++ ys))
rows_above g k [] ys low h = h
rows_above g k (e ∷ es) ys low h =
    let parts = both (is_lt (texts_cmp k e.0)) (below_all texts_cmp k es) low in
    let lt : texts_cmp (g.share.now ∷ k) (g.share.now ∷ e.0) ≡ Less = ap (λ o. ordering_then o (texts_cmp k e.0)) (tied_itself nat_list_cmp_total g.share.now) ∙ less _ parts.0 in
    in_both _ _ (lt_of _ lt) (rows_above g k es ys parts.1 h)

rows_sorted : (g : Granted) (es : Rows) (ys : Spots) → T (is_sorted texts_cmp es) → ((k : List (List ℕ)) → T (below_all texts_cmp (g.share.now ∷ k) ys)) → T (is_sorted texts_cmp ys)
    → T (is_sorted texts_cmp (map (behind g) es ++ ys))
rows_sorted g [] ys sorted below h = h
rows_sorted g (e ∷ es) ys sorted below h =
    let parts = both (below_all texts_cmp e.0 es) (is_sorted texts_cmp es) sorted in
    in_both _ _ (rows_above g e.0 es ys parts.0 (below e.0)) (rows_sorted g es ys parts.1 below h)

joined_sorted : (edits : List Edit) (gs : List Granted) → T (is_sorted texts_cmp (map grant_entry gs)) → T (is_sorted texts_cmp (joined edits gs))
joined_sorted edits [] sorted = tt
joined_sorted edits (g ∷ gs) sorted =
    let parts = both (below_all texts_cmp (g.share.now ∷ []) (map grant_entry gs)) (is_sorted texts_cmp (map grant_entry gs)) sorted in
    rows_sorted g (bindings edits g.share.now) (joined edits gs) (maps.entries_sorted (bindings_of edits g.share.now)) (λ k. joined_below edits g.share.now k gs parts.0) (joined_sorted edits gs parts.1)

-- ---- what is found among them

found_row : {Y X : Type 0} (f : Y → X) (b c : Bool) (y : Y) (found : Option Y) (later : Option X)
    → cond (b && c) (Some (f y)) (cond b (option_or (option_map f found) later) later) ≡ cond b (option_or (option_map f (cond c (Some y) found)) later) later
found_row f true true y found later = refl
found_row f true false y found later = refl
found_row f false c y found later = refl

no_row : {X : Type 0} (b : Bool) (later : Option X) → later ≡ cond b (option_or None later) later
no_row true later = refl
no_row false later = refl

find-rows : (g : Granted) (a : List ℕ) (rest : List (List ℕ)) (es : Rows) (ys : Spots) → find texts_cmp (a ∷ rest) (map (behind g) es ++ ys)
    ≡ cond (is_eq (bytes_cmp a g.share.now)) (option_or (option_map (spot_with g.edition.now) (find texts_cmp rest es)) (find texts_cmp (a ∷ rest) ys)) (find texts_cmp (a ∷ rest) ys)
find-rows g a rest [] ys = no_row (is_eq (bytes_cmp a g.share.now)) (find texts_cmp (a ∷ rest) ys)
find-rows g a rest (e ∷ es) ys =
    ap (λ o. cond (is_eq (ordering_then (bytes_cmp a g.share.now) (texts_cmp rest e.0))) (Some (spot_with g.edition.now e.1)) o) (find-rows g a rest es ys)
    ∙ ap (λ b. cond b (Some (spot_with g.edition.now e.1)) (cond (is_eq (bytes_cmp a g.share.now)) (option_or (option_map (spot_with g.edition.now) (find texts_cmp rest es)) (find texts_cmp (a ∷ rest) ys)) (find texts_cmp (a ∷ rest) ys)))
    (both_tie (bytes_cmp a g.share.now) (texts_cmp rest e.0))
    ∙ found_row (spot_with g.edition.now) (is_eq (bytes_cmp a g.share.now)) (is_eq (texts_cmp rest e.0)) e.1 (find texts_cmp rest es) (find texts_cmp (a ∷ rest) ys)

-- what the recipient sees at a share whose grant is found, and behind it
abbrev seen : Option (Binding × ℕ) → Option ℕ → Option Spot
seen row edition = option_and_then (λ n. option_map (spot_with n) row) edition

no_seen : (o : Option ℕ) → None ≡ seen None o
no_seen None = refl
no_seen (Some n) = refl

first_row : (n : ℕ) (row : Option (Binding × ℕ)) (o : Option ℕ) → option_or (option_map (spot_with n) row) (seen row o) ≡ option_map (spot_with n) row
first_row n None o = sym (no_seen o)
first_row n (Some r) o = refl

by_share : (edits : List Edit) (a s : List ℕ) (n : ℕ) (rest : List (List ℕ)) (o : Option ℕ) (b : Bool) → is_eq (bytes_cmp a s) ≡ b
    → cond b (option_or (option_map (spot_with n) (find texts_cmp rest (bindings edits s))) (seen (find texts_cmp rest (bindings edits a)) o)) (seen (find texts_cmp rest (bindings edits a)) o)
    ≡ seen (find texts_cmp rest (bindings edits a)) (cond b (Some n) o)
by_share edits a s n rest o true e =
    let same : s ≡ a = sym (bytes_is a s (sym (is_eq-slice_cmp a s) ∙ e)) in
    ap (λ x. option_or (option_map (spot_with n) (find texts_cmp rest (bindings edits x))) (seen (find texts_cmp rest (bindings edits a)) o)) same
    ∙ first_row n (find texts_cmp rest (bindings edits a)) o
by_share edits a s n rest o false e = refl

find-joined : (edits : List Edit) (a : List ℕ) (rest : List (List ℕ)) (gs : List Granted)
    → find texts_cmp (a ∷ rest) (joined edits gs) ≡ seen (find texts_cmp rest (bindings edits a)) (find texts_cmp (a ∷ []) (map grant_entry gs))
find-joined edits a rest [] = refl
find-joined edits a rest (g ∷ gs) =
    let s = g.share.now in
    let n = g.edition.now in
    let row = find texts_cmp rest (bindings edits a) in
    let o = find texts_cmp (a ∷ []) (map grant_entry gs) in
    find-rows g a rest (bindings edits s) (joined edits gs)
    ∙ ap (λ l. cond (is_eq (bytes_cmp a s)) (option_or (option_map (spot_with n) (find texts_cmp rest (bindings edits s))) l) l) (find-joined edits a rest gs)
    ∙ by_share edits a s n rest o (is_eq (bytes_cmp a s)) refl
    ∙ ap (λ b. seen row (cond b (Some n) o)) (is_eq-slice_cmp a s ∙ sym (name_tie a s))

no_first : (g : Granted) (es : Rows) (ys : Spots) → find texts_cmp [] ys ≡ None → find texts_cmp [] (map (behind g) es ++ ys) ≡ None
no_first g [] ys h = h
no_first g (e ∷ es) ys h = no_first g es ys h

none_joined : (edits : List Edit) (gs : List Granted) → find texts_cmp [] (joined edits gs) ≡ None
none_joined edits [] = refl
none_joined edits (g ∷ gs) = no_first g (bindings edits g.share.now) (joined edits gs) (none_joined edits gs)

-- ---- both are the same

module _ (edits : List Edit) (r : List ℕ) (items : List Granted) (lists : ListsGrants edits r items) where
  no_table : (q : List (List ℕ)) → (length q ≡ 3 → ⊥) → find texts_cmp q (maps.entries (tables_of edits r)) ≡ None
  no_table q apart = none_in_map parts_of (shared edits r) q (λ t. apart) (tables_bound edits)

  -- behind a share stand a schema and a table
  no_other : (a : List ℕ) (rest : List (List ℕ)) → (length rest ≡ 2 → ⊥) → find texts_cmp (a ∷ rest) (joined edits items) ≡ None
  no_other a rest apart =
      find-joined edits a rest items ∙ ap (λ row. seen row (find texts_cmp (a ∷ []) (map grant_entry items))) (no_binding_at edits a rest apart) ∙ sym (no_seen (find texts_cmp (a ∷ []) (map grant_entry items)))

  same_at : (q : List (List ℕ)) → find texts_cmp q (joined edits items) ≡ find texts_cmp q (maps.entries (tables_of edits r))
  same_at [] = none_joined edits items ∙ sym (no_table [] (λ e. absurd (omega (arith, e))))
  same_at (a ∷ []) = no_other a [] (λ e. absurd (omega (arith, e))) ∙ sym (no_table (a ∷ []) (λ e. absurd (omega (arith, e))))
  same_at (a ∷ b ∷ []) = no_other a (b ∷ []) (λ e. absurd (omega (arith, e))) ∙ sym (no_table (a ∷ b ∷ []) (λ e. absurd (omega (arith, e))))
  same_at (a ∷ b ∷ c ∷ []) =
      find-joined edits a (b ∷ c ∷ []) items
      ∙ ap (λ row. seen row (find texts_cmp (a ∷ []) (map grant_entry items))) (sym (maps.get-entries (bindings_of edits a) (b ∷ c ∷ [])) ∙ bindings_are_shown edits a b c)
      ∙ ap (seen (binding edits (table_of a (b, c)))) (lists.exact a)
      ∙ sym (tables_are_shown edits r (table_of a (b, c))) ∙ maps.get-entries (tables_of edits r) (a ∷ b ∷ c ∷ [])
  same_at (a ∷ b ∷ c ∷ d ∷ more) =
      no_other a (b ∷ c ∷ d ∷ more) (λ e. absurd (omega (arith, e))) ∙ sym (no_table (a ∷ b ∷ c ∷ d ∷ more) (λ e. absurd (omega (arith, e))))

  all_joined : joined edits items ≡ maps.entries (tables_of edits r)
  all_joined = same_entries texts_cmp texts_total same_texts (joined edits items) (maps.entries (tables_of edits r)) (joined_sorted edits items (held _ lists.ordered)) (maps.entries_sorted (tables_of edits r)) same_at

pub tables_are_joined : TablesAreJoined
tables_are_joined edits r items lists = all_joined edits r items lists
