-- Which views are the same, and which edits leave one.
use Rattle.std.proofs.Common.{◌≡◌, ℕ, List, [], ◌∷◌, Bool, true, false, ◌&&◌, Option, Some, None, option_map, option_and_then, length, inl, inr, refl, sym, ap, ◌∙◌, bytes_eq, arith}
use Rattle.std.specs.Prelude.{unwrap_or}
use Rattle.std.specs.FinMap as maps
use Rattle.share_catalog.specs.declared.edit.Edit.{Edit}
use Rattle.share_catalog.specs.declared.edit.Edit.TheVariants as edit
use Rattle.share_catalog.specs.declared.table_name.TableName.{TableName}
use Rattle.share_catalog.specs.Catalogue.{grant_edition, granted, last_word, said, says_grant, tables_bound}
use Rattle.share_catalog.specs.Laws.{names_recipient, names_share, with}
use Rattle.share_catalog.specs.TableNames.{parts_of}
use Rattle.share_catalog.specs.ViewLaws.{EditsLeaveViews, ViewsAreShown}
use Rattle.share_catalog.specs.Views.{binding, grant, grants_of, share_key, shared, shares_granted, spot_with, table_of, tables_of}
use Rattle.share_catalog.proofs.LawProofs.{leaves_others, leaves_shares}
use Rattle.share_catalog.proofs.ListingLemmas.{same_texts}
use Rattle.share_catalog.proofs.Orders.{texts_total}
use Rattle.share_catalog.proofs.Silent.{IsDull, said_dull}
use Rattle.share_catalog.proofs.ViewLemmas.{grants_are_shown, none_in_map, tables_are_shown}
use Rattle.share_catalog.proofs.Words.{last_word-more, latest}

-- ---- what is shown is all

no_share : (edits : List Edit) (r : List ℕ) (q : List (List ℕ)) → (length q ≡ 1 → ⊥) → maps.get (grants_of edits r) q ≡ None
no_share edits r q apart = maps.get-entries (grants_of edits r) q ∙ none_in_map share_key (grant edits r) q (λ s. apart) (shares_granted edits r)

no_table : (edits : List Edit) (r : List ℕ) (q : List (List ℕ)) → (length q ≡ 3 → ⊥) → maps.get (tables_of edits r) q ≡ None
no_table edits r q apart = maps.get-entries (tables_of edits r) q ∙ none_in_map parts_of (shared edits r) q (λ t. apart) (tables_bound edits)

module _ (edits others : List Edit) (r : List ℕ) where
  no_shares : (q : List (List ℕ)) → (length q ≡ 1 → ⊥) → maps.get (grants_of edits r) q ≡ maps.get (grants_of others r) q
  no_shares q apart = no_share edits r q apart ∙ sym (no_share others r q apart)

  same_share : ((s : List ℕ) → grant edits r s ≡ grant others r s) → (q : List (List ℕ)) → maps.get (grants_of edits r) q ≡ maps.get (grants_of others r) q
  same_share same [] = no_shares [] (λ e. absurd (omega (arith, e)))
  same_share same (s ∷ []) = grants_are_shown edits r s ∙ same s ∙ sym (grants_are_shown others r s)
  same_share same (s ∷ a ∷ more) = no_shares (s ∷ a ∷ more) (λ e. absurd (omega (arith, e)))

  no_tables : (q : List (List ℕ)) → (length q ≡ 3 → ⊥) → maps.get (tables_of edits r) q ≡ maps.get (tables_of others r) q
  no_tables q apart = no_table edits r q apart ∙ sym (no_table others r q apart)

  same_table : ((t : TableName) → shared edits r t ≡ shared others r t) → (q : List (List ℕ)) → maps.get (tables_of edits r) q ≡ maps.get (tables_of others r) q
  same_table same [] = no_tables [] (λ e. absurd (omega (arith, e)))
  same_table same (a ∷ []) = no_tables (a ∷ []) (λ e. absurd (omega (arith, e)))
  same_table same (a ∷ b ∷ []) = no_tables (a ∷ b ∷ []) (λ e. absurd (omega (arith, e)))
  same_table same (a ∷ b ∷ c ∷ []) = tables_are_shown edits r (table_of a (b, c)) ∙ same (table_of a (b, c)) ∙ sym (tables_are_shown others r (table_of a (b, c)))
  same_table same (a ∷ b ∷ c ∷ d ∷ more) = no_tables (a ∷ b ∷ c ∷ d ∷ more) (λ e. absurd (omega (arith, e)))

  same_grants : ((s : List ℕ) → grant edits r s ≡ grant others r s) → grants_of edits r ≡ grants_of others r
  same_grants same = maps.same_map texts_total same_texts (grants_of edits r) (grants_of others r) (same_share same)

  same_tables : ((t : TableName) → shared edits r t ≡ shared others r t) → tables_of edits r ≡ tables_of others r
  same_tables same = maps.same_map texts_total same_texts (tables_of edits r) (tables_of others r) (same_table same)

pub views_are_shown : ViewsAreShown
views_are_shown edits others r credentials grants tables =
    let same = same_grants edits others r grants in
    let seen = same_tables edits others r tables in
    λ i. option_map (λ c. record { recipient = r; credential = c; grants = same i; tables = seen i }) (credentials i)

-- ---- which edits leave a view

-- an edit that doesn't name the recipient grants it nothing
dull_grant : (r s : List ℕ) (e : Edit) → names_recipient r e ≡ false → IsDull false (says_grant r s e)
dull_grant r s (edit.NewShare n) h = said_dull _ false
dull_grant r s (edit.DropShare n) h = said_dull _ false
dull_grant r s (edit.Bind t b) h = inl refl
dull_grant r s (edit.Unbind t) h = inl refl
dull_grant r s (edit.NewRecipient n c) h = said_dull _ false
dull_grant r s (edit.Rotate n c) h = inl refl
dull_grant r s (edit.DropRecipient n) h = said_dull _ false
dull_grant r s (edit.Grant a n) h = inl (ap (λ b. said (b && bytes_eq n s) true) h)
dull_grant r s (edit.Revoke a n) h = said_dull _ false

dull_word : (w o : Option Bool) → IsDull false w → unwrap_or o false ≡ false → unwrap_or (latest w o) false ≡ false
dull_word None o dull before = before
dull_word (Some x) o (inl e) before = absurd cc
dull_word (Some x) o (inr e) before = cc

module _ (edits : List Edit) (e : Edit) (r : List ℕ) (h : names_recipient r e ≡ false) (others : (s : List ℕ) → names_share s e ≡ true → granted edits r s ≡ false) where
  ungranted_after : (s : List ℕ) → granted edits r s ≡ false → granted (with edits e) r s ≡ false
  ungranted_after s none =
      ap (λ w. unwrap_or w false) (last_word-more (says_grant r s) edits e) ∙ dull_word (says_grant r s e) (last_word (says_grant r s) edits) (dull_grant r s e h) none

  grant_after : (s : List ℕ) (b : Bool) → names_share s e ≡ b → grant (with edits e) r s ≡ grant edits r s
  grant_after s true named =
      ap (λ b. said b (grant_edition (with edits e) r s)) (ungranted_after s (others s named)) ∙ sym (ap (λ b. said b (grant_edition edits r s)) (others s named))
  grant_after s false named =
      let same = (leaves_others edits e r h).1 s named in
      λ i. said (same.0 i) (same.1 i)

  none_after : (t : TableName) → names_share t.share e ≡ true → grant edits r t.share ≡ None
  none_after t named = ap (λ b. said b (grant_edition edits r t.share)) (others t.share named)

  binding_after : (t : TableName) → names_share t.share e ≡ false → binding (with edits e) t ≡ binding edits t
  binding_after t named =
      let same = leaves_shares edits e t named in
      λ i. option_map (λ b. (b, same.1 i)) (same.0 i)

  shared_after : (t : TableName) (b : Bool) → names_share t.share e ≡ b → shared (with edits e) r t ≡ shared edits r t
  shared_after t true named =
      ap (option_and_then (λ edition. option_map (spot_with edition) (binding (with edits e) t))) (grant_after t.share true named ∙ none_after t named)
      ∙ sym (ap (option_and_then (λ edition. option_map (spot_with edition) (binding edits t))) (none_after t named))
  shared_after t false named =
      let grants = grant_after t.share false named in
      let bindings = binding_after t named in
      λ i. option_and_then (λ edition. option_map (spot_with edition) (bindings i)) (grants i)

pub edits_leave_views : EditsLeaveViews
edits_leave_views edits e r h others =
    views_are_shown (with edits e) edits r (leaves_others edits e r h).0 (λ s. grant_after edits e r h others s (names_share s e) refl) (λ t. shared_after edits e r h others t (names_share t.share e) refl)
