-- Of what no edit made, the edits say nothing more than that it isn't there.
use Rattle.std.proofs.Common.{◌≡◌, ℕ, List, [], ◌∷◌, Bool, true, false, cond, ◌||◌, Option, Some, None, inl, inr, refl, sym, ap, ◌∙◌, bytes_eq}
use Rattle.std.specs.Prelude.{◌⊎◌, filter_map, unwrap_or}
use Rattle.std.specs.List.{cons_option, last_or, list_any}
use Rattle.share_catalog.specs.declared.table_name.TableName.{TableName}
use Rattle.share_catalog.specs.declared.edit.Binding.{Binding}
use Rattle.share_catalog.specs.declared.edit.Edit.{Edit}
use Rattle.share_catalog.specs.declared.edit.Edit.TheVariants as edit
use Rattle.share_catalog.specs.Catalogue.{bound, granted, has_recipient, is_table, pairs_granted, recipients_made, said, same_pair, says_binding, says_grant, says_recipient, tables_bound}
use Rattle.share_catalog.proofs.KeyTests.{bytes_sym, neither, pair_sym, table_sym}

-- a word that says no more than the default
abbrev pub IsDull : {X : Type 0} → X → Option X → Type 0
IsDull d w = (w ≡ None) ⊎ (w ≡ Some d)

dull_step : {X : Type 0} (d : X) (w o : Option X) (ws : List X) → IsDull d w → unwrap_or o d ≡ d → ((p : Option X) → unwrap_or p d ≡ d → unwrap_or (last_or p ws) d ≡ d)
    → unwrap_or (last_or o (cons_option w ws)) d ≡ d
dull_step d None o ws dull before ih = ih o before
dull_step d (Some x) o ws (inl e) before ih = absurd cc
dull_step d (Some x) o ws (inr e) before ih = ih (Some x) cc

pub said_dull : {X : Type 0} (b : Bool) (d : X) → IsDull d (said b d)
said_dull true d = inr refl
said_dull false d = inl refl

-- an edit that doesn't bind the table
no_binding : (t : TableName) (e : Edit) (es : List Edit) → list_any (is_table t) (tables_bound (e ∷ es)) ≡ false → IsDull None (says_binding t e) × (list_any (is_table t) (tables_bound es) ≡ false)
no_binding t (edit.NewShare n) es h = (said_dull _ None, h)
no_binding t (edit.DropShare n) es h = (said_dull _ None, h)
no_binding t (edit.Bind u b) es h =
    let parts = neither (is_table t u) (list_any (is_table t) (tables_bound es)) h in
    (inl (ap (λ c. said c (Some b)) (table_sym u t ∙ parts.0)), parts.1)
no_binding t (edit.Unbind u) es h = (said_dull _ None, h)
no_binding t (edit.NewRecipient n c) es h = (inl refl, h)
no_binding t (edit.Rotate n c) es h = (inl refl, h)
no_binding t (edit.DropRecipient n) es h = (inl refl, h)
no_binding t (edit.Grant r s) es h = (inl refl, h)
no_binding t (edit.Revoke r s) es h = (inl refl, h)

bindings_silent : (t : TableName) (es : List Edit) (o : Option (Option Binding)) → unwrap_or o None ≡ None → list_any (is_table t) (tables_bound es) ≡ false → unwrap_or (last_or o (filter_map (says_binding t) es)) None ≡ None
bindings_silent t [] o before none = before
bindings_silent t (e ∷ es) o before none =
    let parts = no_binding t e es none in
    dull_step None (says_binding t e) o (filter_map (says_binding t) es) parts.0 before (λ p h. bindings_silent t es p h parts.1)

-- a table that no edit binds isn't bound
pub unbound : (t : TableName) (edits : List Edit) → list_any (is_table t) (tables_bound edits) ≡ false → bound edits t ≡ None
unbound t edits none = bindings_silent t edits None refl none

-- an edit that doesn't grant the pair
no_grant : (r s : List ℕ) (e : Edit) (es : List Edit) → list_any (same_pair (r, s)) (pairs_granted (e ∷ es)) ≡ false → IsDull false (says_grant r s e) × (list_any (same_pair (r, s)) (pairs_granted es) ≡ false)
no_grant r s (edit.NewShare n) es h = (said_dull _ false, h)
no_grant r s (edit.DropShare n) es h = (said_dull _ false, h)
no_grant r s (edit.Bind u b) es h = (inl refl, h)
no_grant r s (edit.Unbind u) es h = (inl refl, h)
no_grant r s (edit.NewRecipient n c) es h = (said_dull _ false, h)
no_grant r s (edit.Rotate n c) es h = (inl refl, h)
no_grant r s (edit.DropRecipient n) es h = (said_dull _ false, h)
no_grant r s (edit.Grant a b) es h =
    let parts = neither (same_pair (r, s) (a, b)) (list_any (same_pair (r, s)) (pairs_granted es)) h in
    (inl (ap (λ c. said c true) (pair_sym a b r s ∙ parts.0)), parts.1)
no_grant r s (edit.Revoke a b) es h = (said_dull _ false, h)

grants_silent : (r s : List ℕ) (es : List Edit) (o : Option Bool) → unwrap_or o false ≡ false → list_any (same_pair (r, s)) (pairs_granted es) ≡ false
    → unwrap_or (last_or o (filter_map (says_grant r s) es)) false ≡ false
grants_silent r s [] o before none = before
grants_silent r s (e ∷ es) o before none =
    let parts = no_grant r s e es none in
    dull_step false (says_grant r s e) o (filter_map (says_grant r s) es) parts.0 before (λ p h. grants_silent r s es p h parts.1)

-- a pair that no edit grants isn't granted
pub ungranted : (r s : List ℕ) (edits : List Edit) → list_any (same_pair (r, s)) (pairs_granted edits) ≡ false → granted edits r s ≡ false
ungranted r s edits none = grants_silent r s edits None refl none

-- an edit that doesn't make the recipient
no_recipient : (m : List ℕ) (e : Edit) (es : List Edit) → list_any (bytes_eq m) (recipients_made (e ∷ es)) ≡ false → IsDull false (says_recipient m e) × (list_any (bytes_eq m) (recipients_made es) ≡ false)
no_recipient m (edit.NewShare n) es h = (inl refl, h)
no_recipient m (edit.DropShare n) es h = (inl refl, h)
no_recipient m (edit.Bind t b) es h = (inl refl, h)
no_recipient m (edit.Unbind t) es h = (inl refl, h)
no_recipient m (edit.NewRecipient n c) es h =
    let parts = neither (bytes_eq m n) (list_any (bytes_eq m) (recipients_made es)) h in
    (inl (ap (λ b. said b true) (bytes_sym n m ∙ parts.0)), parts.1)
no_recipient m (edit.Rotate n c) es h = (inl refl, h)
no_recipient m (edit.DropRecipient n) es h = (said_dull _ false, h)
no_recipient m (edit.Grant r s) es h = (inl refl, h)
no_recipient m (edit.Revoke r s) es h = (inl refl, h)

recipients_silent : (m : List ℕ) (es : List Edit) (o : Option Bool) → unwrap_or o false ≡ false → list_any (bytes_eq m) (recipients_made es) ≡ false
    → unwrap_or (last_or o (filter_map (says_recipient m) es)) false ≡ false
recipients_silent m [] o before none = before
recipients_silent m (e ∷ es) o before none =
    let parts = no_recipient m e es none in
    dull_step false (says_recipient m e) o (filter_map (says_recipient m) es) parts.0 before (λ p h. recipients_silent m es p h parts.1)

-- a recipient that no edit makes isn't there
pub unmade : (m : List ℕ) (edits : List Edit) → list_any (bytes_eq m) (recipients_made edits) ≡ false → has_recipient edits m ≡ false
unmade m edits none = recipients_silent m edits None refl none
