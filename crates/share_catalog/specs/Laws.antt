-- Laws of the catalogue of a list of edits.
use Rattle.std.specs.Prelude.{◌≡◌, ℕ, ◌+◌, ◌≤◌, List, [], ◌∷◌, ◌++◌, Bool, true, false, None, bytes_eq}
use Rattle.std.specs.List.{list_any}
use Rattle.share_catalog.specs.declared.credential.Credential.{Credential}
use Rattle.share_catalog.specs.declared.table_name.TableName.{TableName}
use Rattle.share_catalog.specs.declared.edit.Binding.{Binding}
use Rattle.share_catalog.specs.declared.edit.Edit.{Edit}
use Rattle.share_catalog.specs.declared.edit.Edit.TheVariants as edit
use Rattle.share_catalog.specs.Catalogue.{binding_edition, bound, credential, grant_edition, granted, is_table, limit_passed, locations_bound, pairs_granted, recipients_made, same_pair, shares_made, tables_bound}

-- one edit more
abbrev pub with : List Edit → Edit → List Edit
with edits e = edits ++ e ∷ []

-- a share that was dropped and made again has no bindings and no grants
abbrev pub ComesBackEmpty : Type 0
ComesBackEmpty = (edits : List Edit) (t : TableName) (r : List ℕ)
    → (bound (with (with edits (edit.DropShare t.share)) (edit.NewShare t.share)) t ≡ None)
    × (granted (with (with edits (edit.DropShare t.share)) (edit.NewShare t.share)) r t.share ≡ false)

-- a grant that was taken back and given again has the next edition
abbrev pub GrantsAgain : Type 0
GrantsAgain = (edits : List Edit) (r s : List ℕ)
    → (granted (with (with edits (edit.Revoke r s)) (edit.Grant r s)) r s ≡ true)
    × (grant_edition (with (with edits (edit.Revoke r s)) (edit.Grant r s)) r s ≡ grant_edition edits r s + 1)

-- no edition falls
abbrev pub EditionsRise : Type 0
EditionsRise = (edits : List Edit) (e : Edit) (r s : List ℕ) (t : TableName)
    → (grant_edition edits r s ≤ grant_edition (with edits e) r s) × (binding_edition edits t ≤ binding_edition (with edits e) t)

abbrev pub names_recipient : List ℕ → Edit → Bool
names_recipient r (edit.NewRecipient n c) = bytes_eq n r
names_recipient r (edit.Rotate n c) = bytes_eq n r
names_recipient r (edit.DropRecipient n) = bytes_eq n r
names_recipient r (edit.Grant a s) = bytes_eq a r
names_recipient r (edit.Revoke a s) = bytes_eq a r
names_recipient r _ = false

abbrev pub names_share : List ℕ → Edit → Bool
names_share s (edit.NewShare n) = bytes_eq n s
names_share s (edit.DropShare n) = bytes_eq n s
names_share s (edit.Bind t b) = bytes_eq t.share s
names_share s (edit.Unbind t) = bytes_eq t.share s
names_share s (edit.Grant a n) = bytes_eq n s
names_share s (edit.Revoke a n) = bytes_eq n s
names_share s _ = false

-- an edit that doesn't name the recipient leaves its credential, and what it is granted of a share that the edit doesn't name
abbrev pub LeavesOthers : Type 0
LeavesOthers = (edits : List Edit) (e : Edit) (r : List ℕ) → names_recipient r e ≡ false
    → (credential (with edits e) r ≡ credential edits r)
    × ((s : List ℕ) → names_share s e ≡ false → (granted (with edits e) r s ≡ granted edits r s) × (grant_edition (with edits e) r s ≡ grant_edition edits r s))

-- an edit that doesn't name the share leaves its bindings
abbrev pub LeavesShares : Type 0
LeavesShares = (edits : List Edit) (e : Edit) (t : TableName) → names_share t.share e ≡ false
    → (bound (with edits e) t ≡ bound edits t) × (binding_edition (with edits e) t ≡ binding_edition edits t)

-- what was counted before meets no limit
abbrev pub CountedIsNeverFull : Type 0
CountedIsNeverFull = (edits : List Edit) (n r s : List ℕ) (t : TableName) (b : Binding) (c : Credential)
    → (list_any (bytes_eq n) (shares_made edits) ≡ true → limit_passed edits (edit.NewShare n) ≡ None)
    × (list_any (bytes_eq n) (recipients_made edits) ≡ true → limit_passed edits (edit.NewRecipient n c) ≡ None)
    × (list_any (is_table t) (tables_bound edits) ≡ true → list_any (bytes_eq b.location) (locations_bound edits) ≡ true → limit_passed edits (edit.Bind t b) ≡ None)
    × (list_any (same_pair (r, s)) (pairs_granted edits) ≡ true → limit_passed edits (edit.Grant r s) ≡ None)
