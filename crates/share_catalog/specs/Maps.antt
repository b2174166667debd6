-- What the code holds after a list of edits: lists of entries in the order of their keys. Each keeps
-- what was ever made, and whether it still holds is told by how often its share and its recipient were
-- made: so dropping one of them ends all that stands on it in one step.
use Rattle.std.specs.Prelude.{ℕ, ◌+◌, ◌<◌, ◌^◌, ◌==◌, ◌≡◌, List, [], ◌∷◌, ◌++◌, Bool, true, false, ◌&&◌, not, Option, Some, None, is_some, is_none, if◌then◌else◌, length, nat_le, bytes_eq}
use Rattle.std.specs.List.{list_any}
use Rattle.std.specs.Option.{option_or}
use Rattle.std.specs.FinMap.Entries.{find, put, is_sorted}
use Rattle.std.specs.Ordering.{nat_cmp}
use Rattle.std.specs.Cmp.Lexicographic.{slice_cmp}
use Rattle.std.specs.declared.cmp.Ordering.{Ordering}
use Rattle.share_catalog.specs.declared.credential.Credential.{Credential}
use Rattle.share_catalog.specs.declared.table_name.TableName.{TableName}
use Rattle.share_catalog.specs.declared.edit.Binding.{Binding}
use Rattle.share_catalog.specs.declared.edit.Edit.{Edit}
use Rattle.share_catalog.specs.declared.edit.Edit.TheVariants as edit
use Rattle.share_catalog.specs.declared.edit.EditRefusal.{EditRefusal}
use Rattle.share_catalog.specs.declared.state.ShareState.{ShareState}
use Rattle.share_catalog.specs.declared.state.RecipientState.{RecipientState}
use Rattle.share_catalog.specs.declared.state.TableState.{TableState}
use Rattle.share_catalog.specs.declared.state.GrantState.{GrantState}
use Rattle.share_catalog.specs.Catalogue.{first_refusal}
use Rattle.share_catalog.specs.Entries.{texts}
use Rattle.share_catalog.specs.Sorted.{take_out}
use Rattle.share_catalog.specs.TableNames.{parts_of, texts_cmp}

abbrev pub bytes_cmp : List ℕ → List ℕ → Ordering
bytes_cmp = slice_cmp nat_cmp

pub record Maps : Type 0 where
  pub shares : List (List ℕ × ShareState)
  pub recipients : List (List ℕ × RecipientState)
  pub tables : List (List (List ℕ) × TableState)
  pub grants : List (List (List ℕ) × GrantState)
  pub holders : List (List ℕ × List ℕ)
  pub locations : List (List ℕ)

pub record AreSorted (m : Maps) : Type 0 where
  pub shares : is_sorted bytes_cmp m.shares ≡ true
  pub recipients : is_sorted bytes_cmp m.recipients ≡ true
  pub tables : is_sorted texts_cmp m.tables ≡ true
  pub grants : is_sorted texts_cmp m.grants ≡ true
  pub holders : is_sorted bytes_cmp m.holders ≡ true

abbrev pub share_stands : Option ShareState → Bool
share_stands None = false
share_stands (Some s) = s.stands

abbrev pub share_times : Option ShareState → ℕ
share_times None = 0
share_times (Some s) = s.made

abbrev pub recipient_stands : Option RecipientState → Bool
recipient_stands None = false
recipient_stands (Some r) = r.stands

abbrev pub recipient_times : Option RecipientState → ℕ
recipient_times None = 0
recipient_times (Some r) = r.made

abbrev pub recipient_credential : Option RecipientState → Option Credential
recipient_credential None = None
recipient_credential (Some r) = Some r.credential

abbrev pub table_binding : Option TableState → Option Binding
table_binding None = None
table_binding (Some t) = t.binding

abbrev pub table_made : Option TableState → ℕ
table_made None = 0
table_made (Some t) = t.share_made

abbrev pub table_edition : Option TableState → ℕ
table_edition None = 0
table_edition (Some t) = t.edition

abbrev pub is_granted : Option GrantState → Bool
is_granted None = false
is_granted (Some g) = g.granted

abbrev pub grant_recipient_made : Option GrantState → ℕ
grant_recipient_made None = 0
grant_recipient_made (Some g) = g.recipient_made

abbrev pub grant_share_made : Option GrantState → ℕ
grant_share_made None = 0
grant_share_made (Some g) = g.share_made

abbrev pub grant_times : Option GrantState → ℕ
grant_times None = 0
grant_times (Some g) = g.edition

abbrev pub share_in : Maps → List ℕ → Option ShareState
share_in m s = find bytes_cmp s m.shares

abbrev pub recipient_in : Maps → List ℕ → Option RecipientState
recipient_in m r = find bytes_cmp r m.recipients

abbrev pub table_in : Maps → TableName → Option TableState
table_in m t = find texts_cmp (parts_of t) m.tables

abbrev pub grant_in : Maps → List ℕ → List ℕ → Option GrantState
grant_in m r s = find texts_cmp (texts r s) m.grants

abbrev pub holder_in : Maps → List ℕ → Option (List ℕ)
holder_in m digest = find bytes_cmp digest m.holders

-- it is there, and was made so many times
abbrev pub since : Bool → ℕ → ℕ → Bool
since stands made then_made = stands && (made == then_made)

-- the share is as it was when the table was bound
abbrev pub binding_holds : Option ShareState → Option TableState → Bool
binding_holds s t = since (share_stands s) (share_times s) (table_made t)

abbrev pub bound_by : Option ShareState → Option TableState → Option Binding
bound_by s t = if binding_holds s t then table_binding t else None

abbrev pub bound_in : Maps → TableName → Option Binding
bound_in m t = bound_by (share_in m t.share) (table_in m t)

-- both are as they were when the pair was granted
abbrev pub granted_by : Option RecipientState → Option ShareState → Option GrantState → Bool
granted_by r s g = is_granted g
    && (since (recipient_stands r) (recipient_times r) (grant_recipient_made g) && since (share_stands s) (share_times s) (grant_share_made g))

abbrev pub granted_in : Maps → List ℕ → List ℕ → Bool
granted_in m r s = granted_by (recipient_in m r) (share_in m s) (grant_in m r s)

abbrev pub is_other : List ℕ → Option (List ℕ) → Bool
is_other r None = false
is_other r (Some n) = not (bytes_eq n r)

abbrev pub full_at : ℕ → Bool → ℕ → Option ℕ
full_at limit known count = if not known && nat_le limit count then Some limit else None

abbrev pub location_limit : Maps → List ℕ → Option ℕ
location_limit m l = full_at 32 (list_any (λ x. bytes_eq x l) m.locations) (length m.locations)

abbrev pub missing_in : Maps → Edit → Bool
missing_in m (edit.NewShare n) = false
missing_in m (edit.DropShare n) = not (share_stands (share_in m n))
missing_in m (edit.Bind t b) = not (share_stands (share_in m t.share))
missing_in m (edit.Unbind t) = is_none (bound_in m t)
missing_in m (edit.NewRecipient n c) = false
missing_in m (edit.Rotate n c) = not (recipient_stands (recipient_in m n))
missing_in m (edit.DropRecipient n) = not (recipient_stands (recipient_in m n))
missing_in m (edit.Grant r s) = not (recipient_stands (recipient_in m r) && share_stands (share_in m s))
missing_in m (edit.Revoke r s) = not (granted_in m r s)

abbrev pub taken_in : Maps → Edit → Bool
taken_in m (edit.NewShare n) = share_stands (share_in m n)
taken_in m (edit.Bind t b) = is_some (bound_in m t)
taken_in m (edit.NewRecipient n c) = recipient_stands (recipient_in m n)
taken_in m (edit.Grant r s) = granted_in m r s
taken_in m _ = false

abbrev pub token_taken_in : Maps → Edit → Bool
token_taken_in m (edit.NewRecipient n c) = is_other n (holder_in m c.digest)
token_taken_in m (edit.Rotate n c) = is_other n (holder_in m c.digest)
token_taken_in m _ = false

abbrev pub limit_in : Maps → Edit → Option ℕ
limit_in m (edit.NewShare n) = full_at 1024 (is_some (share_in m n)) (length m.shares)
limit_in m (edit.NewRecipient n c) = full_at 1024 (is_some (recipient_in m n)) (length m.recipients)
limit_in m (edit.Bind t b) = option_or (full_at 4096 (is_some (table_in m t)) (length m.tables)) (location_limit m b.location)
limit_in m (edit.Grant r s) = full_at 16384 (is_some (grant_in m r s)) (length m.grants)
limit_in m _ = None

abbrev pub refusal_in : Maps → Edit → Option EditRefusal
refusal_in m e = first_refusal (missing_in m e) (taken_in m e) (token_taken_in m e) (limit_in m e)

abbrev pub with_location : List ℕ → List (List ℕ) → List (List ℕ)
with_location l ls = if list_any (λ x. bytes_eq x l) ls then ls else ls ++ l ∷ []

abbrev pub with_share : List ℕ → Bool → ℕ → Maps → Maps
with_share n stands made m = record m { shares = put bytes_cmp n (record { stands = stands; made = made }) m.shares }

abbrev pub with_recipient : List ℕ → RecipientState → List (List ℕ × List ℕ) → Maps → Maps
with_recipient n state holders m = record m { recipients = put bytes_cmp n state m.recipients; holders = holders }

abbrev pub rotated : Option RecipientState → List ℕ → Credential → Maps → Maps
rotated None n c m = m
rotated (Some r) n c m = with_recipient n (record { stands = r.stands; made = r.made; credential = c })
    (put bytes_cmp c.digest n (take_out bytes_cmp r.credential.digest m.holders)) m

abbrev pub without_recipient : Option RecipientState → List ℕ → Maps → Maps
without_recipient None n m = m
without_recipient (Some r) n m = with_recipient n (record { stands = false; made = r.made; credential = r.credential })
    (take_out bytes_cmp r.credential.digest m.holders) m

abbrev pub with_table : TableName → TableState → Maps → Maps
with_table t state m = record m { tables = put texts_cmp (parts_of t) state m.tables }

abbrev pub with_grant : List ℕ → List ℕ → Bool → ℕ → Maps → Maps
with_grant r s granted edition m = record m {
  grants = put texts_cmp (texts r s)
      (record { granted = granted; recipient_made = recipient_times (recipient_in m r); share_made = share_times (share_in m s); edition = edition }) m.grants;
}

-- what is held after an edit that was accepted
abbrev pub after : Maps → Edit → Maps
after m (edit.NewShare n) = with_share n true (share_times (share_in m n) + 1) m
after m (edit.DropShare n) = with_share n false (share_times (share_in m n)) m
after m (edit.Bind t b) = record (with_table t (record { binding = Some b; share_made = share_times (share_in m t.share); edition = table_edition (table_in m t) + 1 }) m)
    { locations = with_location b.location m.locations }
after m (edit.Unbind t) = with_table t (record { binding = None; share_made = table_made (table_in m t); edition = table_edition (table_in m t) }) m
after m (edit.NewRecipient n c) = with_recipient n (record { stands = true; made = recipient_times (recipient_in m n) + 1; credential = c }) (put bytes_cmp c.digest n m.holders) m
after m (edit.Rotate n c) = rotated (recipient_in m n) n c m
after m (edit.DropRecipient n) = without_recipient (recipient_in m n) n m
after m (edit.Grant r s) = with_grant r s true (grant_times (grant_in m r s) + 1) m
after m (edit.Revoke r s) = with_grant r s false (grant_times (grant_in m r s)) m

-- each count can grow by one
pub record CountsFit (m : Maps) : Type 0 where
  pub shares : (q : List ℕ) → share_times (share_in m q) + 1 < 2 ^ 63
  pub recipients : (q : List ℕ) → recipient_times (recipient_in m q) + 1 < 2 ^ 63
  pub tables : (q : TableName) → table_edition (table_in m q) + 1 < 2 ^ 63
  pub grants : (r s : List ℕ) → grant_times (grant_in m r s) + 1 < 2 ^ 63
