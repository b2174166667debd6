-- How what is held stands for a list of edits.
use Rattle.std.specs.Prelude.{ℕ, ◌≡◌, ◌≤◌, List, Bool, false, Option, is_some, length, bytes_eq, count_by}
use Rattle.std.specs.List.{list_any}
use Rattle.share_catalog.specs.declared.table_name.TableName.{TableName}
use Rattle.share_catalog.specs.declared.edit.Edit.{Edit}
use Rattle.share_catalog.specs.declared.edit.Edit.TheVariants as edit
use Rattle.share_catalog.specs.declared.state.ShareState.{ShareState}
use Rattle.share_catalog.specs.declared.state.RecipientState.{RecipientState}
use Rattle.share_catalog.specs.declared.state.TableState.{TableState}
use Rattle.share_catalog.specs.declared.state.GrantState.{GrantState}
use Rattle.share_catalog.specs.Catalogue.{binding_edition, bound, distinct, grant_edition, granted, has_digest, has_recipient, has_share, is_holder, is_table, last_credential, locations_bound, pairs_granted, recipients_made, same_pair, shares_made, tables_bound}
use Rattle.share_catalog.specs.Maps.{AreSorted, Maps, bound_by, grant_times, grant_in, grant_recipient_made, grant_share_made, granted_by, holder_in, recipient_credential, recipient_in, recipient_stands, recipient_times, share_in, share_stands, share_times, table_edition, table_in, table_made}

abbrev pub makes_share : List ℕ → Edit → Bool
makes_share s (edit.NewShare n) = bytes_eq n s
makes_share s _ = false

abbrev pub makes_recipient : List ℕ → Edit → Bool
makes_recipient r (edit.NewRecipient n c) = bytes_eq n r
makes_recipient r _ = false

pub record ShareFits (edits : List Edit) (q : List ℕ) (o : Option ShareState) : Type 0 where
  pub stands : share_stands o ≡ has_share edits q
  pub times : share_times o ≡ count_by (makes_share q) edits
  pub known : is_some o ≡ list_any (bytes_eq q) (shares_made edits)

pub record RecipientFits (edits : List Edit) (q : List ℕ) (o : Option RecipientState) : Type 0 where
  pub stands : recipient_stands o ≡ has_recipient edits q
  pub times : recipient_times o ≡ count_by (makes_recipient q) edits
  pub credential : recipient_credential o ≡ last_credential edits q
  pub known : is_some o ≡ list_any (bytes_eq q) (recipients_made edits)

pub record TableFits (edits : List Edit) (t : TableName) (so : Option ShareState) (o : Option TableState) : Type 0 where
  pub binding : bound_by so o ≡ bound edits t
  pub edition : table_edition o ≡ binding_edition edits t
  pub made : table_made o ≤ share_times so
  pub known : is_some o ≡ list_any (is_table t) (tables_bound edits)

pub record GrantFits (edits : List Edit) (r s : List ℕ) (ro : Option RecipientState) (so : Option ShareState) (o : Option GrantState) : Type 0 where
  pub given : granted_by ro so o ≡ granted edits r s
  pub edition : grant_times o ≡ grant_edition edits r s
  pub recipient_made : grant_recipient_made o ≤ recipient_times ro
  pub share_made : grant_share_made o ≤ share_times so
  pub known : is_some o ≡ list_any (same_pair (r, s)) (pairs_granted edits)

pub record Fits (m : Maps) (edits : List Edit) : Type 0 where
  pub sorted : AreSorted m
  pub shares : (q : List ℕ) → ShareFits edits q (share_in m q)
  pub recipients : (q : List ℕ) → RecipientFits edits q (recipient_in m q)
  pub tables : (t : TableName) → TableFits edits t (share_in m t.share) (table_in m t)
  pub grants : (r s : List ℕ) → GrantFits edits r s (recipient_in m r) (share_in m s) (grant_in m r s)
  pub holders : (digest n : List ℕ) → has_digest edits digest n ≡ is_holder n (holder_in m digest)
  pub locations : m.locations ≡ distinct bytes_eq (locations_bound edits)
  pub share_count : length m.shares ≡ length (distinct bytes_eq (shares_made edits))
  pub recipient_count : length m.recipients ≡ length (distinct bytes_eq (recipients_made edits))
  pub table_count : length m.tables ≡ length (distinct is_table (tables_bound edits))
  pub grant_count : length m.grants ≡ length (distinct same_pair (pairs_granted edits))
