-- The catalogue of a list of edits, the oldest first: by the last edit that speaks of a thing, and by
-- counts over the whole list. (Delta Sharing PROTOCOL.md, "Concepts", has shares, schemas, tables and
-- recipients, and leaves to the server how they are made.)
use Rattle.std.specs.Prelude.{◌≡◌, ℕ, List, [], ◌∷◌, Bool, true, false, ◌&&◌, not, Option, Some, None, is_some, is_none, unwrap_or, option_map, if◌then◌else◌, length, nat_le, bytes_eq, filter, filter_map, count_by}
use Rattle.std.specs.List.{last_or, list_any}
use Rattle.std.specs.Option.{option_or}
use Rattle.share_catalog.specs.declared.credential.Credential.{Credential}
use Rattle.share_catalog.specs.declared.table_name.TableName.{TableName}
use Rattle.share_catalog.specs.declared.edit.Binding.{Binding}
use Rattle.share_catalog.specs.declared.edit.Edit.{Edit}
use Rattle.share_catalog.specs.declared.edit.Edit.TheVariants as edit
use Rattle.share_catalog.specs.declared.edit.EditRefusal.{EditRefusal}
use Rattle.share_catalog.specs.declared.edit.EditRefusal.TheVariants as refusal

-- what the last edit says that says something
abbrev pub last_word : {X : Type 0} → (Edit → Option X) → List Edit → Option X
last_word says edits = last_or None (filter_map says edits)

-- what is said where it holds
abbrev pub said : {X : Type 0} → Bool → X → Option X
said b x = if b then Some x else None

-- both texts are equal
abbrev pub is_pair : List ℕ → List ℕ → List ℕ → List ℕ → Bool
is_pair r s r' s' = bytes_eq r r' && bytes_eq s s'

-- share, schema and table are equal
abbrev pub is_table : TableName → TableName → Bool
is_table t t' = bytes_eq t.share t'.share && is_pair t.schema t.table t'.schema t'.table

-- an edit makes the share, or drops it
abbrev pub says_share : List ℕ → Edit → Option Bool
says_share s (edit.NewShare n) = said (bytes_eq n s) true
says_share s (edit.DropShare n) = said (bytes_eq n s) false
says_share s _ = None

-- an edit makes the recipient, or drops it
abbrev pub says_recipient : List ℕ → Edit → Option Bool
says_recipient r (edit.NewRecipient n c) = said (bytes_eq n r) true
says_recipient r (edit.DropRecipient n) = said (bytes_eq n r) false
says_recipient r _ = None

-- an edit gives the recipient a credential
abbrev pub says_credential : List ℕ → Edit → Option Credential
says_credential r (edit.NewRecipient n c) = said (bytes_eq n r) c
says_credential r (edit.Rotate n c) = said (bytes_eq n r) c
says_credential r _ = None

-- an edit grants the pair, or it revokes it or makes or drops one of both
abbrev pub says_grant : List ℕ → List ℕ → Edit → Option Bool
says_grant r s (edit.Grant r' s') = said (is_pair r' s' r s) true
says_grant r s (edit.Revoke r' s') = said (is_pair r' s' r s) false
says_grant r s (edit.NewShare n) = said (bytes_eq n s) false
says_grant r s (edit.DropShare n) = said (bytes_eq n s) false
says_grant r s (edit.NewRecipient n c) = said (bytes_eq n r) false
says_grant r s (edit.DropRecipient n) = said (bytes_eq n r) false
says_grant r s _ = None

-- an edit binds the table, or it unbinds it or makes or drops its share
abbrev pub says_binding : TableName → Edit → Option (Option Binding)
says_binding t (edit.Bind t' b) = said (is_table t' t) (Some b)
says_binding t (edit.Unbind t') = said (is_table t' t) None
says_binding t (edit.NewShare n) = said (bytes_eq n t.share) None
says_binding t (edit.DropShare n) = said (bytes_eq n t.share) None
says_binding t _ = None

-- a share is there: the last edit that makes or drops it makes it
abbrev pub has_share : List Edit → List ℕ → Bool
has_share edits s = unwrap_or (last_word (says_share s) edits) false

-- a recipient is there: the last edit that makes or drops it makes it
abbrev pub has_recipient : List Edit → List ℕ → Bool
has_recipient edits r = unwrap_or (last_word (says_recipient r) edits) false

-- the credential of the last edit that gives the recipient one
abbrev pub last_credential : List Edit → List ℕ → Option Credential
last_credential edits r = last_word (says_credential r) edits

-- the credential of a recipient that is there
abbrev pub credential : List Edit → List ℕ → Option Credential
credential edits r = if has_recipient edits r then last_credential edits r else None

-- the last edit that grants or revokes the pair, or makes or drops one of both, grants it
abbrev pub granted : List Edit → List ℕ → List ℕ → Bool
granted edits r s = unwrap_or (last_word (says_grant r s) edits) false

-- the last edit that binds or unbinds the table, or makes or drops its share, binds it so
abbrev pub bound : List Edit → TableName → Option Binding
bound edits t = unwrap_or (last_word (says_binding t) edits) None

abbrev pub grants_pair : List ℕ → List ℕ → Edit → Bool
grants_pair r s (edit.Grant r' s') = is_pair r' s' r s
grants_pair r s _ = false

-- how often the pair was granted
abbrev pub grant_edition : List Edit → List ℕ → List ℕ → ℕ
grant_edition edits r s = count_by (grants_pair r s) edits

abbrev pub binds_table : TableName → Edit → Bool
binds_table t (edit.Bind t' b) = is_table t' t
binds_table t _ = false

-- how often the table was bound
abbrev pub binding_edition : List Edit → TableName → ℕ
binding_edition edits t = count_by (binds_table t) edits

abbrev pub made_share : Edit → Option (List ℕ)
made_share (edit.NewShare n) = Some n
made_share _ = None

abbrev pub made_recipient : Edit → Option (List ℕ)
made_recipient (edit.NewRecipient n c) = Some n
made_recipient _ = None

abbrev pub bound_table : Edit → Option TableName
bound_table (edit.Bind t b) = Some t
bound_table _ = None

abbrev pub bound_location : Edit → Option (List ℕ)
bound_location (edit.Bind t b) = Some b.location
bound_location _ = None

abbrev pub granted_pair : Edit → Option (List ℕ × List ℕ)
granted_pair (edit.Grant r s) = Some (r, s)
granted_pair _ = None

-- the shares that were ever made, one for each making
abbrev pub shares_made : List Edit → List (List ℕ)
shares_made edits = filter_map made_share edits

abbrev pub recipients_made : List Edit → List (List ℕ)
recipients_made edits = filter_map made_recipient edits

abbrev pub tables_bound : List Edit → List TableName
tables_bound edits = filter_map bound_table edits

abbrev pub locations_bound : List Edit → List (List ℕ)
locations_bound edits = filter_map bound_location edits

abbrev pub pairs_granted : List Edit → List (List ℕ × List ℕ)
pairs_granted edits = filter_map granted_pair edits

-- each element once, where it stands first
abbrev pub distinct : {X : Type 0} → (X → X → Bool) → List X → List X
distinct eq [] = []
distinct eq (x ∷ xs) = x ∷ filter (λ y. not (eq x y)) (distinct eq xs)

abbrev pub same_pair : List ℕ × List ℕ → List ℕ × List ℕ → Bool
same_pair p q = is_pair p.0 p.1 q.0 q.1

-- the limit, where x is new among the elements and so many are there already
abbrev pub limit_met : {X : Type 0} → (X → X → Bool) → ℕ → X → List X → Option ℕ
limit_met eq limit x xs = if not (list_any (eq x) xs) && nat_le limit (length (distinct eq xs)) then Some limit else None

abbrev pub is_of : List ℕ → Option Credential → Bool
is_of digest None = false
is_of digest (Some c) = bytes_eq c.digest digest

-- the recipient is there and has the digest
abbrev pub has_digest : List Edit → List ℕ → List ℕ → Bool
has_digest edits digest r = is_of digest (credential edits r)

-- it is that recipient
abbrev pub is_holder : List ℕ → Option (List ℕ) → Bool
is_holder n None = false
is_holder n (Some m) = bytes_eq m n

-- the one recipient that has the digest, or none where none has it
abbrev pub IsHolder : List Edit → List ℕ → Option (List ℕ) → Type 0
IsHolder edits digest o = (n : List ℕ) → has_digest edits digest n ≡ is_holder n o

-- another recipient has the digest
abbrev pub has_other : List Edit → List ℕ → List ℕ → Bool
has_other edits r digest = list_any (λ n. not (bytes_eq n r) && has_digest edits digest n) (recipients_made edits)

-- a share, recipient, binding or grant that the edit needs isn't there
abbrev pub is_missing : List Edit → Edit → Bool
is_missing edits (edit.NewShare n) = false
is_missing edits (edit.DropShare n) = not (has_share edits n)
is_missing edits (edit.Bind t b) = not (has_share edits t.share)
is_missing edits (edit.Unbind t) = is_none (bound edits t)
is_missing edits (edit.NewRecipient n c) = false
is_missing edits (edit.Rotate n c) = not (has_recipient edits n)
is_missing edits (edit.DropRecipient n) = not (has_recipient edits n)
is_missing edits (edit.Grant r s) = not (has_recipient edits r && has_share edits s)
is_missing edits (edit.Revoke r s) = not (granted edits r s)

-- the share, recipient, binding or grant that the edit makes is there
abbrev pub is_taken : List Edit → Edit → Bool
is_taken edits (edit.NewShare n) = has_share edits n
is_taken edits (edit.Bind t b) = is_some (bound edits t)
is_taken edits (edit.NewRecipient n c) = has_recipient edits n
is_taken edits (edit.Grant r s) = granted edits r s
is_taken edits _ = false

-- another recipient has the digest that the edit gives
abbrev pub is_token_taken : List Edit → Edit → Bool
is_token_taken edits (edit.NewRecipient n c) = has_other edits n c.digest
is_token_taken edits (edit.Rotate n c) = has_other edits n c.digest
is_token_taken edits _ = false

-- the limit that the edit passes: of table names before locations
abbrev pub limit_passed : List Edit → Edit → Option ℕ
limit_passed edits (edit.NewShare n) = limit_met bytes_eq 1024 n (shares_made edits)
limit_passed edits (edit.NewRecipient n c) = limit_met bytes_eq 1024 n (recipients_made edits)
limit_passed edits (edit.Bind t b) = option_or (limit_met is_table 4096 t (tables_bound edits)) (limit_met bytes_eq 32 b.location (locations_bound edits))
limit_passed edits (edit.Grant r s) = limit_met same_pair 16384 (r, s) (pairs_granted edits)
limit_passed edits _ = None

-- the first of the causes: Missing, Taken, TokenTaken, Full
abbrev pub first_refusal : Bool → Bool → Bool → Option ℕ → Option EditRefusal
first_refusal missing taken token full =
    if missing then Some refusal.Missing else (if taken then Some refusal.Taken else (if token then Some refusal.TokenTaken else option_map (λ n. refusal.Full n) full))

-- why the edit isn't accepted after these, if it isn't
abbrev pub refusal_of : List Edit → Edit → Option EditRefusal
refusal_of edits e = first_refusal (is_missing edits e) (is_taken edits e) (is_token_taken edits e) (limit_passed edits e)
