-- The laws of the catalogue.
use Rattle.std.proofs.Common.{◌≡◌, ℕ, ◌+◌, ◌≤◌, List, Bool, true, false, cond, ◌&&◌, not, Option, Some, None, refl, ap, ◌∙◌, arith, length, bytes_eq}
use Rattle.std.specs.Prelude.{unwrap_or, nat_le, count_by}
use Rattle.std.specs.List.{list_any}
use Rattle.std.specs.Option.{option_or}
use Rattle.share_catalog.specs.declared.credential.Credential.{Credential}
use Rattle.share_catalog.specs.declared.table_name.TableName.{TableName}
use Rattle.share_catalog.specs.declared.edit.Edit.{Edit}
use Rattle.share_catalog.specs.declared.edit.Edit.TheVariants as edit
use Rattle.share_catalog.specs.Catalogue.{binds_table, distinct, grants_pair, has_recipient, is_pair, is_table, last_credential, limit_met, locations_bound, pairs_granted, recipients_made, said, same_pair, says_binding, says_credential, says_grant, says_recipient, shares_made, tables_bound}
use Rattle.share_catalog.specs.Laws.{ComesBackEmpty, CountedIsNeverFull, EditionsRise, GrantsAgain, LeavesOthers, LeavesShares, names_recipient, names_share, with}
use Rattle.share_catalog.proofs.KeyTests.{bytes_refl, pair_refl}
use Rattle.share_catalog.proofs.Words.{count_grows, count_same, new_word, quiet_word}

said_now : {X : Type 0} (b : Bool) (x : X) → b ≡ true → said b x ≡ Some x
said_now b x e = ap (λ c. cond c (Some x) None) e

unsaid : {X : Type 0} (b : Bool) (x : X) → b ≡ false → said b x ≡ None
unsaid b x e = ap (λ c. cond c (Some x) None) e

pub comes_back_empty : ComesBackEmpty
comes_back_empty edits t r =
    let dropped = with edits (edit.DropShare t.share) in (
      ap (λ w. unwrap_or w None) (new_word (says_binding t) dropped (edit.NewShare t.share) None (said_now (bytes_eq t.share t.share) None (bytes_refl t.share))),
      ap (λ w. unwrap_or w false) (new_word (says_grant r t.share) dropped (edit.NewShare t.share) false (said_now (bytes_eq t.share t.share) false (bytes_refl t.share))),
    )

pub grants_again : GrantsAgain
grants_again edits r s =
    let revoked = with edits (edit.Revoke r s) in (
      ap (λ w. unwrap_or w false) (new_word (says_grant r s) revoked (edit.Grant r s) true (said_now (is_pair r s r s) true (pair_refl r s))),
      count_grows (grants_pair r s) revoked (edit.Grant r s) (pair_refl r s) ∙ ap (λ k. k + 1) (count_same (grants_pair r s) edits (edit.Revoke r s) refl),
    )

counts_rise : (p : Edit → Bool) (edits : List Edit) (e : Edit) (b : Bool) → p e ≡ b → count_by p edits ≤ count_by p (with edits e)
counts_rise p edits e true is = let grown = count_grows p edits e is in omega arith
counts_rise p edits e false is = let same = count_same p edits e is in omega arith

pub editions_rise : EditionsRise
editions_rise edits e r s t = (counts_rise (grants_pair r s) edits e (grants_pair r s e) refl, counts_rise (binds_table t) edits e (binds_table t e) refl)

-- what an edit says of a recipient that it doesn't name
quiet_recipient : (r : List ℕ) (e : Edit) → names_recipient r e ≡ false → (says_recipient r e ≡ None) × (says_credential r e ≡ None)
quiet_recipient r (edit.NewShare n) h = (refl, refl)
quiet_recipient r (edit.DropShare n) h = (refl, refl)
quiet_recipient r (edit.Bind t b) h = (refl, refl)
quiet_recipient r (edit.Unbind t) h = (refl, refl)
quiet_recipient r (edit.NewRecipient n c) h = (unsaid (bytes_eq n r) true h, unsaid (bytes_eq n r) c h)
quiet_recipient r (edit.Rotate n c) h = (refl, unsaid (bytes_eq n r) c h)
quiet_recipient r (edit.DropRecipient n) h = (unsaid (bytes_eq n r) false h, refl)
quiet_recipient r (edit.Grant a s) h = (refl, refl)
quiet_recipient r (edit.Revoke a s) h = (refl, refl)

other_pair : (a n r s : List ℕ) → bytes_eq a r ≡ false → is_pair a n r s ≡ false
other_pair a n r s e = ap (λ b. b && bytes_eq n s) e

quiet_grant : (r s : List ℕ) (e : Edit) → names_recipient r e ≡ false → names_share s e ≡ false → (says_grant r s e ≡ None) × (grants_pair r s e ≡ false)
quiet_grant r s (edit.NewShare n) h k = (unsaid (bytes_eq n s) false k, refl)
quiet_grant r s (edit.DropShare n) h k = (unsaid (bytes_eq n s) false k, refl)
quiet_grant r s (edit.Bind t b) h k = (refl, refl)
quiet_grant r s (edit.Unbind t) h k = (refl, refl)
quiet_grant r s (edit.NewRecipient n c) h k = (unsaid (bytes_eq n r) false h, refl)
quiet_grant r s (edit.Rotate n c) h k = (refl, refl)
quiet_grant r s (edit.DropRecipient n) h k = (unsaid (bytes_eq n r) false h, refl)
quiet_grant r s (edit.Grant a n) h k = (unsaid (is_pair a n r s) true (other_pair a n r s h), other_pair a n r s h)
quiet_grant r s (edit.Revoke a n) h k = (unsaid (is_pair a n r s) false (other_pair a n r s h), refl)

same_credential : (b b' : Bool) (c c' : Option Credential) → b ≡ b' → c ≡ c' → cond b c None ≡ cond b' c' None
same_credential b b' c c' p q = rw (p, q) refl

pub leaves_others : LeavesOthers
leaves_others edits e r h =
    let quiet = quiet_recipient r e h in (
      same_credential (has_recipient (with edits e) r) (has_recipient edits r) (last_credential (with edits e) r) (last_credential edits r)
          (ap (λ w. unwrap_or w false) (quiet_word (says_recipient r) edits e quiet.0)) (quiet_word (says_credential r) edits e quiet.1),
      λ s k.
          let grant = quiet_grant r s e h k in
          (ap (λ w. unwrap_or w false) (quiet_word (says_grant r s) edits e grant.0), count_same (grants_pair r s) edits e grant.1),
    )

other_table : (t u : TableName) → bytes_eq t.share u.share ≡ false → is_table t u ≡ false
other_table t u e = ap (λ b. b && is_pair t.schema t.table u.schema u.table) e

quiet_table : (t : TableName) (e : Edit) → names_share t.share e ≡ false → (says_binding t e ≡ None) × (binds_table t e ≡ false)
quiet_table t (edit.NewShare n) k = (unsaid (bytes_eq n t.share) None k, refl)
quiet_table t (edit.DropShare n) k = (unsaid (bytes_eq n t.share) None k, refl)
quiet_table t (edit.Bind u b) k = (unsaid (is_table u t) (Some b) (other_table u t k), other_table u t k)
quiet_table t (edit.Unbind u) k = (unsaid (is_table u t) None (other_table u t k), refl)
quiet_table t (edit.NewRecipient n c) k = (refl, refl)
quiet_table t (edit.Rotate n c) k = (refl, refl)
quiet_table t (edit.DropRecipient n) k = (refl, refl)
quiet_table t (edit.Grant a n) k = (refl, refl)
quiet_table t (edit.Revoke a n) k = (refl, refl)

pub leaves_shares : LeavesShares
leaves_shares edits e t k =
    let quiet = quiet_table t e k in
    (ap (λ w. unwrap_or w None) (quiet_word (says_binding t) edits e quiet.0), count_same (binds_table t) edits e quiet.1)

no_limit : {X : Type 0} (eq : X → X → Bool) (limit : ℕ) (x : X) (xs : List X) → list_any (eq x) xs ≡ true → limit_met eq limit x xs ≡ None
no_limit eq limit x xs known = ap (λ b. cond (not b && nat_le limit (length (distinct eq xs))) (Some limit) None) known

no_limits : (a b : Option ℕ) → a ≡ None → b ≡ None → option_or a b ≡ None
no_limits a b p q = rw (p, q) refl

pub counted_is_never_full : CountedIsNeverFull
counted_is_never_full edits n r s t b c = (
  λ known. no_limit bytes_eq 1024 n (shares_made edits) known,
  λ known. no_limit bytes_eq 1024 n (recipients_made edits) known,
  λ known place. no_limits (limit_met is_table 4096 t (tables_bound edits)) (limit_met bytes_eq 32 b.location (locations_bound edits))
      (no_limit is_table 4096 t (tables_bound edits) known) (no_limit bytes_eq 32 b.location (locations_bound edits) place),
  λ known. no_limit same_pair 16384 (r, s) (pairs_granted edits) known,
)
