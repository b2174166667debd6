-- What is held fits the edits with one more, where they don't refuse it.
use Rattle.std.proofs.Common.{◌≡◌, ℕ, ◌+◌, ◌<◌, ◌≤◌, ◌^◌, List, [], ◌∷◌, Bool, true, false, not, ◌&&◌, Option, Some, None, Result, Ok, true≢false, refl, sym, ap, ◌∙◌, subst, length, arith}
use Rattle.std.specs.Prelude.{is_ok}
use Rattle.std.proofs.lemmas.List.{length-append}
use Rattle.std.proofs.lemmas.List.Sums.{count_by-le-length}
use Rattle.share_catalog.specs.declared.edit.Edit.{Edit}
use Rattle.share_catalog.specs.declared.edit.Edit.TheVariants as edit
use Rattle.share_catalog.specs.declared.edit.EditRefusal.{EditRefusal}
use Rattle.share_catalog.specs.declared.edit.EditRefusal.TheVariants as refusal
use Rattle.share_catalog.specs.Catalogue.{binds_table, first_refusal, grants_pair, has_recipient, has_share, granted, is_missing, is_taken, is_token_taken, limit_passed, refusal_of}
use Rattle.share_catalog.specs.declared.changes.Spare.{Spare}
use Rattle.share_catalog.specs.declared.held.Held.{Held}
use Rattle.share_catalog.specs.CatalogState.{IsCatalog, IsReady, spare_count, unless}
use Rattle.share_catalog.specs.HeldMaps.{HasRoom, maps_of}
use Rattle.share_catalog.specs.Spares.{IsSpare}
use Rattle.share_catalog.specs.Fits.{Fits, makes_recipient, makes_share}
use Rattle.share_catalog.specs.Maps.{CountsFit, Maps, after, recipient_in}
use Rattle.share_catalog.proofs.AfterShares.{after_bind, after_drop_share, after_new_share, after_unbind}
use Rattle.share_catalog.proofs.AfterRecipients.{after_drop_recipient, after_new_recipient, after_rotate}
use Rattle.share_catalog.proofs.AfterGrants.{after_grant, after_revoke}
use Rattle.share_catalog.proofs.KeyTests.{some_none}
use Rattle.share_catalog.proofs.Words.{more}

record Accepted (missing taken token : Bool) : Type 0 where
  stands : missing ≡ false
  new : taken ≡ false
  free : token ≡ false

accepted : (missing taken token : Bool) (limit : Option ℕ) → first_refusal missing taken token limit ≡ None → Accepted missing taken token
accepted true taken token limit e = absurd (some_none refusal.Missing e)
accepted false true token limit e = absurd (some_none refusal.Taken e)
accepted false false true limit e = absurd (some_none refusal.TokenTaken e)
accepted false false false limit e = record { stands = refl; new = refl; free = refl }

not_false : (b : Bool) → not b ≡ false → b ≡ true
not_false true e = refl
not_false false e = sym e

by_edit : (m : Maps) (edits : List Edit) (e : Edit) → Fits m edits → Accepted (is_missing edits e) (is_taken edits e) (is_token_taken edits e) → Fits (after m e) (more edits e)
by_edit m edits (edit.NewShare n) fits ok = after_new_share m edits n fits
by_edit m edits (edit.DropShare n) fits ok = after_drop_share m edits n fits (not_false (has_share edits n) ok.stands)
by_edit m edits (edit.Bind t b) fits ok = after_bind m edits t b fits (not_false (has_share edits t.share) ok.stands)
by_edit m edits (edit.Unbind t) fits ok = after_unbind m edits t fits ok.stands
by_edit m edits (edit.NewRecipient n c) fits ok = after_new_recipient m edits n c fits ok.new ok.free
by_edit m edits (edit.Rotate n c) fits ok = after_rotate m edits n c (recipient_in m n) fits (not_false (has_recipient edits n) ok.stands) ok.free refl
by_edit m edits (edit.DropRecipient n) fits ok = after_drop_recipient m edits n (recipient_in m n) fits (not_false (has_recipient edits n) ok.stands) refl
by_edit m edits (edit.Grant r s) fits ok = after_grant m edits r s fits (not_false (has_recipient edits r && has_share edits s) ok.stands)
by_edit m edits (edit.Revoke r s) fits ok = after_revoke m edits r s fits (not_false (granted edits r s) ok.stands)

pub fits_after : (m : Maps) (edits : List Edit) (e : Edit) → Fits m edits → refusal_of edits e ≡ None → Fits (after m e) (more edits e)
fits_after m edits e fits none = by_edit m edits e fits (accepted (is_missing edits e) (is_taken edits e) (is_token_taken edits e) (limit_passed edits e) none)

one_more_fits : (k c n : ℕ) → k ≡ c → c ≤ n → n + 1 < 2 ^ 63 → k + 1 < 2 ^ 63
one_more_fits k c n is le below = omega arith

-- no count is above the number of edits
pub counts_fit : (m : Maps) (edits : List Edit) → Fits m edits → length edits + 1 < 2 ^ 63 → CountsFit m
counts_fit m edits fits below = record {
  shares = λ q. one_more_fits _ _ _ (fits.shares q).times (count_by-le-length (makes_share q) edits) below;
  recipients = λ q. one_more_fits _ _ _ (fits.recipients q).times (count_by-le-length (makes_recipient q) edits) below;
  tables = λ t. one_more_fits _ _ _ (fits.tables t).edition (count_by-le-length (binds_table t) edits) below;
  grants = λ r s. one_more_fits _ _ _ (fits.grants r s).edition (count_by-le-length (grants_pair r s) edits) below;
}

none_of_ok : (o : Option EditRefusal) (u : Unit {0}) → unless o ≡ Ok u → o ≡ None
none_of_ok None u is = refl
none_of_ok (Some r) u is = absurd (true≢false (sym (ap is_ok is)))

-- an edit that is accepted is refused by nothing
pub nothing_refuses : (edits : List Edit) (e : Edit) (r : Result (Unit {0}) EditRefusal) (u : Unit {0}) → r ≡ unless (refusal_of edits e) → r ≡ Ok u → refusal_of edits e ≡ None
nothing_refuses edits e r u is ok = none_of_ok (refusal_of edits e) u (sym is ∙ ok)

ready_case : (h : Held) (o : Option Spare) (s : Spare) → o ≡ Some s → IsReady h o → HasRoom h × IsSpare s
ready_case h o s is ready = subst (IsReady h) is ready

count_case : (count : ℕ) (o : Option Spare) (s : Spare) → o ≡ Some s → count + spare_count o < 2 ^ 63 → count + 1 < 2 ^ 63
count_case count o s is below = subst (λ p. count + spare_count p < 2 ^ 63) is below

-- what holds before an edit that is accepted, where memory is taken for it
pub record Before (h : Held) (edits : List Edit) (count : ℕ) (s : Spare) : Type 0 where
  pub room : HasRoom h
  pub spare : IsSpare s
  pub counts : CountsFit (maps_of h)
  pub below : count + 1 < 2 ^ 63

pub before_edit : (h : Held) (edits : List Edit) (count : ℕ) (o : Option Spare) (s : Spare) → IsCatalog h edits count o → o ≡ Some s → Before h edits count s
before_edit h edits count o s is some =
    let ready = ready_case h o s some is.ready in
    let below : count + 1 < 2 ^ 63 = count_case count o s some is.below in
    record {
      room = ready.0;
      spare = ready.1;
      counts = counts_fit (maps_of h) edits is.fits (subst (λ n. n + 1 < 2 ^ 63) is.counted below);
      below = below;
    }

pub catalog_after : (h h' : Held) (edits : List Edit) (e : Edit) (count : ℕ) (o o' : Option Spare) (s : Spare) → IsCatalog h edits count o → o ≡ Some s → o' ≡ None → refusal_of edits e ≡ None
    → maps_of h' ≡ after (maps_of h) e → IsCatalog h' (more edits e) (count + 1) o'
catalog_after h h' edits e count o o' s is some none accepted made =
    let before = before_edit h edits count o s is some in
    record {
      fits = subst (λ m. Fits m (more edits e)) (sym made) (fits_after (maps_of h) edits e is.fits accepted);
      counted = ap (λ n. n + 1) is.counted ∙ sym (length-append edits (e ∷ []));
      below = subst (λ p. count + 1 + spare_count p < 2 ^ 63) (sym none) (omega (arith, before.below));
      ready = subst (IsReady h') (sym none) tt;
    }
