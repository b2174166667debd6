-- What is held fits the edits with one more: grants and revokes.
use Rattle.std.proofs.Common.{◌≡◌, ℕ, ◌+◌, List, Bool, true, false, cond, ◌&&◌, Option, Some, None, refl, sym, ap, ◌∙◌, subst, length, bytes_eq, arith}
use Rattle.std.specs.Prelude.{unwrap_or, is_some}
use Rattle.std.specs.FinMap.Entries.{find, put}
use Rattle.share_catalog.specs.declared.edit.Edit.{Edit}
use Rattle.share_catalog.specs.declared.edit.Edit.TheVariants as edit
use Rattle.share_catalog.specs.declared.state.ShareState.{ShareState}
use Rattle.share_catalog.specs.declared.state.RecipientState.{RecipientState}
use Rattle.share_catalog.specs.declared.state.GrantState.{GrantState}
use Rattle.share_catalog.specs.Catalogue.{bound_location, bound_table, granted, granted_pair, grants_pair, has_recipient, has_share, is_pair, is_table, made_recipient, made_share, same_pair, says_grant}
use Rattle.share_catalog.specs.Entries.{texts}
use Rattle.share_catalog.specs.Fits.{Fits, GrantFits}
use Rattle.share_catalog.specs.Maps.{Maps, after, bytes_cmp, grant_times, grant_in, granted_by, recipient_in, recipient_stands, recipient_times, share_in, share_stands, share_times, since}
use Rattle.share_catalog.specs.TableNames.{texts_cmp}
use Rattle.share_catalog.proofs.AfterShares.{stands_since}
use Rattle.share_catalog.proofs.Orders.{texts_total}
use Rattle.share_catalog.proofs.Quiet.{UngrantedBy, count_made, count_put, count_quiet, digest_quiet, distinct_quiet, grant_quiet, recipient_quiet, share_quiet, table_quiet}
use Rattle.share_catalog.proofs.Set.{at_pair, pair_here, pair_there}
use Rattle.share_catalog.proofs.SortedLemmas.{sorted-put}
use Rattle.share_catalog.proofs.KeyTests.{each, pair_refl, pair_sym}
use Rattle.share_catalog.proofs.Words.{count_grows, count_same, known_now, known_same, more, new_word}

-- grants after one got a new state
set_grant : (edits : List Edit) (e : Edit) (a b : List ℕ) (st : GrantState) (rs : List (List ℕ × RecipientState)) (es : List (List ℕ × ShareState)) (gs : List (List (List ℕ) × GrantState))
    → ((r s : List ℕ) → GrantFits edits r s (find bytes_cmp r rs) (find bytes_cmp s es) (find texts_cmp (texts r s) gs))
    → GrantFits (more edits e) a b (find bytes_cmp a rs) (find bytes_cmp b es) (Some st)
    → ((r s : List ℕ) → is_pair a b r s ≡ false → (says_grant r s e ≡ None) × UngrantedBy r s e)
    → (r s : List ℕ) → GrantFits (more edits e) r s (find bytes_cmp r rs) (find bytes_cmp s es) (find texts_cmp (texts r s) (put texts_cmp (texts a b) st gs))
set_grant edits e a b st rs es gs fits here quiet =
    at_pair a b (λ r s. GrantFits (more edits e) r s (find bytes_cmp r rs) (find bytes_cmp s es) (find texts_cmp (texts r s) (put texts_cmp (texts a b) st gs)))
    (subst (GrantFits (more edits e) a b (find bytes_cmp a rs) (find bytes_cmp b es)) (sym (pair_here a b st gs)) here)
    (λ r s other. subst (GrantFits (more edits e) r s (find bytes_cmp r rs) (find bytes_cmp s es)) (sym (pair_there a b r s st gs other))
    (grant_quiet edits e r s (find bytes_cmp r rs) (find bytes_cmp s es) (find texts_cmp (texts r s) gs) (quiet r s other).0 (quiet r s other).1 (fits r s)))

pairs_symmetric : (p q : List ℕ × List ℕ) → same_pair p q ≡ same_pair q p
pairs_symmetric p q = pair_sym p.0 p.1 q.0 q.1

both_stand : (b c : Bool) → b ≡ true → c ≡ true → (b && c) ≡ true
both_stand b c p q = rw (p, q) refl

pub after_grant : (m : Maps) (edits : List Edit) (a b : List ℕ) → Fits m edits → (has_recipient edits a && has_share edits b) ≡ true → Fits (after m (edit.Grant a b)) (more edits (edit.Grant a b))
after_grant m edits a b fits has =
    let e : Edit = edit.Grant a b in
    let ro : Option RecipientState = recipient_in m a in
    let so : Option ShareState = share_in m b in
    let st : GrantState = record { granted = true; recipient_made = recipient_times ro; share_made = share_times so; edition = grant_times (grant_in m a b) + 1 } in
    let stand = each (has_recipient edits a) (has_share edits b) has in
    record {
      sorted = record {
        shares = fits.sorted.shares;
        recipients = fits.sorted.recipients;
        tables = fits.sorted.tables;
        grants = sorted-put texts_cmp texts_total (texts a b) st m.grants fits.sorted.grants;
        holders = fits.sorted.holders;
      };
      shares = λ q. share_quiet edits e q _ (record { says = refl; makes = refl; made = refl }) (fits.shares q);
      recipients = λ q. recipient_quiet edits e q _ (record { says = refl; makes = refl; credential = refl; made = refl }) (fits.recipients q);
      tables = λ t. table_quiet edits e t _ _ refl (record { binds = refl; made = refl }) (fits.tables t);
      grants = set_grant edits e a b st m.recipients m.shares m.grants fits.grants
          (record {
            given = both_stand (since (recipient_stands ro) (recipient_times ro) (recipient_times ro)) (since (share_stands so) (share_times so) (share_times so))
                (stands_since (recipient_stands ro) (recipient_times ro) ((fits.recipients a).stands ∙ stand.0)) (stands_since (share_stands so) (share_times so) ((fits.shares b).stands ∙ stand.1))
                ∙ sym (ap (λ w. unwrap_or w false) (new_word (says_grant a b) edits e true (ap (λ x. cond x (Some true) None) (pair_refl a b))));
            edition = ap (λ k. k + 1) (fits.grants a b).edition ∙ sym (count_grows (grants_pair a b) edits e (pair_refl a b));
            recipient_made = omega arith;
            share_made = omega arith;
            known = sym (known_now (same_pair (a, b)) granted_pair edits e (pair_refl a b));
          })
          (λ r s other. (ap (λ x. cond x (Some true) None) other, record { grants = other; made = pair_sym r s a b ∙ other }));
      holders = λ digest q. digest_quiet edits e digest q (record { says = refl; makes = refl; credential = refl; made = refl }) ∙ fits.holders digest q;
      locations = fits.locations ∙ distinct_quiet bytes_eq bound_location edits e refl;
      share_count = count_quiet bytes_eq made_share edits e (length m.shares) refl fits.share_count;
      recipient_count = count_quiet bytes_eq made_recipient edits e (length m.recipients) refl fits.recipient_count;
      table_count = count_quiet is_table bound_table edits e (length m.tables) refl fits.table_count;
      grant_count = count_made texts_cmp texts_total same_pair pairs_symmetric granted_pair edits e (a, b) (texts a b) st m.grants refl fits.sorted.grants (fits.grants a b).known fits.grant_count;
    }

grant_there : (ro : Option RecipientState) (so : Option ShareState) (o : Option GrantState) → granted_by ro so o ≡ true → is_some o ≡ true
grant_there ro so None e = e
grant_there ro so (Some g) e = refl

pub after_revoke : (m : Maps) (edits : List Edit) (a b : List ℕ) → Fits m edits → granted edits a b ≡ true → Fits (after m (edit.Revoke a b)) (more edits (edit.Revoke a b))
after_revoke m edits a b fits has =
    let e : Edit = edit.Revoke a b in
    let ro : Option RecipientState = recipient_in m a in
    let so : Option ShareState = share_in m b in
    let o : Option GrantState = grant_in m a b in
    let st : GrantState = record { granted = false; recipient_made = recipient_times ro; share_made = share_times so; edition = grant_times o } in
    let there : is_some o ≡ true = grant_there ro so o ((fits.grants a b).given ∙ has) in
    record {
      sorted = record {
        shares = fits.sorted.shares;
        recipients = fits.sorted.recipients;
        tables = fits.sorted.tables;
        grants = sorted-put texts_cmp texts_total (texts a b) st m.grants fits.sorted.grants;
        holders = fits.sorted.holders;
      };
      shares = λ q. share_quiet edits e q _ (record { says = refl; makes = refl; made = refl }) (fits.shares q);
      recipients = λ q. recipient_quiet edits e q _ (record { says = refl; makes = refl; credential = refl; made = refl }) (fits.recipients q);
      tables = λ t. table_quiet edits e t _ _ refl (record { binds = refl; made = refl }) (fits.tables t);
      grants = set_grant edits e a b st m.recipients m.shares m.grants fits.grants
          (record {
            given = sym (ap (λ w. unwrap_or w false) (new_word (says_grant a b) edits e false (ap (λ x. cond x (Some false) None) (pair_refl a b))));
            edition = (fits.grants a b).edition ∙ sym (count_same (grants_pair a b) edits e refl);
            recipient_made = omega arith;
            share_made = omega arith;
            known = sym there ∙ (fits.grants a b).known ∙ sym (known_same (same_pair (a, b)) granted_pair edits e refl);
          })
          (λ r s other. (ap (λ x. cond x (Some false) None) other, record { grants = refl; made = refl }));
      holders = λ digest q. digest_quiet edits e digest q (record { says = refl; makes = refl; credential = refl; made = refl }) ∙ fits.holders digest q;
      locations = fits.locations ∙ distinct_quiet bytes_eq bound_location edits e refl;
      share_count = count_quiet bytes_eq made_share edits e (length m.shares) refl fits.share_count;
      recipient_count = count_quiet bytes_eq made_recipient edits e (length m.recipients) refl fits.recipient_count;
      table_count = count_quiet is_table bound_table edits e (length m.tables) refl fits.table_count;
      grant_count = count_put texts_cmp texts_total same_pair granted_pair edits e (texts a b) st m.grants refl fits.sorted.grants there fits.grant_count;
    }
