-- What is held fits the edits with one more: edits of recipients.
use Rattle.std.proofs.Common.{◌≡◌, ℕ, ◌+◌, ◌≤◌, List, Bool, true, false, cond, ◌&&◌, not, Option, Some, None, refl, sym, ap, ◌∙◌, subst, length, bytes_eq, true≢false, arith}
use Rattle.std.specs.Prelude.{unwrap_or, is_some}
use Rattle.std.specs.FinMap.Entries.{find, put, is_sorted}
use Rattle.std.proofs.lemmas.Cmp.{nat_list_cmp_total}
use Rattle.share_catalog.specs.declared.credential.Credential.{Credential}
use Rattle.share_catalog.specs.declared.edit.Edit.{Edit}
use Rattle.share_catalog.specs.declared.edit.Edit.TheVariants as edit
use Rattle.share_catalog.specs.declared.state.ShareState.{ShareState}
use Rattle.share_catalog.specs.declared.state.RecipientState.{RecipientState}
use Rattle.share_catalog.specs.declared.state.GrantState.{GrantState}
use Rattle.share_catalog.specs.Catalogue.{bound_location, bound_table, granted_pair, has_digest, has_other, has_recipient, is_holder, is_of, is_table, last_credential, made_recipient, made_share, same_pair, says_credential, says_recipient}
use Rattle.share_catalog.specs.Fits.{Fits, GrantFits, makes_recipient}
use Rattle.share_catalog.specs.Maps.{Maps, after, bytes_cmp, grant_in, grant_recipient_made, grant_share_made, holder_in, is_granted, is_other, recipient_credential, recipient_in, recipient_stands, recipient_times, rotated, share_in, share_stands, share_times, since, without_recipient}
use Rattle.share_catalog.specs.Sorted.{take_out}
use Rattle.share_catalog.proofs.Quiet.{QuietRecipient, count_made, count_put, count_quiet, digest_quiet, digest_same, distinct_quiet, grant_quiet, share_quiet, table_quiet}
use Rattle.share_catalog.proofs.Refusals.{other}
use Rattle.share_catalog.proofs.Set.{EndsRecipient, at_name, grants_after_recipient, made_again, name_here, name_there, set_recipient}
use Rattle.share_catalog.proofs.SortedLemmas.{is_sorted-take_out, sorted-put}
use Rattle.share_catalog.proofs.KeyTests.{bytes_is, bytes_refl, bytes_sym, name_put, name_taken}
use Rattle.share_catalog.proofs.Words.{count_grows, count_same, known_now, known_same, more, new_word, quiet_word}

-- the digests of a recipient whose word and credential are known
digest_is : (edits : List Edit) (digest q : List ℕ) (b : Bool) (c : Option Credential) → has_recipient edits q ≡ b → last_credential edits q ≡ c → has_digest edits digest q ≡ is_of digest (cond b c None)
digest_is edits digest q b c p l = digest_same digest (has_recipient edits q) b (last_credential edits q) c p l

not_false : (b : Bool) → not b ≡ false → b ≡ true
not_false true e = refl
not_false false e = sym e

-- where the holder is no other than n, no other than n holds it
no_other : (n q : List ℕ) (o : Option (List ℕ)) → is_other n o ≡ false → bytes_eq n q ≡ false → is_holder q o ≡ false
no_other n q None e apart = refl
no_other n q (Some h) e apart = ap (λ x. bytes_eq x q) (bytes_is h n (not_false (bytes_eq h n) e)) ∙ apart

-- where n is the holder, no other is
sole : (n q : List ℕ) (o : Option (List ℕ)) → is_holder n o ≡ true → bytes_eq n q ≡ false → is_holder q o ≡ false
sole n q None e apart = refl
sole n q (Some h) e apart = ap (λ x. bytes_eq x q) (bytes_is h n e) ∙ apart

held_here : (b : Bool) (n : List ℕ) (o : Option (List ℕ)) → (b ≡ false → is_holder n o ≡ false) → b ≡ is_holder n (cond b (Some n) o)
held_here true n o f = sym (bytes_refl n)
held_here false n o f = sym (f refl)

held_there : (b : Bool) (n q : List ℕ) (o : Option (List ℕ)) → bytes_eq n q ≡ false → (b ≡ true → is_holder q o ≡ false) → is_holder q o ≡ is_holder q (cond b (Some n) o)
held_there true n q o apart f = f refl ∙ sym apart
held_there false n q o apart f = refl

left_here : (b : Bool) (n : List ℕ) (o : Option (List ℕ)) → (b ≡ false → is_holder n o ≡ false) → is_holder n (cond b None o) ≡ false
left_here true n o f = refl
left_here false n o f = f refl

left_there : (b : Bool) (q : List ℕ) (o : Option (List ℕ)) → (b ≡ true → is_holder q o ≡ false) → is_holder q o ≡ is_holder q (cond b None o)
left_there true q o f = f refl
left_there false q o f = refl

pub after_new_recipient : (m : Maps) (edits : List Edit) (n : List ℕ) (c : Credential) → Fits m edits → has_recipient edits n ≡ false → has_other edits n c.digest ≡ false
    → Fits (after m (edit.NewRecipient n c)) (more edits (edit.NewRecipient n c))
after_new_recipient m edits n c fits lacks alone =
    let e : Edit = edit.NewRecipient n c in
    let st : RecipientState = record { stands = true; made = recipient_times (recipient_in m n) + 1; credential = c } in
    let word : says_recipient n e ≡ Some true = ap (λ b. cond b (Some true) None) (bytes_refl n) in
    let given : says_credential n e ≡ Some c = ap (λ b. cond b (Some c) None) (bytes_refl n) in
    let stands : has_recipient (more edits e) n ≡ true = ap (λ w. unwrap_or w false) (new_word (says_recipient n) edits e true word) in
    let last : last_credential (more edits e) n ≡ Some c = new_word (says_credential n) edits e c given in
    let quiet : (q : List ℕ) → bytes_eq n q ≡ false → QuietRecipient q e = λ q apart. record {
      says = ap (λ b. cond b (Some true) None) apart;
      makes = apart;
      credential = ap (λ b. cond b (Some c) None) apart;
      made = bytes_sym q n ∙ apart;
    } in
    let ends : EndsRecipient n e (recipient_in m n) st = record {
      grant = λ r s. refl;
      ungranted = λ r s. record { grants = refl; made = refl };
      ended = λ k le. made_again k (recipient_times (recipient_in m n)) le;
      later = omega arith;
    } in
    let alone_in : is_other n (holder_in m c.digest) ≡ false = other m edits fits n c.digest ∙ alone in
    record {
      sorted = record {
        shares = fits.sorted.shares;
        recipients = sorted-put bytes_cmp nat_list_cmp_total n st m.recipients fits.sorted.recipients;
        tables = fits.sorted.tables;
        grants = fits.sorted.grants;
        holders = sorted-put bytes_cmp nat_list_cmp_total c.digest n m.holders fits.sorted.holders;
      };
      shares = λ q. share_quiet edits e q _ (record { says = refl; makes = refl; made = refl }) (fits.shares q);
      recipients = set_recipient edits e n st m.recipients fits.recipients
          (record {
            stands = sym stands;
            times = ap (λ k. k + 1) (fits.recipients n).times ∙ sym (count_grows (makes_recipient n) edits e (bytes_refl n));
            credential = sym last;
            known = sym (known_now (bytes_eq n) made_recipient edits e (bytes_refl n));
          })
          (λ q apart. quiet q apart);
      tables = λ t. table_quiet edits e t _ _ refl (record { binds = refl; made = refl }) (fits.tables t);
      grants = grants_after_recipient edits e n st m.recipients m.shares m.grants fits.grants ends;
      holders = λ digest. at_name n (λ q. has_digest (more edits e) digest q ≡ is_holder q (find bytes_cmp digest (put bytes_cmp c.digest n m.holders)))
          (digest_is (more edits e) digest n true (Some c) stands last
          ∙ held_here (bytes_eq c.digest digest) n (holder_in m digest) (λ _. sym (fits.holders digest n) ∙ digest_is edits digest n false (last_credential edits n) lacks refl)
          ∙ ap (is_holder n) (sym (name_put digest c.digest n m.holders)))
          (λ q apart. digest_quiet edits e digest q (quiet q apart) ∙ fits.holders digest q
          ∙ held_there (bytes_eq c.digest digest) n q (holder_in m digest) apart
          (λ is. no_other n q (holder_in m digest) (subst (λ d. is_other n (holder_in m d) ≡ false) (bytes_is c.digest digest is) alone_in) apart)
          ∙ ap (is_holder q) (sym (name_put digest c.digest n m.holders)));
      locations = fits.locations ∙ distinct_quiet bytes_eq bound_location edits e refl;
      share_count = count_quiet bytes_eq made_share edits e (length m.shares) refl fits.share_count;
      recipient_count = count_made bytes_cmp nat_list_cmp_total bytes_eq bytes_sym made_recipient edits e n n st m.recipients refl fits.sorted.recipients (fits.recipients n).known fits.recipient_count;
      table_count = count_quiet is_table bound_table edits e (length m.tables) refl fits.table_count;
      grant_count = count_quiet same_pair granted_pair edits e (length m.grants) refl fits.grant_count;
    }

-- a recipient that is there as it was lets a grant stand as it was
same_life : (edits : List Edit) (r s : List ℕ) (ro ro' : Option RecipientState) (so : Option ShareState) (o : Option GrantState)
    → recipient_stands ro' ≡ recipient_stands ro → recipient_times ro' ≡ recipient_times ro → GrantFits edits r s ro so o → GrantFits edits r s ro' so o
same_life edits r s ro ro' so o stands times fits = record {
  given = ap (λ b. is_granted o && (b && since (share_stands so) (share_times so) (grant_share_made o))) (since_same (recipient_stands ro') (recipient_stands ro) (recipient_times ro') (recipient_times ro) (grant_recipient_made o) stands times) ∙ fits.given;
  edition = fits.edition;
  recipient_made = subst (λ k. grant_recipient_made o ≤ k) (sym times) fits.recipient_made;
  share_made = fits.share_made;
  known = fits.known;
}
  where
    since_same : (b b' : Bool) (n n' k : ℕ) → b ≡ b' → n ≡ n' → since b n k ≡ since b' n' k
    since_same b b' n n' k p q = rw (p, q) refl

-- the recipient has the digest of its credential, and no other
digest_of : (m : Maps) (edits : List Edit) (n : List ℕ) (r : RecipientState) → Fits m edits → has_recipient edits n ≡ true → recipient_in m n ≡ Some r
    → (digest : List ℕ) → is_holder n (holder_in m digest) ≡ bytes_eq r.credential.digest digest
digest_of m edits n r fits has is digest =
    sym (fits.holders digest n) ∙ digest_is edits digest n true (Some r.credential) has (sym (fits.recipients n).credential ∙ ap recipient_credential is)

pub after_rotate : (m : Maps) (edits : List Edit) (n : List ℕ) (c : Credential) (o : Option RecipientState) → Fits m edits → has_recipient edits n ≡ true → has_other edits n c.digest ≡ false → recipient_in m n ≡ o
    → Fits (rotated o n c m) (more edits (edit.Rotate n c))
after_rotate m edits n c None fits has alone is = absurd (true≢false (sym has ∙ sym (fits.recipients n).stands ∙ ap recipient_stands is))
after_rotate m edits n c (Some r) fits has alone is =
    let e : Edit = edit.Rotate n c in
    let st : RecipientState = record { stands = r.stands; made = r.made; credential = c } in
    let left = take_out bytes_cmp r.credential.digest m.holders in
    let left_sorted : is_sorted bytes_cmp left ≡ true = is_sorted-take_out bytes_cmp nat_list_cmp_total r.credential.digest m.holders fits.sorted.holders in
    let given : says_credential n e ≡ Some c = ap (λ b. cond b (Some c) None) (bytes_refl n) in
    let stands : has_recipient (more edits e) n ≡ true = ap (λ w. unwrap_or w false) (quiet_word (says_recipient n) edits e refl) ∙ has in
    let last : last_credential (more edits e) n ≡ Some c = new_word (says_credential n) edits e c given in
    let quiet : (q : List ℕ) → bytes_eq n q ≡ false → QuietRecipient q e = λ q apart. record {
      says = refl;
      makes = refl;
      credential = ap (λ b. cond b (Some c) None) apart;
      made = refl;
    } in
    let there : is_some (recipient_in m n) ≡ true = ap is_some is in
    let alone_in : is_other n (holder_in m c.digest) ≡ false = other m edits fits n c.digest ∙ alone in
    let own = digest_of m edits n r fits has is in
    let found = λ (digest : List ℕ).
    name_put digest c.digest n left ∙ ap (λ x. cond (bytes_eq c.digest digest) (Some n) x) (name_taken digest r.credential.digest m.holders fits.sorted.holders) in
    record {
      sorted = record {
        shares = fits.sorted.shares;
        recipients = sorted-put bytes_cmp nat_list_cmp_total n st m.recipients fits.sorted.recipients;
        tables = fits.sorted.tables;
        grants = fits.sorted.grants;
        holders = sorted-put bytes_cmp nat_list_cmp_total c.digest n left left_sorted;
      };
      shares = λ q. share_quiet edits e q _ (record { says = refl; makes = refl; made = refl }) (fits.shares q);
      recipients = set_recipient edits e n st m.recipients fits.recipients
          (record {
            stands = sym (ap recipient_stands is) ∙ (fits.recipients n).stands ∙ sym (ap (λ w. unwrap_or w false) (quiet_word (says_recipient n) edits e refl));
            times = sym (ap recipient_times is) ∙ (fits.recipients n).times ∙ sym (count_same (makes_recipient n) edits e refl);
            credential = sym last;
            known = sym there ∙ (fits.recipients n).known ∙ sym (known_same (bytes_eq n) made_recipient edits e refl);
          })
          (λ q apart. quiet q apart);
      tables = λ t. table_quiet edits e t _ _ refl (record { binds = refl; made = refl }) (fits.tables t);
      grants = λ a s.
          let life = at_name n (λ q. (recipient_stands (find bytes_cmp q (put bytes_cmp n st m.recipients)) ≡ recipient_stands (recipient_in m q)) × (recipient_times (find bytes_cmp q (put bytes_cmp n st m.recipients)) ≡ recipient_times (recipient_in m q)))
          (ap recipient_stands (name_here n st m.recipients) ∙ sym (ap recipient_stands is), ap recipient_times (name_here n st m.recipients) ∙ sym (ap recipient_times is))
          (λ q apart. (ap recipient_stands (name_there n q st m.recipients apart), ap recipient_times (name_there n q st m.recipients apart))) a in
          grant_quiet edits e a s _ _ _ refl (record { grants = refl; made = refl })
          (same_life edits a s (recipient_in m a) (find bytes_cmp a (put bytes_cmp n st m.recipients)) (share_in m s) (grant_in m a s) life.0 life.1 (fits.grants a s));
      holders = λ digest. at_name n (λ q. has_digest (more edits e) digest q ≡ is_holder q (find bytes_cmp digest (put bytes_cmp c.digest n left)))
          (digest_is (more edits e) digest n true (Some c) stands last
          ∙ held_here (bytes_eq c.digest digest) n (cond (bytes_eq r.credential.digest digest) None (holder_in m digest))
          (λ _. left_here (bytes_eq r.credential.digest digest) n (holder_in m digest) (λ differs. own digest ∙ differs))
          ∙ ap (is_holder n) (sym (found digest)))
          (λ q apart. digest_quiet edits e digest q (quiet q apart) ∙ fits.holders digest q
          ∙ left_there (bytes_eq r.credential.digest digest) q (holder_in m digest) (λ same. sole n q (holder_in m digest) (own digest ∙ same) apart)
          ∙ held_there (bytes_eq c.digest digest) n q (cond (bytes_eq r.credential.digest digest) None (holder_in m digest)) apart
          (λ same. sym (left_there (bytes_eq r.credential.digest digest) q (holder_in m digest) (λ same. sole n q (holder_in m digest) (own digest ∙ same) apart))
          ∙ no_other n q (holder_in m digest) (subst (λ d. is_other n (holder_in m d) ≡ false) (bytes_is c.digest digest same) alone_in) apart)
          ∙ ap (is_holder q) (sym (found digest)));
      locations = fits.locations ∙ distinct_quiet bytes_eq bound_location edits e refl;
      share_count = count_quiet bytes_eq made_share edits e (length m.shares) refl fits.share_count;
      recipient_count = count_put bytes_cmp nat_list_cmp_total bytes_eq made_recipient edits e n st m.recipients refl fits.sorted.recipients there fits.recipient_count;
      table_count = count_quiet is_table bound_table edits e (length m.tables) refl fits.table_count;
      grant_count = count_quiet same_pair granted_pair edits e (length m.grants) refl fits.grant_count;
    }

pub after_drop_recipient : (m : Maps) (edits : List Edit) (n : List ℕ) (o : Option RecipientState) → Fits m edits → has_recipient edits n ≡ true → recipient_in m n ≡ o
    → Fits (without_recipient o n m) (more edits (edit.DropRecipient n))
after_drop_recipient m edits n None fits has is = absurd (true≢false (sym has ∙ sym (fits.recipients n).stands ∙ ap recipient_stands is))
after_drop_recipient m edits n (Some r) fits has is =
    let e : Edit = edit.DropRecipient n in
    let st : RecipientState = record { stands = false; made = r.made; credential = r.credential } in
    let left = take_out bytes_cmp r.credential.digest m.holders in
    let word : says_recipient n e ≡ Some false = ap (λ b. cond b (Some false) None) (bytes_refl n) in
    let stands : has_recipient (more edits e) n ≡ false = ap (λ w. unwrap_or w false) (new_word (says_recipient n) edits e false word) in
    let quiet : (q : List ℕ) → bytes_eq n q ≡ false → QuietRecipient q e = λ q apart. record {
      says = ap (λ b. cond b (Some false) None) apart;
      makes = refl;
      credential = refl;
      made = refl;
    } in
    let there : is_some (recipient_in m n) ≡ true = ap is_some is in
    let times : recipient_times (recipient_in m n) ≡ r.made = ap recipient_times is in
    let ends : EndsRecipient n e (recipient_in m n) st = record {
      grant = λ r s. refl;
      ungranted = λ r s. record { grants = refl; made = refl };
      ended = λ k le. refl;
      later = subst (λ k. recipient_times (recipient_in m n) ≤ k) times (omega arith);
    } in
    let own = digest_of m edits n r fits has is in
    record {
      sorted = record {
        shares = fits.sorted.shares;
        recipients = sorted-put bytes_cmp nat_list_cmp_total n st m.recipients fits.sorted.recipients;
        tables = fits.sorted.tables;
        grants = fits.sorted.grants;
        holders = is_sorted-take_out bytes_cmp nat_list_cmp_total r.credential.digest m.holders fits.sorted.holders;
      };
      shares = λ q. share_quiet edits e q _ (record { says = refl; makes = refl; made = refl }) (fits.shares q);
      recipients = set_recipient edits e n st m.recipients fits.recipients
          (record {
            stands = sym stands;
            times = sym times ∙ (fits.recipients n).times ∙ sym (count_same (makes_recipient n) edits e refl);
            credential = sym (ap recipient_credential is) ∙ (fits.recipients n).credential ∙ sym (quiet_word (says_credential n) edits e refl);
            known = sym there ∙ (fits.recipients n).known ∙ sym (known_same (bytes_eq n) made_recipient edits e refl);
          })
          (λ q apart. quiet q apart);
      tables = λ t. table_quiet edits e t _ _ refl (record { binds = refl; made = refl }) (fits.tables t);
      grants = grants_after_recipient edits e n st m.recipients m.shares m.grants fits.grants ends;
      holders = λ digest. at_name n (λ q. has_digest (more edits e) digest q ≡ is_holder q (find bytes_cmp digest left))
          (digest_is (more edits e) digest n false (last_credential (more edits e) n) stands refl
          ∙ sym (left_here (bytes_eq r.credential.digest digest) n (holder_in m digest) (λ differs. own digest ∙ differs))
          ∙ ap (is_holder n) (sym (name_taken digest r.credential.digest m.holders fits.sorted.holders)))
          (λ q apart. digest_quiet edits e digest q (quiet q apart) ∙ fits.holders digest q
          ∙ left_there (bytes_eq r.credential.digest digest) q (holder_in m digest) (λ same. sole n q (holder_in m digest) (own digest ∙ same) apart)
          ∙ ap (is_holder q) (sym (name_taken digest r.credential.digest m.holders fits.sorted.holders)));
      locations = fits.locations ∙ distinct_quiet bytes_eq bound_location edits e refl;
      share_count = count_quiet bytes_eq made_share edits e (length m.shares) refl fits.share_count;
      recipient_count = count_put bytes_cmp nat_list_cmp_total bytes_eq made_recipient edits e n st m.recipients refl fits.sorted.recipients there fits.recipient_count;
      table_count = count_quiet is_table bound_table edits e (length m.tables) refl fits.table_count;
      grant_count = count_quiet same_pair granted_pair edits e (length m.grants) refl fits.grant_count;
    }
