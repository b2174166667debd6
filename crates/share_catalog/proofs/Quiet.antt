-- What an edit leaves as it was of a thing of which it doesn't speak.
use Rattle.std.proofs.Common.{◌≡◌, ℕ, ◌+◌, List, Bool, true, false, cond, Option, Some, None, refl, sym, ap, ◌∙◌, length, bytes_eq}
use Rattle.std.specs.Prelude.{unwrap_or, filter_map, is_some}
use Rattle.std.specs.List.{list_any}
use Rattle.std.specs.Cmp.{IsTotalOrder}
use Rattle.std.specs.declared.cmp.Ordering.{Ordering}
use Rattle.std.specs.FinMap.Entries.{find, put, is_sorted}
use Rattle.share_catalog.specs.declared.credential.Credential.{Credential}
use Rattle.share_catalog.specs.declared.table_name.TableName.{TableName}
use Rattle.share_catalog.specs.declared.edit.Edit.{Edit}
use Rattle.share_catalog.specs.declared.state.ShareState.{ShareState}
use Rattle.share_catalog.specs.declared.state.RecipientState.{RecipientState}
use Rattle.share_catalog.specs.declared.state.TableState.{TableState}
use Rattle.share_catalog.specs.declared.state.GrantState.{GrantState}
use Rattle.share_catalog.specs.Catalogue.{binds_table, bound_table, distinct, granted_pair, grants_pair, has_digest, has_recipient, is_of, is_table, last_credential, made_recipient, made_share, same_pair, says_binding, says_credential, says_grant, says_recipient, says_share}
use Rattle.share_catalog.specs.Fits.{GrantFits, RecipientFits, ShareFits, TableFits, makes_recipient, makes_share}
use Rattle.share_catalog.proofs.SortedLemmas.{put_length}
use Rattle.share_catalog.proofs.Words.{any_in, count_same, distinct_length, known_same, made_more, made_same, more, quiet_word}

pub record QuietShare (q : List ℕ) (e : Edit) : Type 0 where
  pub says : says_share q e ≡ None
  pub makes : makes_share q e ≡ false
  pub made : any_in (bytes_eq q) (made_share e) ≡ false

pub share_quiet : (edits : List Edit) (e : Edit) (q : List ℕ) (o : Option ShareState) → QuietShare q e → ShareFits edits q o → ShareFits (more edits e) q o
share_quiet edits e q o quiet fits = record {
  stands = fits.stands ∙ sym (ap (λ w. unwrap_or w false) (quiet_word (says_share q) edits e quiet.says));
  times = fits.times ∙ sym (count_same (makes_share q) edits e quiet.makes);
  known = fits.known ∙ sym (known_same (bytes_eq q) made_share edits e quiet.made);
}

pub record QuietRecipient (q : List ℕ) (e : Edit) : Type 0 where
  pub says : says_recipient q e ≡ None
  pub makes : makes_recipient q e ≡ false
  pub credential : says_credential q e ≡ None
  pub made : any_in (bytes_eq q) (made_recipient e) ≡ false

pub recipient_quiet : (edits : List Edit) (e : Edit) (q : List ℕ) (o : Option RecipientState) → QuietRecipient q e → RecipientFits edits q o → RecipientFits (more edits e) q o
recipient_quiet edits e q o quiet fits = record {
  stands = fits.stands ∙ sym (ap (λ w. unwrap_or w false) (quiet_word (says_recipient q) edits e quiet.says));
  times = fits.times ∙ sym (count_same (makes_recipient q) edits e quiet.makes);
  credential = fits.credential ∙ sym (quiet_word (says_credential q) edits e quiet.credential);
  known = fits.known ∙ sym (known_same (bytes_eq q) made_recipient edits e quiet.made);
}

pub digest_same : (digest : List ℕ) (b b' : Bool) (c c' : Option Credential) → b ≡ b' → c ≡ c' → is_of digest (cond b c None) ≡ is_of digest (cond b' c' None)
digest_same digest b b' c c' p q = rw (p, q) refl

pub digest_quiet : (edits : List Edit) (e : Edit) (digest q : List ℕ) → QuietRecipient q e → has_digest (more edits e) digest q ≡ has_digest edits digest q
digest_quiet edits e digest q quiet =
    digest_same digest (has_recipient (more edits e) q) (has_recipient edits q) (last_credential (more edits e) q) (last_credential edits q)
    (ap (λ w. unwrap_or w false) (quiet_word (says_recipient q) edits e quiet.says)) (quiet_word (says_credential q) edits e quiet.credential)

-- an edit that doesn't bind the table
pub record UnboundBy (t : TableName) (e : Edit) : Type 0 where
  pub binds : binds_table t e ≡ false
  pub made : any_in (is_table t) (bound_table e) ≡ false

pub table_quiet : (edits : List Edit) (e : Edit) (t : TableName) (so : Option ShareState) (o : Option TableState) → says_binding t e ≡ None → UnboundBy t e → TableFits edits t so o
    → TableFits (more edits e) t so o
table_quiet edits e t so o says quiet fits = record {
  binding = fits.binding ∙ sym (ap (λ w. unwrap_or w None) (quiet_word (says_binding t) edits e says));
  edition = fits.edition ∙ sym (count_same (binds_table t) edits e quiet.binds);
  made = fits.made;
  known = fits.known ∙ sym (known_same (is_table t) bound_table edits e quiet.made);
}

-- an edit that doesn't grant the pair
pub record UngrantedBy (r s : List ℕ) (e : Edit) : Type 0 where
  pub grants : grants_pair r s e ≡ false
  pub made : any_in (same_pair (r, s)) (granted_pair e) ≡ false

pub grant_quiet : (edits : List Edit) (e : Edit) (r s : List ℕ) (ro : Option RecipientState) (so : Option ShareState) (o : Option GrantState) → says_grant r s e ≡ None → UngrantedBy r s e
    → GrantFits edits r s ro so o → GrantFits (more edits e) r s ro so o
grant_quiet edits e r s ro so o says quiet fits = record {
  given = fits.given ∙ sym (ap (λ w. unwrap_or w false) (quiet_word (says_grant r s) edits e says));
  edition = fits.edition ∙ sym (count_same (grants_pair r s) edits e quiet.grants);
  recipient_made = fits.recipient_made;
  share_made = fits.share_made;
  known = fits.known ∙ sym (known_same (same_pair (r, s)) granted_pair edits e quiet.made);
}

pub distinct_quiet : {X : Type 0} (eq : X → X → Bool) (f : Edit → Option X) (edits : List Edit) (e : Edit) → f e ≡ None → distinct eq (filter_map f edits) ≡ distinct eq (filter_map f (more edits e))
distinct_quiet eq f edits e none = ap (distinct eq) (sym (made_same f edits e none))

-- a list of entries is as long as before where the edit makes nothing new
pub count_quiet : {X : Type 0} (eq : X → X → Bool) (f : Edit → Option X) (edits : List Edit) (e : Edit) (n : ℕ) → f e ≡ None → n ≡ length (distinct eq (filter_map f edits))
    → n ≡ length (distinct eq (filter_map f (more edits e)))
count_quiet eq f edits e n none is = is ∙ ap length (distinct_quiet eq f edits e none)

count_case : (b b' : Bool) (n n' : ℕ) → b ≡ b' → n ≡ n' → cond b n (n + 1) ≡ cond b' n' (n' + 1)
count_case b b' n n' p q = rw (p, q) refl

-- and longer by one where it makes a new one
pub count_made : {K V X : Type 0} (R : K → K → Ordering) → IsTotalOrder R → (eq : X → X → Bool) → ((x y : X) → eq x y ≡ eq y x) → (f : Edit → Option X) (edits : List Edit) (e : Edit) (x : X) (k : K) (v : V) (es : List (K × V))
    → f e ≡ Some x → is_sorted R es ≡ true → is_some (find R k es) ≡ list_any (eq x) (filter_map f edits) → length es ≡ length (distinct eq (filter_map f edits))
    → length (put R k v es) ≡ length (distinct eq (filter_map f (more edits e)))
count_made R o eq symmetric f edits e x k v es some sorted known is =
    put_length R o k v es sorted
    ∙ count_case (is_some (find R k es)) (list_any (eq x) (filter_map f edits)) (length es) (length (distinct eq (filter_map f edits))) known is
    ∙ sym (distinct_length eq symmetric (filter_map f edits) x)
    ∙ ap (λ xs. length (distinct eq xs)) (sym (made_more f edits e x some))

-- a value that is put at a key that is there leaves the length
pub count_put : {K V X : Type 0} (R : K → K → Ordering) → IsTotalOrder R → (eq : X → X → Bool) (f : Edit → Option X) (edits : List Edit) (e : Edit) (k : K) (v : V) (es : List (K × V))
    → f e ≡ None → is_sorted R es ≡ true → is_some (find R k es) ≡ true → length es ≡ length (distinct eq (filter_map f edits))
    → length (put R k v es) ≡ length (distinct eq (filter_map f (more edits e)))
count_put R o eq f edits e k v es none sorted there is =
    put_length R o k v es sorted ∙ ap (λ b. cond b (length es) (length es + 1)) there ∙ count_quiet eq f edits e (length es) none is
