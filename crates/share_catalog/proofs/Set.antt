-- What a new state at one key leaves.
use Rattle.std.proofs.Common.{◌≡◌, ℕ, ◌+◌, ◌≤◌, List, Bool, true, false, cond, ◌&&◌, Option, Some, None, refl, sym, ap, ◌∙◌, subst, bytes_eq, arith}
use Rattle.std.specs.Prelude.{unwrap_or, ◌==◌}
use Rattle.std.specs.FinMap.Entries.{find, put}
use Rattle.std.proofs.lemmas.Bool.Decides.{nat_tests}
use Rattle.share_catalog.specs.declared.table_name.TableName.{TableName}
use Rattle.share_catalog.specs.declared.edit.Binding.{Binding}
use Rattle.share_catalog.specs.declared.edit.Edit.{Edit}
use Rattle.share_catalog.specs.declared.state.ShareState.{ShareState}
use Rattle.share_catalog.specs.declared.state.RecipientState.{RecipientState}
use Rattle.share_catalog.specs.declared.state.TableState.{TableState}
use Rattle.share_catalog.specs.declared.state.GrantState.{GrantState}
use Rattle.share_catalog.specs.Catalogue.{binds_table, bound_table, granted_pair, grants_pair, is_pair, is_table, says_binding, says_grant}
use Rattle.share_catalog.specs.Entries.{texts}
use Rattle.share_catalog.specs.Fits.{GrantFits, RecipientFits, ShareFits, TableFits}
use Rattle.share_catalog.specs.Maps.{bytes_cmp, grant_recipient_made, grant_share_made, is_granted, recipient_stands, recipient_times, share_stands, share_times, since, table_binding, table_made}
use Rattle.share_catalog.specs.TableNames.{parts_of, texts_cmp}
use Rattle.share_catalog.proofs.KeyTests.{bytes_is, bytes_refl, name_put, pair_is, pair_put, pair_refl, table_is, table_put, table_refl}
use Rattle.share_catalog.proofs.Quiet.{QuietRecipient, QuietShare, UnboundBy, UngrantedBy, grant_quiet, recipient_quiet, share_quiet, table_quiet}
use Rattle.share_catalog.proofs.Words.{count_same, known_same, more, new_word}

-- what holds at a name and at each other holds at all
pub at_name : (n : List ℕ) (P : List ℕ → Type 0) → P n → ((q : List ℕ) → bytes_eq n q ≡ false → P q) → (q : List ℕ) → P q
at_name n P here there q = elim (bytes_eq n q) as (λ b. bytes_eq n q ≡ b → P q) [ true ↦ λ e. subst P (bytes_is n q e) here | false ↦ λ e. there q e ] refl

pub at_table : (n : TableName) (P : TableName → Type 0) → P n → ((q : TableName) → is_table n q ≡ false → P q) → (q : TableName) → P q
at_table n P here there q = elim (is_table n q) as (λ b. is_table n q ≡ b → P q) [ true ↦ λ e. subst P (table_is n q e) here | false ↦ λ e. there q e ] refl

pub at_pair : (a b : List ℕ) (P : List ℕ → List ℕ → Type 0) → P a b → ((r s : List ℕ) → is_pair a b r s ≡ false → P r s) → (r s : List ℕ) → P r s
at_pair a b P here there r s = elim (is_pair a b r s) as (λ x. is_pair a b r s ≡ x → P r s) [
  | true ↦ λ e. let p = pair_is a b r s e in subst (λ y. P r y) p.1 (subst (λ x. P x b) p.0 here)
  | false ↦ λ e. there r s e
] refl

pub name_here : {V : Type 0} (n : List ℕ) (v : V) (es : List (List ℕ × V)) → find bytes_cmp n (put bytes_cmp n v es) ≡ Some v
name_here n v es = name_put n n v es ∙ ap (λ b. cond b (Some v) (find bytes_cmp n es)) (bytes_refl n)

pub name_there : {V : Type 0} (n q : List ℕ) (v : V) (es : List (List ℕ × V)) → bytes_eq n q ≡ false → find bytes_cmp q (put bytes_cmp n v es) ≡ find bytes_cmp q es
name_there n q v es e = name_put q n v es ∙ ap (λ b. cond b (Some v) (find bytes_cmp q es)) e

pub table_here : {V : Type 0} (n : TableName) (v : V) (es : List (List (List ℕ) × V)) → find texts_cmp (parts_of n) (put texts_cmp (parts_of n) v es) ≡ Some v
table_here n v es = table_put n n v es ∙ ap (λ b. cond b (Some v) (find texts_cmp (parts_of n) es)) (table_refl n)

pub table_there : {V : Type 0} (n q : TableName) (v : V) (es : List (List (List ℕ) × V)) → is_table n q ≡ false → find texts_cmp (parts_of q) (put texts_cmp (parts_of n) v es) ≡ find texts_cmp (parts_of q) es
table_there n q v es e = table_put q n v es ∙ ap (λ b. cond b (Some v) (find texts_cmp (parts_of q) es)) e

pub pair_here : {V : Type 0} (a b : List ℕ) (v : V) (es : List (List (List ℕ) × V)) → find texts_cmp (texts a b) (put texts_cmp (texts a b) v es) ≡ Some v
pair_here a b v es = pair_put a b a b v es ∙ ap (λ x. cond x (Some v) (find texts_cmp (texts a b) es)) (pair_refl a b)

pub pair_there : {V : Type 0} (a b r s : List ℕ) (v : V) (es : List (List (List ℕ) × V)) → is_pair a b r s ≡ false → find texts_cmp (texts r s) (put texts_cmp (texts a b) v es) ≡ find texts_cmp (texts r s) es
pair_there a b r s v es e = pair_put r s a b v es ∙ ap (λ x. cond x (Some v) (find texts_cmp (texts r s) es)) e

-- shares after one got a new state
pub set_share : (edits : List Edit) (e : Edit) (n : List ℕ) (st : ShareState) (es : List (List ℕ × ShareState))
    → ((q : List ℕ) → ShareFits edits q (find bytes_cmp q es)) → ShareFits (more edits e) n (Some st)
    → ((q : List ℕ) → bytes_eq n q ≡ false → QuietShare q e)
    → (q : List ℕ) → ShareFits (more edits e) q (find bytes_cmp q (put bytes_cmp n st es))
set_share edits e n st es fits here quiet = at_name n (λ q. ShareFits (more edits e) q (find bytes_cmp q (put bytes_cmp n st es)))
    (subst (ShareFits (more edits e) n) (sym (name_here n st es)) here)
    (λ q other. subst (ShareFits (more edits e) q) (sym (name_there n q st es other)) (share_quiet edits e q (find bytes_cmp q es) (quiet q other) (fits q)))

pub set_recipient : (edits : List Edit) (e : Edit) (n : List ℕ) (st : RecipientState) (es : List (List ℕ × RecipientState))
    → ((q : List ℕ) → RecipientFits edits q (find bytes_cmp q es)) → RecipientFits (more edits e) n (Some st)
    → ((q : List ℕ) → bytes_eq n q ≡ false → QuietRecipient q e)
    → (q : List ℕ) → RecipientFits (more edits e) q (find bytes_cmp q (put bytes_cmp n st es))
set_recipient edits e n st es fits here quiet = at_name n (λ q. RecipientFits (more edits e) q (find bytes_cmp q (put bytes_cmp n st es)))
    (subst (RecipientFits (more edits e) n) (sym (name_here n st es)) here)
    (λ q other. subst (RecipientFits (more edits e) q) (sym (name_there n q st es other)) (recipient_quiet edits e q (find bytes_cmp q es) (quiet q other) (fits q)))

gone : (b : Bool) (x : Option Binding) → b ≡ false → cond b x None ≡ None
gone b x e = rw e refl

-- a table whose share was made or dropped
table_ended : (edits : List Edit) (e : Edit) (t : TableName) (so : Option ShareState) (st : ShareState) (o : Option TableState)
    → says_binding t e ≡ Some None → UnboundBy t e → since st.stands st.made (table_made o) ≡ false → share_times so ≤ st.made
    → TableFits edits t so o → TableFits (more edits e) t (Some st) o
table_ended edits e t so st o says quiet ended later fits = record {
  binding = gone (since st.stands st.made (table_made o)) (table_binding o) ended ∙ sym (ap (λ w. unwrap_or w None) (new_word (says_binding t) edits e None says));
  edition = fits.edition ∙ sym (count_same (binds_table t) edits e quiet.binds);
  made = omega (arith, fits.made, later);
  known = fits.known ∙ sym (known_same (is_table t) bound_table edits e quiet.made);
}

grant_ended : (edits : List Edit) (e : Edit) (r s : List ℕ) (ro ro' : Option RecipientState) (so so' : Option ShareState) (o : Option GrantState)
    → says_grant r s e ≡ Some false → UngrantedBy r s e
    → (since (recipient_stands ro') (recipient_times ro') (grant_recipient_made o) && since (share_stands so') (share_times so') (grant_share_made o)) ≡ false
    → recipient_times ro ≤ recipient_times ro' → share_times so ≤ share_times so'
    → GrantFits edits r s ro so o → GrantFits (more edits e) r s ro' so' o
grant_ended edits e r s ro ro' so so' o says quiet ended later later' fits = record {
  given = ap (λ b. is_granted o && b) ended ∙ and_false (is_granted o) ∙ sym (ap (λ w. unwrap_or w false) (new_word (says_grant r s) edits e false says));
  edition = fits.edition ∙ sym (count_same (grants_pair r s) edits e quiet.grants);
  recipient_made = omega (arith, fits.recipient_made, later);
  share_made = omega (arith, fits.share_made, later');
  known = fits.known ∙ sym (known_same _ granted_pair edits e quiet.made);
}
  where
    and_false : (b : Bool) → (b && false) ≡ false
    and_false true = refl
    and_false false = refl

-- an edit that makes or drops a share, which then has a state that nothing of before stands on
pub record EndsShare (n : List ℕ) (e : Edit) (so : Option ShareState) (st : ShareState) : Type 0 where
  pub binding : (t : TableName) → says_binding t e ≡ cond (bytes_eq n t.share) (Some None) None
  pub unbound : (t : TableName) → UnboundBy t e
  pub grant : (r s : List ℕ) → says_grant r s e ≡ cond (bytes_eq n s) (Some false) None
  pub ungranted : (r s : List ℕ) → UngrantedBy r s e
  pub ended : (k : ℕ) → k ≤ share_times so → since st.stands st.made k ≡ false
  pub later : share_times so ≤ st.made

pub tables_after_share : (edits : List Edit) (e : Edit) (n : List ℕ) (st : ShareState) (es : List (List ℕ × ShareState)) (ts : List (List (List ℕ) × TableState))
    → ((t : TableName) → TableFits edits t (find bytes_cmp t.share es) (find texts_cmp (parts_of t) ts))
    → EndsShare n e (find bytes_cmp n es) st
    → (t : TableName) → TableFits (more edits e) t (find bytes_cmp t.share (put bytes_cmp n st es)) (find texts_cmp (parts_of t) ts)
tables_after_share edits e n st es ts fits ends t =
    let o = find texts_cmp (parts_of t) ts in
    elim (bytes_eq n t.share) as (λ b. bytes_eq n t.share ≡ b → TableFits (more edits e) t (find bytes_cmp t.share (put bytes_cmp n st es)) o) [
      | true ↦ λ is.
          let same : n ≡ t.share = bytes_is n t.share is in
          let ended : EndsShare n e (find bytes_cmp t.share es) st = subst (λ x. EndsShare n e (find bytes_cmp x es) st) same ends in
          subst (λ x. TableFits (more edits e) t x o) (sym (name_put t.share n st es ∙ ap (λ b. cond b (Some st) (find bytes_cmp t.share es)) is))
          (table_ended edits e t (find bytes_cmp t.share es) st o (ends.binding t ∙ ap (λ b. cond b (Some None) None) is) (ends.unbound t)
          (ended.ended (table_made o) (fits t).made) ended.later (fits t))
      | false ↦ λ is.
          subst (λ x. TableFits (more edits e) t x o) (sym (name_there n t.share st es is))
          (table_quiet edits e t (find bytes_cmp t.share es) o (ends.binding t ∙ ap (λ b. cond b (Some None) None) is) (ends.unbound t) (fits t))
    ] refl

second_false : (a b : Bool) → b ≡ false → (a && b) ≡ false
second_false true b e = e
second_false false b e = refl

first_false : (a b : Bool) → a ≡ false → (a && b) ≡ false
first_false a b e = rw e refl

pub grants_after_share : (edits : List Edit) (e : Edit) (n : List ℕ) (st : ShareState) (rs : List (List ℕ × RecipientState)) (es : List (List ℕ × ShareState)) (gs : List (List (List ℕ) × GrantState))
    → ((r s : List ℕ) → GrantFits edits r s (find bytes_cmp r rs) (find bytes_cmp s es) (find texts_cmp (texts r s) gs))
    → EndsShare n e (find bytes_cmp n es) st
    → (r s : List ℕ) → GrantFits (more edits e) r s (find bytes_cmp r rs) (find bytes_cmp s (put bytes_cmp n st es)) (find texts_cmp (texts r s) gs)
grants_after_share edits e n st rs es gs fits ends r s =
    let o = find texts_cmp (texts r s) gs in
    let ro = find bytes_cmp r rs in
    elim (bytes_eq n s) as (λ b. bytes_eq n s ≡ b → GrantFits (more edits e) r s ro (find bytes_cmp s (put bytes_cmp n st es)) o) [
      | true ↦ λ is.
          let same : n ≡ s = bytes_is n s is in
          let ended : EndsShare n e (find bytes_cmp s es) st = subst (λ x. EndsShare n e (find bytes_cmp x es) st) same ends in
          subst (λ x. GrantFits (more edits e) r s ro x o) (sym (name_put s n st es ∙ ap (λ b. cond b (Some st) (find bytes_cmp s es)) is))
          (grant_ended edits e r s ro ro (find bytes_cmp s es) (Some st) o (ends.grant r s ∙ ap (λ b. cond b (Some false) None) is) (ends.ungranted r s)
          (second_false (since (recipient_stands ro) (recipient_times ro) (grant_recipient_made o)) (since st.stands st.made (grant_share_made o))
          (ended.ended (grant_share_made o) (fits r s).share_made)) (omega arith) ended.later (fits r s))
      | false ↦ λ is.
          subst (λ x. GrantFits (more edits e) r s ro x o) (sym (name_there n s st es is))
          (grant_quiet edits e r s ro (find bytes_cmp s es) o (ends.grant r s ∙ ap (λ b. cond b (Some false) None) is) (ends.ungranted r s) (fits r s))
    ] refl

-- an edit that makes or drops a recipient, which then has a state that nothing of before stands on
pub record EndsRecipient (n : List ℕ) (e : Edit) (ro : Option RecipientState) (st : RecipientState) : Type 0 where
  pub grant : (r s : List ℕ) → says_grant r s e ≡ cond (bytes_eq n r) (Some false) None
  pub ungranted : (r s : List ℕ) → UngrantedBy r s e
  pub ended : (k : ℕ) → k ≤ recipient_times ro → since st.stands st.made k ≡ false
  pub later : recipient_times ro ≤ st.made

pub grants_after_recipient : (edits : List Edit) (e : Edit) (n : List ℕ) (st : RecipientState) (rs : List (List ℕ × RecipientState)) (es : List (List ℕ × ShareState)) (gs : List (List (List ℕ) × GrantState))
    → ((r s : List ℕ) → GrantFits edits r s (find bytes_cmp r rs) (find bytes_cmp s es) (find texts_cmp (texts r s) gs))
    → EndsRecipient n e (find bytes_cmp n rs) st
    → (r s : List ℕ) → GrantFits (more edits e) r s (find bytes_cmp r (put bytes_cmp n st rs)) (find bytes_cmp s es) (find texts_cmp (texts r s) gs)
grants_after_recipient edits e n st rs es gs fits ends r s =
    let o = find texts_cmp (texts r s) gs in
    let so = find bytes_cmp s es in
    elim (bytes_eq n r) as (λ b. bytes_eq n r ≡ b → GrantFits (more edits e) r s (find bytes_cmp r (put bytes_cmp n st rs)) so o) [
      | true ↦ λ is.
          let same : n ≡ r = bytes_is n r is in
          let ended : EndsRecipient n e (find bytes_cmp r rs) st = subst (λ x. EndsRecipient n e (find bytes_cmp x rs) st) same ends in
          subst (λ x. GrantFits (more edits e) r s x so o) (sym (name_put r n st rs ∙ ap (λ b. cond b (Some st) (find bytes_cmp r rs)) is))
          (grant_ended edits e r s (find bytes_cmp r rs) (Some st) so so o (ends.grant r s ∙ ap (λ b. cond b (Some false) None) is) (ends.ungranted r s)
          (first_false (since st.stands st.made (grant_recipient_made o)) (since (share_stands so) (share_times so) (grant_share_made o))
          (ended.ended (grant_recipient_made o) (fits r s).recipient_made)) ended.later (omega arith) (fits r s))
      | false ↦ λ is.
          subst (λ x. GrantFits (more edits e) r s x so o) (sym (name_there n r st rs is))
          (grant_quiet edits e r s (find bytes_cmp r rs) so o (ends.grant r s ∙ ap (λ b. cond b (Some false) None) is) (ends.ungranted r s) (fits r s))
    ] refl

not_same : (k n : ℕ) → k ≤ n → (n + 1 == k) ≡ false
not_same k n le = grind (arith, nat_tests, le)

-- what was made once more is not as it was
pub made_again : (k n : ℕ) → k ≤ n → since true (n + 1) k ≡ false
made_again k n le = not_same k n le
