-- What is held refuses what the edits refuse.
use Rattle.std.proofs.Common.{◌≡◌, ℕ, List, [], ◌∷◌, Bool, true, false, cond, ◌&&◌, not, Option, Some, None, refl, sym, ap, ◌∙◌, subst, true≢false, length, bytes_eq}
use Rattle.std.specs.Prelude.{is_some, is_none}
use Rattle.std.specs.List.{list_any}
use Rattle.std.specs.Option.{option_or}
use Rattle.share_catalog.specs.declared.credential.Credential.{Credential}
use Rattle.share_catalog.specs.declared.edit.Edit.{Edit}
use Rattle.share_catalog.specs.declared.edit.Edit.TheVariants as edit
use Rattle.share_catalog.specs.Catalogue.{distinct, first_refusal, has_digest, has_other, has_recipient, is_missing, is_holder, is_of, is_table, is_taken, is_token_taken, last_credential, limit_met, limit_passed, locations_bound, recipients_made, refusal_of, tables_bound}
use Rattle.share_catalog.specs.Fits.{Fits}
use Rattle.share_catalog.specs.Maps.{Maps, full_at, holder_in, is_other, limit_in, location_limit, missing_in, recipient_in, recipient_stands, refusal_in, taken_in, token_taken_in}
use Rattle.share_catalog.specs.declared.state.RecipientState.{RecipientState}
use Rattle.share_catalog.proofs.KeyTests.{bytes_is, bytes_refl, bytes_sym}
use Rattle.share_catalog.proofs.Words.{any-distinct, any_same}

missing : (m : Maps) (edits : List Edit) → Fits m edits → (e : Edit) → missing_in m e ≡ is_missing edits e
missing m edits fits (edit.NewShare n) = refl
missing m edits fits (edit.DropShare n) = ap not (fits.shares n).stands
missing m edits fits (edit.Bind t b) = ap not (fits.shares t.share).stands
missing m edits fits (edit.Unbind t) = ap is_none (fits.tables t).binding
missing m edits fits (edit.NewRecipient n c) = refl
missing m edits fits (edit.Rotate n c) = ap not (fits.recipients n).stands
missing m edits fits (edit.DropRecipient n) = ap not (fits.recipients n).stands
missing m edits fits (edit.Grant r s) = rw ((fits.recipients r).stands, (fits.shares s).stands) refl
missing m edits fits (edit.Revoke r s) = ap not (fits.grants r s).given

taken : (m : Maps) (edits : List Edit) → Fits m edits → (e : Edit) → taken_in m e ≡ is_taken edits e
taken m edits fits (edit.NewShare n) = (fits.shares n).stands
taken m edits fits (edit.DropShare n) = refl
taken m edits fits (edit.Bind t b) = ap is_some (fits.tables t).binding
taken m edits fits (edit.Unbind t) = refl
taken m edits fits (edit.NewRecipient n c) = (fits.recipients n).stands
taken m edits fits (edit.Rotate n c) = refl
taken m edits fits (edit.DropRecipient n) = refl
taken m edits fits (edit.Grant r s) = (fits.grants r s).given
taken m edits fits (edit.Revoke r s) = refl

-- a recipient that has a digest was made
stood : (b : Bool) (o : Option RecipientState) (c : Option Credential) (digest : List ℕ) → recipient_stands o ≡ b → is_of digest (cond b c None) ≡ true → is_some o ≡ true
stood true None c digest e h = absurd (true≢false (sym e))
stood true (Some r) c digest e h = refl
stood false o c digest e h = absurd (true≢false (sym h))

made : (m : Maps) (edits : List Edit) → Fits m edits → (digest q : List ℕ) → has_digest edits digest q ≡ true → list_any (bytes_eq q) (recipients_made edits) ≡ true
made m edits fits digest q has =
    sym (fits.recipients q).known ∙ stood (has_recipient edits q) (recipient_in m q) (last_credential edits q) digest (fits.recipients q).stands has

and_false : (b : Bool) → (b && false) ≡ false
and_false true = refl
and_false false = refl

any_never : (p : List ℕ → Bool) → ((q : List ℕ) → p q ≡ false) → (xs : List (List ℕ)) → list_any p xs ≡ false
any_never p never [] = refl
any_never p never (x ∷ xs) = rw (never x) (any_never p never xs)

alone : (h n q : List ℕ) → bytes_eq h n ≡ true → (not (bytes_eq q n) && bytes_eq h q) ≡ false
alone h n q e =
    let same : h ≡ n = bytes_is h n e in
    ap (λ x. not (bytes_eq q n) && bytes_eq x q) same ∙ ap (λ b. not b && bytes_eq n q) (bytes_sym q n) ∙ neither_way (bytes_eq n q)
  where
    neither_way : (b : Bool) → (not b && b) ≡ false
    neither_way true = refl
    neither_way false = refl

apart_case : (h n q : List ℕ) (b : Bool) → bytes_eq h q ≡ b → bytes_eq h n ≡ false → (not (bytes_eq q n) && b) ≡ b
apart_case h n q true e other = ap (λ x. not (bytes_eq x n) && true) (sym (bytes_is h q e)) ∙ ap (λ b. not b && true) other
apart_case h n q false e other = and_false (not (bytes_eq q n))

holder_case : (m : Maps) (edits : List Edit) → Fits m edits → (n digest h : List ℕ) (b : Bool) → bytes_eq h n ≡ b → holder_in m digest ≡ Some h
    → list_any (λ q. not (bytes_eq q n) && bytes_eq h q) (recipients_made edits) ≡ not b
holder_case m edits fits n digest h true e is = any_never (λ q. not (bytes_eq q n) && bytes_eq h q) (λ q. alone h n q e) (recipients_made edits)
holder_case m edits fits n digest h false e is =
    any_same (λ q. not (bytes_eq q n) && bytes_eq h q) (bytes_eq h) (λ q. apart_case h n q (bytes_eq h q) refl e) (recipients_made edits)
    ∙ made m edits fits digest h (fits.holders digest h ∙ ap (is_holder h) is ∙ bytes_refl h)

other_case : (m : Maps) (edits : List Edit) → Fits m edits → (n digest : List ℕ) (o : Option (List ℕ)) → holder_in m digest ≡ o
    → list_any (λ q. not (bytes_eq q n) && is_holder q o) (recipients_made edits) ≡ is_other n o
other_case m edits fits n digest None is = any_never (λ q. not (bytes_eq q n) && false) (λ q. and_false (not (bytes_eq q n))) (recipients_made edits)
other_case m edits fits n digest (Some h) is = holder_case m edits fits n digest h (bytes_eq h n) refl is

-- another recipient has the digest exactly where its holder is another
pub other : (m : Maps) (edits : List Edit) → Fits m edits → (n digest : List ℕ) → is_other n (holder_in m digest) ≡ has_other edits n digest
other m edits fits n digest =
    sym (other_case m edits fits n digest (holder_in m digest) refl)
    ∙ any_same (λ q. not (bytes_eq q n) && is_holder q (holder_in m digest)) (λ q. not (bytes_eq q n) && has_digest edits digest q) (λ q. ap (λ b. not (bytes_eq q n) && b) (sym (fits.holders digest q))) (recipients_made edits)

token_taken : (m : Maps) (edits : List Edit) → Fits m edits → (e : Edit) → token_taken_in m e ≡ is_token_taken edits e
token_taken m edits fits (edit.NewShare n) = refl
token_taken m edits fits (edit.DropShare n) = refl
token_taken m edits fits (edit.Bind t b) = refl
token_taken m edits fits (edit.Unbind t) = refl
token_taken m edits fits (edit.NewRecipient n c) = other m edits fits n c.digest
token_taken m edits fits (edit.Rotate n c) = other m edits fits n c.digest
token_taken m edits fits (edit.DropRecipient n) = refl
token_taken m edits fits (edit.Grant r s) = refl
token_taken m edits fits (edit.Revoke r s) = refl

same_limit : (limit : ℕ) (known known' : Bool) (count count' : ℕ) → known ≡ known' → count ≡ count' → full_at limit known count ≡ full_at limit known' count'
same_limit limit known known' count count' k c = rw (k, c) refl

at_location : (l : List ℕ) (xs : List (List ℕ)) → list_any (λ x. bytes_eq x l) (distinct bytes_eq xs) ≡ list_any (bytes_eq l) xs
at_location l xs =
    any-distinct bytes_eq (λ x. bytes_eq x l) (λ x y apart is. subst (λ z. bytes_eq x z ≡ false) (sym (bytes_is y l is)) apart) xs
    ∙ any_same (λ x. bytes_eq x l) (bytes_eq l) (λ x. bytes_sym x l) xs

-- a location is among those that are held exactly where it was bound
pub location_known : (m : Maps) (edits : List Edit) → Fits m edits → (l : List ℕ) → list_any (λ x. bytes_eq x l) m.locations ≡ list_any (bytes_eq l) (locations_bound edits)
location_known m edits fits l = ap (list_any (λ x. bytes_eq x l)) fits.locations ∙ at_location l (locations_bound edits)

limit : (m : Maps) (edits : List Edit) → Fits m edits → (e : Edit) → limit_in m e ≡ limit_passed edits e
limit m edits fits (edit.NewShare n) = same_limit 1024 _ _ _ _ (fits.shares n).known fits.share_count
limit m edits fits (edit.DropShare n) = refl
limit m edits fits (edit.Bind t b) =
    ap (λ o. option_or o (location_limit m b.location)) (same_limit 4096 _ _ _ _ (fits.tables t).known fits.table_count)
    ∙ ap (option_or (limit_met is_table 4096 t (tables_bound edits))) (same_limit 32 _ _ _ _ (location_known m edits fits b.location) (ap length fits.locations))
limit m edits fits (edit.Unbind t) = refl
limit m edits fits (edit.NewRecipient n c) = same_limit 1024 _ _ _ _ (fits.recipients n).known fits.recipient_count
limit m edits fits (edit.Rotate n c) = refl
limit m edits fits (edit.DropRecipient n) = refl
limit m edits fits (edit.Grant r s) = same_limit 16384 _ _ _ _ (fits.grants r s).known fits.grant_count
limit m edits fits (edit.Revoke r s) = refl

same_refusal : (a a' b b' c c' : Bool) (d d' : Option ℕ) → a ≡ a' → b ≡ b' → c ≡ c' → d ≡ d' → first_refusal a b c d ≡ first_refusal a' b' c' d'
same_refusal a a' b b' c c' d d' p q r s = rw (p, q, r, s) refl

-- what is held refuses an edit for the cause for which the edits before refuse it
pub refuses : (m : Maps) (edits : List Edit) → Fits m edits → (e : Edit) → refusal_in m e ≡ refusal_of edits e
refuses m edits fits e = same_refusal _ _ _ _ _ _ _ _ (missing m edits fits e) (taken m edits fits e) (token_taken m edits fits e) (limit m edits fits e)
