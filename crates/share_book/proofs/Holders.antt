-- Who holds a digest, in edits of which none was refused.
use Rattle.std.proofs.Common.{◌≡◌, ◌≢◌, ℕ, List, [], ◌∷◌, ◌++◌, Bool, true, false, cond, Option, Some, None, refl, sym, ap, ◌∙◌, subst, bytes_eq, true≢false, arith}
use Rattle.std.specs.Prelude.{unwrap_or}
use Rattle.std.specs.Option.{IfSome}
use Rattle.share_catalog.specs.Catalogue.{IsHolder, has_digest, is_holder, is_of, last_credential, last_word, refusal_of, says_credential, says_recipient}
use Rattle.share_catalog.specs.Fits.{Fits}
use Rattle.share_catalog.specs.Maps.{Maps, after, holder_in}
use Rattle.share_catalog.specs.Views.{name_of, token}
use Rattle.share_catalog.specs.declared.credential.Credential.{Credential}
use Rattle.share_catalog.specs.declared.edit.Edit.{Edit}
use Rattle.share_catalog.specs.declared.edit.Edit.TheVariants as edit
use Rattle.share_catalog.proofs.After.{fits_after}
use Rattle.share_catalog.proofs.HolderLemmas.{holders_are_found}
use Rattle.share_catalog.proofs.KeyTests.{bytes_is, bytes_refl}
use Rattle.share_catalog.proofs.Words.{last_word-more, latest}

-- ---- each digest has one holder

abbrev nothing_held : Maps
nothing_held = record { shares = []; recipients = []; tables = []; grants = []; holders = []; locations = [] }

fits_nothing : Fits nothing_held []
fits_nothing = record {
  sorted = record { shares = refl; recipients = refl; tables = refl; grants = refl; holders = refl };
  shares = λ q. record { stands = refl; times = refl; known = refl };
  recipients = λ q. record { stands = refl; times = refl; credential = refl; known = refl };
  tables = λ t. record { binding = refl; edition = refl; made = omega arith; known = refl };
  grants = λ r s. record { given = refl; edition = refl; recipient_made = omega arith; share_made = omega arith; known = refl };
  holders = λ digest n. refl;
  locations = refl;
  share_count = refl;
  recipient_count = refl;
  table_count = refl;
  grant_count = refl;
}

-- what is held after edits of which none was refused
abbrev pub Held : List Edit → Type 0
Held edits = (m : Maps) × Fits m edits

pub held_nothing : Held []
held_nothing = (nothing_held, fits_nothing)

pub held_more : (edits : List Edit) (x : Edit) → Held edits → refusal_of edits x ≡ None → Held (edits ++ x ∷ [])
held_more edits x (m, fits) accepted = (after m x, fits_after m edits x fits accepted)

-- a token finds the one recipient that holds its digest
holder : (edits : List Edit) (digest : List ℕ) → Held edits → IsHolder edits digest (name_of edits (token digest))
holder edits digest (m, fits) = subst (IsHolder edits digest) (sym (holders_are_found edits digest (holder_in m digest) (fits.holders digest))) (fits.holders digest)

pub holds_found : (edits : List Edit) (digest r : List ℕ) → Held edits → name_of edits (token digest) ≡ Some r → has_digest edits digest r ≡ true
holds_found edits digest r held found = holder edits digest held r ∙ ap (is_holder r) found ∙ bytes_refl r

is_found : (r : List ℕ) (o : Option (List ℕ)) → is_holder r o ≡ true → o ≡ Some r
is_found r None is = absurd (true≢false (sym is))
is_found r (Some m) is = ap Some (bytes_is m r is)

pub finds_holder : (edits : List Edit) (digest r : List ℕ) → Held edits → has_digest edits digest r ≡ true → name_of edits (token digest) ≡ Some r
finds_holder edits digest r held has = is_found r (name_of edits (token digest)) (sym (holder edits digest held r) ∙ has)

pub holds_nobody : (edits : List Edit) (digest r : List ℕ) → Held edits → name_of edits (token digest) ≡ None → has_digest edits digest r ≡ true → ⊥
holds_nobody edits digest r held none has = true≢false (sym has ∙ (holder edits digest held r ∙ ap (is_holder r) none))

-- ---- the digest of a credential

pub digest_of : (digest : List ℕ) (o : Option Credential) → is_of digest o ≡ true → (c : Credential) × (o ≡ Some c) × (c.digest ≡ digest)
digest_of digest None is = absurd (true≢false (sym is))
digest_of digest (Some c) is = (c, refl, bytes_is c.digest digest is)

-- ---- an edit that gives nobody the digest

no_digest : (digest : List ℕ) (c : Credential) (b : Bool) → c.digest ≢ digest → bytes_eq c.digest digest ≡ b → b ≡ false
no_digest digest c true other is = absurd (other (bytes_is c.digest digest is))
no_digest digest c false other is = refl

given_none : (digest : List ℕ) (c : Credential) (b : Bool) → c.digest ≢ digest → is_of digest (cond b (Some c) None) ≡ false
given_none digest c true other = no_digest digest c (bytes_eq c.digest digest) other refl
given_none digest c false other = refl

-- an edit that makes a recipient gives it a credential
made_with : (r : List ℕ) (x : Edit) → says_recipient r x ≡ Some true → says_credential r x ≡ None → ⊥
made_with r (edit.NewShare n) made none = absurd cc
made_with r (edit.DropShare n) made none = absurd cc
made_with r (edit.Bind t b) made none = absurd cc
made_with r (edit.Unbind t) made none = absurd cc
made_with r (edit.NewRecipient n c) made none =
    elim (bytes_eq n r) as (λ b. cond b (Some true) None ≡ Some true → cond b (Some c) None ≡ None → ⊥) [ true ↦ λ p q. absurd cc | false ↦ λ p q. absurd cc ] made none
made_with r (edit.Rotate n c) made none = absurd cc
made_with r (edit.DropRecipient n) made none = elim (bytes_eq n r) as (λ b. cond b (Some false) None ≡ Some true → ⊥) [ true ↦ λ p. absurd cc | false ↦ λ p. absurd cc ] made
made_with r (edit.Grant n s) made none = absurd cc
made_with r (edit.Revoke n s) made none = absurd cc

had_before : (digest : List ℕ) (recipient word : Option Bool) (given last : Option Credential) → IfSome given (λ c. c.digest ≢ digest) → (recipient ≡ Some true → given ≡ None → ⊥)
    → is_of digest (cond (unwrap_or (latest recipient word) false) (latest given last) None) ≡ true → is_of digest (cond (unwrap_or word false) last None) ≡ true
had_before digest recipient word (Some c) last other made has = absurd (true≢false (sym has ∙ given_none digest c (unwrap_or (latest recipient word) false) other))
had_before digest None word None last other made has = has
had_before digest (Some true) word None last other made has = absurd (made refl refl)
had_before digest (Some false) word None last other made has = absurd (true≢false (sym has))

-- who holds a digest that the edit gives nobody held it before
pub held_before : (edits : List Edit) (x : Edit) (digest r : List ℕ) → IfSome (says_credential r x) (λ c. c.digest ≢ digest) → has_digest (edits ++ x ∷ []) digest r ≡ true → has_digest edits digest r ≡ true
held_before edits x digest r other has =
    had_before digest (says_recipient r x) (last_word (says_recipient r) edits) (says_credential r x) (last_credential edits r) other (made_with r x)
    ((λ i. is_of digest (cond (unwrap_or (sym (last_word-more (says_recipient r) edits x) i) false) (sym (last_word-more (says_credential r) edits x) i) None)) ∙ has)
