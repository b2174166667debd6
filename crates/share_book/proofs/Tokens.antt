-- What a token finds, and what it shows.
use Rattle.std.proofs.Common.{◌≡◌, ℕ, List, [], ◌∷◌, ◌++◌, true, Option, Some, None, option_map, option_and_then, refl, sym, ap, ◌∙◌, subst, append_assoc, bytes_eq, true≢false}
use Rattle.std.specs.Option.{IfSome}
use Rattle.std.proofs.lemmas.List.{append-nil}
use Rattle.share_catalog.specs.Catalogue.{credential, has_digest, is_of, refusal_of}
use Rattle.share_catalog.specs.Views.{name_of, named, token}
use Rattle.share_catalog.specs.Views as catalog
use Rattle.share_catalog.specs.declared.credential.Credential.{Credential}
use Rattle.share_catalog.specs.declared.edit.Edit.{Edit}
use Rattle.share_catalog.proofs.KeyTests.{bytes_is, bytes_refl}
use Rattle.share_book.specs.History.{edit_in, edit_of, edits}
use Rattle.share_book.specs.Laws.{Finds, GivesNobody, TokensShowViews}
use Rattle.share_book.specs.Legal.{Fits, IsLegal, May, There}
use Rattle.share_book.specs.Views.{log_at, shown, view_by, view_with}
use Rattle.share_book.specs.declared.entry.Act.{Act}
use Rattle.share_book.specs.declared.entry.Act.TheVariants.{Begin, Own, Found, OwnEdit, FoundEdit, Load, Blocked, Abort}
use Rattle.share_book.specs.declared.entry.Entry.{Entry}
use Rattle.share_book.proofs.Foreign.{book_views_are_shown, credential_by, foreign_entries_leave_views}
use Rattle.share_book.proofs.Holders.{Held, digest_of, finds_holder, held_before, held_more, held_nothing, holds_found, holds_nobody}
use Rattle.share_book.proofs.Words.{legal_front, loud, quiet}

-- ---- no edit of a legal history was refused

edit_fits : (h : List Entry) (k j : ℕ) (a : Act) (x : Edit) → edit_of a ≡ Some x → Fits h k j a → refusal_of (edits h) x ≡ None
edit_fits h k j Begin x is f = absurd cc
edit_fits h k j (Own c) x is f = absurd cc
edit_fits h k j (Found c) x is f = absurd cc
edit_fits h k j (OwnEdit e) x is f = let same : e ≡ x = cc in subst (λ (y : Edit). refusal_of (edits h) y ≡ None) same f.1.1
edit_fits h k j (FoundEdit e) x is f = let same : e ≡ x = cc in subst (λ (y : Edit). refusal_of (edits h) y ≡ None) same f.1.1
edit_fits h k j (Load s) x is f = absurd cc
edit_fits h k j (Blocked n) x is f = absurd cc
edit_fits h k j Abort x is f = absurd cc

held_step : (h : List Entry) (e : Entry) (o : Option Edit) → edit_in e ≡ o → May h e → Held (edits h) → Held (edits (h ++ e ∷ []))
held_step h e None is may held = subst Held (sym (quiet edit_in h e is)) held
held_step h e (Some x) is may held = subst Held (sym (loud edit_in h e x is)) (held_more (edits h) x held (edit_fits h e.caller e.log e.act x is may.1))

held_by : (h front rest : List Entry) → h ≡ front ++ rest → IsLegal h → Held (edits front) → Held (edits h)
held_by h front [] is legal held = subst (λ (l : List Entry). Held (edits l)) (sym (is ∙ append-nil front)) held
held_by h front (e ∷ rest) is legal held =
    held_by h (front ++ e ∷ []) rest (is ∙ sym (append_assoc front (e ∷ []) rest)) legal (held_step front e (edit_in e) refl (legal front e rest is) held)

legal_held : (h : List Entry) → IsLegal h → Held (edits h)
legal_held h legal = held_by h [] h refl legal held_nothing

-- ---- whom a token finds

has_now : (digest : List ℕ) (o : Option Credential) → There o (λ c. c.digest ≡ digest) → is_of digest o ≡ true
has_now digest None has = absurd has
has_now digest (Some c) has = ap (λ (d : List ℕ). bytes_eq d digest) has ∙ bytes_refl digest

there_now : (digest : List ℕ) (o : Option Credential) → is_of digest o ≡ true → There o (λ c. c.digest ≡ digest)
there_now digest None is = true≢false (sym is)
there_now digest (Some c) is = bytes_is c.digest digest is

has_found : (h : List Entry) (digest r : List ℕ) → IsLegal h → Finds h digest r → has_digest (edits h) digest r ≡ true
has_found h digest r legal found = holds_found (edits h) digest r (legal_held h legal) found

finds : (h : List Entry) (digest r : List ℕ) → IsLegal h → has_digest (edits h) digest r ≡ true → Finds h digest r
finds h digest r legal has = finds_holder (edits h) digest r (legal_held h legal) has

-- its view is the one by name
by_name : (h : List Entry) (digest r : List ℕ) → Finds h digest r → view_by h (token digest) ≡ view_by h (named r)
by_name h digest r found = ap (λ (o : Option (List ℕ)). option_map (view_with (edits h) (shown (log_at h))) (option_and_then (catalog.view_of (edits h)) o)) found

-- ---- a token that finds nobody

none_found : (h : List Entry) (digest : List ℕ) (o : Option (List ℕ)) → name_of (edits h) (token digest) ≡ o → IsLegal h → view_by h (token digest) ≡ None → o ≡ None
none_found h digest None is legal none = refl
none_found h digest (Some r) is legal none =
    let (c, has, same) = digest_of digest (credential (edits h) r) (has_found h digest r legal is) in
    let there = by_name h digest r is ∙ ap (λ (o : Option Credential). option_map (view_with (edits h) (shown (log_at h))) (option_map (catalog.view_with (edits h) r) o)) has in
    absurd cc

had : (h : List Entry) (e : Entry) (digest r : List ℕ) (o : Option Edit) → edit_in e ≡ o → IfSome o (GivesNobody digest) → has_digest (edits (h ++ e ∷ [])) digest r ≡ true → has_digest (edits h) digest r ≡ true
had h e digest r None is gives has = ap (λ (es : List Edit). has_digest es digest r) (sym (quiet edit_in h e is)) ∙ has
had h e digest r (Some x) is gives has = held_before (edits h) x digest r (gives r) (ap (λ (es : List Edit). has_digest es digest r) (sym (loud edit_in h e x is)) ∙ has)

still_nobody : (h : List Entry) (e : Entry) (digest : List ℕ) (o : Option (List ℕ)) → name_of (edits (h ++ e ∷ [])) (token digest) ≡ o → IsLegal (h ++ e ∷ []) → name_of (edits h) (token digest) ≡ None → IfSome (edit_in e) (GivesNobody digest)
    → view_by (h ++ e ∷ []) (token digest) ≡ None
still_nobody h e digest None is legal none gives =
    ap (λ (o : Option (List ℕ)). option_map (view_with (edits (h ++ e ∷ [])) (shown (log_at (h ++ e ∷ [])))) (option_and_then (catalog.view_of (edits (h ++ e ∷ []))) o)) is
still_nobody h e digest (Some r) is legal none gives =
    absurd (holds_nobody (edits h) digest r (legal_held h (legal_front h (e ∷ []) legal)) none (had h e digest r (edit_in e) refl gives (has_found (h ++ e ∷ []) digest r legal is)))

-- ---- the law

pub tokens_show_views : TokensShowViews
tokens_show_views = record {
  holder = λ h digest r legal. (λ found. there_now digest (credential (edits h) r) (has_found h digest r legal found), λ has. finds h digest r legal (has_now digest (credential (edits h) r) has));
  shown = λ h other digest r legal legal' found same.
      let there : Finds other digest r = finds other digest r legal' (ap (is_of digest) (sym same.recipient) ∙ has_found h digest r legal found) in
      by_name h digest r found ∙ (book_views_are_shown h other r same ∙ sym (by_name other digest r there));
  entries = λ h e digest r legal found foreign.
      let still : Finds (h ++ e ∷ []) digest r = finds (h ++ e ∷ []) digest r legal (ap (is_of digest) (credential_by h r e (edit_in e) refl foreign) ∙ has_found h digest r (legal_front h (e ∷ []) legal) found) in
      by_name (h ++ e ∷ []) digest r still ∙ (foreign_entries_leave_views h e r foreign ∙ sym (by_name h digest r found));
  nobody = λ h e digest legal none gives.
      still_nobody h e digest (name_of (edits (h ++ e ∷ [])) (token digest)) refl legal (none_found h digest (name_of (edits h) (token digest)) refl (legal_front h (e ∷ []) legal) none) gives;
}
