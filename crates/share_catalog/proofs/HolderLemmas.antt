-- A token finds the holder of its digest.
use Rattle.std.proofs.Common.{◌≡◌, ℕ, List, [], ◌∷◌, Bool, true, false, cond, ◌||◌, Option, Some, None, refl, sym, ap, ◌∙◌, bytes_eq, true≢false}
use Rattle.std.specs.List.{find, list_any}
use Rattle.share_catalog.specs.declared.edit.Edit.{Edit}
use Rattle.share_catalog.specs.Catalogue.{IsHolder, has_digest, is_holder, is_of, last_credential, recipients_made}
use Rattle.share_catalog.specs.ViewLaws.{HoldersAreFound}
use Rattle.share_catalog.proofs.KeyTests.{bytes_is, bytes_refl}
use Rattle.share_catalog.proofs.Silent.{unmade}

find_same : {X : Type 0} (p q : X → Bool) → ((x : X) → p x ≡ q x) → (xs : List X) → find p xs ≡ find q xs
find_same p q same [] = refl
find_same p q same (x ∷ xs) = rw (same x, find_same p q same xs) refl

find_none : {X : Type 0} (xs : List X) → find (λ (x : X). false) xs ≡ None
find_none [] = refl
find_none (x ∷ xs) = find_none xs

find_text : (m : List ℕ) (xs : List (List ℕ)) → list_any (bytes_eq m) xs ≡ true → find (bytes_eq m) xs ≡ Some m
find_text m [] e = absurd (true≢false (sym e))
find_text m (x ∷ xs) e =
    elim (bytes_eq m x) as (λ b. bytes_eq m x ≡ b → (b || list_any (bytes_eq m) xs) ≡ true → cond b (Some x) (find (bytes_eq m) xs) ≡ Some m) [
      | true ↦ λ is h. ap Some (sym (bytes_is m x is))
      | false ↦ λ is h. find_text m xs h
    ] refl e

-- who holds a digest was made
made : (edits : List Edit) (digest m : List ℕ) (b : Bool) → list_any (bytes_eq m) (recipients_made edits) ≡ b → has_digest edits digest m ≡ true → b ≡ true
made edits digest m true is holds = refl
made edits digest m false is holds = absurd (true≢false (sym holds ∙ ap (λ b. is_of digest (cond b (last_credential edits m) None)) (unmade m edits is)))

by_holder : (edits : List Edit) (digest : List ℕ) (o : Option (List ℕ)) → IsHolder edits digest o → find (λ n. is_holder n o) (recipients_made edits) ≡ o
by_holder edits digest None holds = find_none (recipients_made edits)
by_holder edits digest (Some m) holds = find_text m (recipients_made edits) (made edits digest m _ refl (holds m ∙ bytes_refl m))

pub holders_are_found : HoldersAreFound
holders_are_found edits digest o holds = find_same (has_digest edits digest) (λ n. is_holder n o) holds (recipients_made edits) ∙ by_holder edits digest o holds
