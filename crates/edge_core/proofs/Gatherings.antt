-- What a gathering sink holds: what its inner sink holds, and then what it keeps.
use Rattle.std.proofs.Common.{◌≡◌, ℕ, ◌+◌, List, [], ◌++◌, length, take, drop, Option, Some, None, refl, sym, ap, ◌∙◌, arith}
use Rattle.std.proofs.lemmas.List.{take_all, drop_all, append-nil}
use Rattle.std.specs.Io.KnownBytes.{append_known}
use Rattle.edge_core.specs.declared.sink.Gave.{Gave}
use Rattle.edge_core.specs.Flow.{Writes}
use Rattle.edge_core.proofs.Flows.{append_known-append}
use Rattle.edge_core.proofs.Parts.{front_and_rest}

-- the inner sink took the first n bytes that were kept
pub handed_on : (known : Option (List ℕ)) (xs : List ℕ) (at n : ℕ)
    → append_known (append_known known (take n (drop at xs))) (drop (at + n) xs) ≡ append_known known (drop at xs)
handed_on known xs at n = append_known-append known _ _ ∙ ap (append_known known) (sym (front_and_rest xs at n))

pub append_known-nil : (known : Option (List ℕ)) → append_known known [] ≡ known
append_known-nil None = refl
append_known-nil (Some xs) = ap Some (append-nil xs)

pub no_bytes : (xs : List ℕ) (at : ℕ) → length xs ≡ 0 → drop at xs ≡ []
no_bytes xs at e = drop_all at xs (omega (arith, e))

-- a write of the inner sink, where nothing is kept
pub passed_on : (old new : Option (List ℕ)) (kept : List ℕ) → kept ≡ [] → (answer : Gave) (bytes : List ℕ) → Writes old new answer bytes → Writes (append_known old kept) (append_known new kept) answer bytes
passed_on old new kept none answer bytes written = rw (none, append_known-nil old, append_known-nil new) written

-- bytes that are kept behind the others
pub kept_more : (old mid new : Option (List ℕ)) (old_kept mid_kept new_kept bytes : List ℕ)
    → append_known mid mid_kept ≡ append_known old old_kept → new ≡ mid → new_kept ≡ mid_kept ++ bytes
    → append_known new new_kept ≡ append_known (append_known old old_kept) (take (length bytes) bytes)
kept_more old mid new old_kept mid_kept new_kept bytes held same more =
    ap (λ k. append_known k new_kept) same ∙ ap (append_known mid) more ∙ sym (append_known-append mid mid_kept bytes)
    ∙ ap (λ k. append_known k bytes) held ∙ ap (append_known (append_known old old_kept)) (sym (take_all (length bytes) bytes (omega arith)))
