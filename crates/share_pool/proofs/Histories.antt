-- Desks that stand in one history.
use Rattle.std.proofs.Common.{◌≡◌, ℕ, zero, suc, ◌+◌, ◌<◌, List, [], ◌∷◌, ◌++◌, length, slice_index_or, Option, Some, None, refl, sym, ap, ◌∙◌, subst, arith, append_assoc}
use Rattle.std.specs.Option.{IsSomeAnd}
use mathlib.Core.List.{IsPrefix}
use mathlib.Core.Logic.{dite}
use native.Mathlib.Decide.{ℕ_discrete}
use Rattle.turn_cell.specs.Passes.{CellId}
use Rattle.hub_calls.specs.Calls.{IsIdle, P}
use Rattle.share_book.specs.declared.entry.Entry.{Entry}
use Rattle.share_pool.specs.Desks.{HasPass}
use Rattle.share_pool.specs.OneHistory.{HasSeenUpTo, OwnIn, Stands}

pub prefix_more : {A : Type 0} (xs ys zs : List A) → IsPrefix xs ys → IsPrefix ys zs → IsPrefix xs zs
prefix_more xs ys zs p q = (p.0 ++ q.0, sym (append_assoc xs p.0 q.0) ∙ (ap (λ z. z ++ q.0) p.1 ∙ q.1))

-- whatever stands for what isn't there
any_default : {A : Type 0} (xs : List A) (i : ℕ) (d d' : A) → i < length xs → slice_index_or xs i d ≡ slice_index_or xs i d'
any_default [] i d d' l = absurd (omega arith)
any_default (x ∷ xs) zero d d' l = refl
any_default (x ∷ xs) (suc i) d d' l = any_default xs i d d' (omega arith)

-- one desk more
pub each_next : {A : Type 0} (P Q : A → Type 0) (xs : List A) (i : ℕ) (d' : A) → i < length xs → ((j : ℕ) (d : A) → j < i → P (slice_index_or xs j d)) → ((x : A) → P x → Q x) → Q (slice_index_or xs i d')
    → (j : ℕ) (d : A) → j < i + 1 → Q (slice_index_or xs j d)
each_next P Q xs i d' inside before more q j d less = dite (ℕ_discrete j i)
    (λ e. subst (λ (z : ℕ). Q (slice_index_or xs z d)) (sym e) (subst Q (any_default xs i d' d inside) q))
    (λ ne. more _ (before j d (omega arith)))

pub heard_more : (pass : Option P) (xs ys : List Entry) → IsPrefix xs ys → HasSeenUpTo xs pass → HasSeenUpTo ys pass
heard_more None xs ys m h = absurd h
heard_more (Some p) xs ys m h = prefix_more p.seen xs ys h m

pub stands : (pass : Option P) (xs : List Entry) → HasSeenUpTo xs pass → IsSomeAnd pass (OwnIn xs) → IsSomeAnd pass (Stands xs)
stands None xs h o = absurd h
stands (Some p) xs h o = (h, o)

pub has_after : (hub : CellId) (pass : Option P) (before after : P) → pass ≡ Some after → IsIdle before after → before.cell ≡ hub → HasPass hub pass
has_after hub pass before after has same cell = subst (λ (o : Option P). HasPass hub o) (sym has) (same.cell ∙ cell, same.holds)
