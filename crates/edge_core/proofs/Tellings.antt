-- What is said of objects that tell.
use Rattle.std.proofs.Common.{◌≡◌, Option, Some, None, refl, sym, ap, subst, unwrap_or, true≢false}
use Rattle.edge_core.specs.Objects.{Told}
use Rattle.edge_core.proofs.Basics.{some_none}

-- an object that told goes on telling, and this holds of what it told and tells
pub told_on : {A : Type 0} (old new : Option A) (P : A → A → Type 0) (x : A) → old ≡ Some x → Told old new P → (y : A) × (new ≡ Some y) × P x y
told_on None new P x e told = absurd (some_none x (sym e))
told_on (Some z) None P x e told = absurd (true≢false told)
told_on (Some z) (Some y) P x e told = (y, refl, subst (λ w. P w y) (ap (λ o. unwrap_or o z) e) told)
