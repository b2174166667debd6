-- What holds of a store that nobody else adds to, over several calls.
use Rattle.std.proofs.Common.{◌≡◌, Bool, true, false, subst}
use Rattle.std.specs.Bool.{OnTrue}

pub on_both : (b : Bool) (A B : Type 0) → A → OnTrue b B → OnTrue b (A × B)
on_both true A B a w = (a, w)
on_both false A B a w = tt

pub on_map : (b : Bool) (A B : Type 0) → (A → B) → OnTrue b A → OnTrue b B
on_map true A B f w = f w
on_map false A B f w = tt

-- where the first was alone the second is
pub on_after : (a b : Bool) (A B C : Type 0) → (A → B → C) → OnTrue a (b ≡ true) → OnTrue a A → OnTrue b B → OnTrue a C
on_after false b A B C f h v w = tt
on_after true b A B C f h v w = f v (subst (λ (t : Bool). OnTrue t B) h w)

pub stays_more : (a b c : Bool) → OnTrue a (b ≡ true) → OnTrue b (c ≡ true) → OnTrue a (c ≡ true)
stays_more false b c h k = tt
stays_more true b c h k = subst (λ (t : Bool). OnTrue t (c ≡ true)) h k
