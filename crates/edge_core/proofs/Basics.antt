-- Tests, options and numbers.
use Rattle.std.proofs.Common.{◌≡◌, ◌≢◌, ℕ, ◌<◌, ◌≤◌, sym, ap, refl, Bool, true, false, not, ◌&&◌, ◌||◌, nat_lt, nat_le, Some, None, is_some, true≢false, arith}

pub some_none : {A : Type 0} (x : A) → Some x ≢ None
some_none x e = true≢false (ap is_some e)

pub each : (a b : Bool) → (a && b) ≡ true → (a ≡ true) × (b ≡ true)
each true b e = (refl, e)
each false b e = absurd (true≢false (sym e))

pub neither : (a b : Bool) → (a || b) ≡ false → (a ≡ false) × (b ≡ false)
neither true b e = absurd (true≢false e)
neither false b e = (refl, e)

pub not_true : (b : Bool) → not b ≡ true → b ≡ false
not_true true e = absurd (true≢false (sym e))
not_true false e = refl

pub nat_le_true : (a b : ℕ) → a ≤ b → nat_le a b ≡ true
nat_le_true a b le = search (arith, le)

pub nat_lt_true : (a b : ℕ) → a < b → nat_lt a b ≡ true
nat_lt_true a b lt = search (arith, lt)
