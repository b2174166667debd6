-- Where a path's first colon stands, and what its escapes stand for.
use Rattle.std.proofs.Common.{◌≡◌, ℕ, zero, suc, ◌<◌, length, get_or, arith, List, [], ◌∷◌, Bool, true, false, cond, Option, Some, None, refl, sym, ap, ◌∙◌, subst}
use Rattle.std.specs.Prelude.{◌==◌, IsUtf8}
use Rattle.std.specs.Str.{is_utf8}
use Rattle.std.specs.List.{list_any, position_or_len}
use Rattle.std.proofs.lemmas.Bool.{false_from_ne_true, or_parts}
use Rattle.std.proofs.lemmas.List.Folds.{list_any_at}
use Rattle.memchr.specs.Find.{IsFirstByte, is_byte}
use Rattle.std.proofs.lemmas.Str.{IsUtf8-from_is_utf8, is_utf8-from_IsUtf8}
use Rattle.percent_encoding.specs.Percent.{percent_decode}
use Rattle.log_actions.specs.Paths.{decoded}

-- a place is the first that passes
pub record IsFirst {X : Type 0} (p : X → Bool) (xs : List X) (at : ℕ) : Type 0 where
  pub place : at ≡ position_or_len p xs
  pub passes : list_any p xs ≡ true

pub decoded_text : (path text : List ℕ) → text ≡ percent_decode path → IsUtf8 (percent_decode path) → Some text ≡ decoded path
decoded_text path text is good = ap Some is ∙ sym (ap (λ b. cond b (Some (percent_decode path)) None) (is_utf8-from_IsUtf8 (percent_decode path) good))

-- ---- by a search of bytes

none_passes_at : (p : ℕ → Bool) (xs : List ℕ) → ((k : ℕ) → k < length xs → p (get_or xs k 0) ≡ false) → list_any p xs ≡ false
none_passes_at p [] none = refl
none_passes_at p (x ∷ xs) none = rw (none 0 (omega arith)) (none_passes_at p xs (λ k lt. none (suc k) (omega (arith, lt))))

place_is : (p : ℕ → Bool) (xs : List ℕ) (at : ℕ) → ((k : ℕ) → k < at → p (get_or xs k 0) ≡ false) → at < length xs → p (get_or xs at 0) ≡ true → at ≡ position_or_len p xs
place_is p [] at none lt here = absurd (omega (arith, lt))
place_is p (x ∷ xs) zero none lt here = rw here refl
place_is p (x ∷ xs) (suc at) none lt here = rw (none 0 (omega arith)) (omega (arith, place_is p xs at (λ k near. none (suc k) (omega (arith, near))) (omega (arith, lt)) here))

pub first_byte : (b : ℕ) (xs : List ℕ) (at : ℕ) (r : Option ℕ) → r ≡ Some at → IsFirstByte (is_byte b) xs r → IsFirst (is_byte b) xs at
first_byte b xs at r is first =
    let here = subst (IsFirstByte (is_byte b) xs) is first in
    record {
      place = place_is (is_byte b) xs at (λ k lt. false_from_ne_true (is_byte b (get_or xs k 0)) (here.0.before k (omega arith) lt)) here.0.high here.1;
      passes = list_any_at (is_byte b) xs at 0 here.0.high here.1;
    }

pub no_byte : (b : ℕ) (xs : List ℕ) (r : Option ℕ) → r ≡ None → IsFirstByte (is_byte b) xs r → list_any (is_byte b) xs ≡ false
no_byte b xs r is first =
    let nowhere = subst (IsFirstByte (is_byte b) xs) is first in
    none_passes_at (is_byte b) xs (λ k lt. false_from_ne_true (is_byte b (get_or xs k 0)) (nowhere k (omega arith) lt))

-- bytes without `%` are decoded as they are
pub no_escape : (path : List ℕ) → list_any (is_byte 37) path ≡ false → percent_decode path ≡ path
unfolding percent_decode
no_escape [] none = refl
no_escape (b ∷ []) none = refl
no_escape (b ∷ c ∷ []) none = refl
no_escape (b ∷ c ∷ d ∷ rest) none =
    let parts = or_parts (b == 37) (list_any (is_byte 37) (c ∷ d ∷ rest)) none in
    rw parts.0 (ap (λ text. b ∷ text) (no_escape (c ∷ d ∷ rest) parts.1))

pub plain_text : (path : List ℕ) → list_any (is_byte 37) path ≡ false → IsUtf8 path → Some path ≡ decoded path
plain_text path none good =
    let same = no_escape path none in
    decoded_text path path (sym same) (subst IsUtf8 (sym same) good)

no_text : (path : List ℕ) (b : Bool) → is_utf8 (percent_decode path) ≡ b → (IsUtf8 (percent_decode path) → ⊥) → None ≡ cond b (Some (percent_decode path)) None
no_text path true e bad = absurd (bad (IsUtf8-from_is_utf8 (percent_decode path) e))
no_text path false e bad = refl

pub not_decoded : (path : List ℕ) → (IsUtf8 (percent_decode path) → ⊥) → None ≡ decoded path
not_decoded path bad = no_text path _ refl bad
