-- Whether a path is live.
use Rattle.std.proofs.Common.{◌≡◌, ◌↔◌, ℕ, zero, suc, List, [], ◌∷◌, Bool, true, false, Contains, map, refl, sym, ap, ◌∙◌, arith, true≢false, bytes_eq}
use Rattle.std.specs.Prelude.{◌||◌, IsTrue}
use Rattle.std.proofs.lemmas.Slice.Eq.{bytes_eq-Decides}
use Rattle.log_actions.specs.declared.actions.AddFile.{AddFile}
use Rattle.commit_check.specs.Lawful.{is_live}

abbrev path_of : AddFile → List ℕ
path_of f = f.path

contained_case : (b : Bool) (f : AddFile) (fs : List AddFile) (q : List ℕ) → bytes_eq f.path q ≡ b → (b || is_live fs q) ≡ true → (is_live fs q ≡ true → Contains (map path_of fs) q) → Contains (map path_of (f ∷ fs)) q
contained_case true f fs q at live more = (0, omega arith, (bytes_eq-Decides f.path q).0 at)
contained_case false f fs q at live more = let rest = more live in (suc rest.0, omega (arith, rest.1), rest.2)

contained : (fs : List AddFile) (q : List ℕ) → is_live fs q ≡ true → Contains (map path_of fs) q
contained [] q live = absurd (true≢false (sym live))
contained (f ∷ fs) q live = contained_case (bytes_eq f.path q) f fs q refl live (contained fs q)

or_true : (b : Bool) → (b || true) ≡ true
or_true true = refl
or_true false = refl

lives : (fs : List AddFile) (q : List ℕ) → Contains (map path_of fs) q → is_live fs q ≡ true
lives [] q (k, lt, is) = absurd (omega (arith, lt))
lives (f ∷ fs) q (zero, lt, is) = ap (λ b. b || is_live fs q) ((bytes_eq-Decides f.path q).1 is)
lives (f ∷ fs) q (suc k, lt, is) = ap (λ b. bytes_eq f.path q || b) (lives fs q (k, omega (arith, lt), is)) ∙ or_true (bytes_eq f.path q)

same : (b c : Bool) → (b ≡ true → c ≡ true) → (c ≡ true → b ≡ true) → b ≡ c
same true c there back = sym (there refl)
same false true there back = absurd (true≢false (sym (back refl)))
same false false there back = refl

-- what a state tells of a path
pub told_live : (fs : List AddFile) (q : List ℕ) (b : Bool) → (IsTrue b ↔ Contains (map path_of fs) q) → b ≡ is_live fs q
told_live fs q b told = same b (is_live fs q) (λ e. lives fs q (told.0 e)) (λ live. told.1 (contained fs q live))
