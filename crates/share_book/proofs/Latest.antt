-- The latest of the states that are kept.
use Rattle.std.proofs.Common.{◌≡◌, ◌⊎◌, inl, inr, ℕ, ◌≤◌, Bool, true, false, cond, nat_lt, List, [], ◌∷◌, Option, Some, None, Contains, refl, sym, subst, arith}
use Rattle.std.specs.Prelude.{IfSome}
use Rattle.lru.proofs.Splits.{Contains-cons, Contains-head, Contains-nil, Contains-tail}
use Rattle.log_replay.specs.State.{State}
use Rattle.share_book.specs.Bases.{IsAtMost}
use Rattle.share_book.specs.Pinning.{later, later_state}

abbrev pub IsKeptAt : List (ℕ × State) → ℕ → State → Type 0
IsKeptAt all version s = ((number : ℕ) × Contains all (number, s)) × (s.version ≤ version)

-- the latest of those that were gone through, when these are left
pub record IsLatest (all left : List (ℕ × State)) (version : ℕ) (best : Option State) : Type 0 where
  pub among : (e : ℕ × State) → Contains left e → Contains all e
  pub there : IfSome best (IsKeptAt all version)
  pub greatest : (e : ℕ × State) → Contains all e → Contains left e ⊎ (e.1.version ≤ version → IsAtMost e.1.version best)

pub latest_none : (all : List (ℕ × State)) (version : ℕ) → IsLatest all all version None
latest_none all version = record { among = λ e c. c; there = tt; greatest = λ e c. inl c }

-- nothing is lost, and the state itself counts where it isn't past the version
later_keeps : (version n : ℕ) (best : Option State) (s : State) (past deeper : Bool) → nat_lt version s.version ≡ past → IsAtMost n best → IsAtMost n (later version best s)
later_keeps version n None s past deeper e a = absurd a
later_keeps version n (Some b) s true deeper e a = subst (λ (c : Bool). IsAtMost n (cond c (Some b) (later_state (Some b) s))) (sym e) a
later_keeps version n (Some b) s false deeper e a =
    subst (λ (c : Bool). IsAtMost n (cond c (Some b) (later_state (Some b) s))) (sym e) (by_deeper (nat_lt b.version s.version) refl)
  where
    by_deeper : (d : Bool) → nat_lt b.version s.version ≡ d → IsAtMost n (later_state (Some b) s)
    by_deeper true q = subst (λ (c : Bool). IsAtMost n (cond c (Some s) (Some b))) (sym q) (search (arith, q, a))
    by_deeper false q = subst (λ (c : Bool). IsAtMost n (cond c (Some s) (Some b))) (sym q) a

later_counts : (version : ℕ) (best : Option State) (s : State) → s.version ≤ version → IsAtMost s.version (later version best s)
later_counts version best s le = subst (λ (c : Bool). IsAtMost s.version (cond c best (later_state best s))) (sym (not_past (nat_lt version s.version) refl)) (by_best best)
  where
    not_past : (c : Bool) → nat_lt version s.version ≡ c → nat_lt version s.version ≡ false
    not_past true q = search (arith, q, le)
    not_past false q = q

    by_deeper : (b : State) (d : Bool) → nat_lt b.version s.version ≡ d → IsAtMost s.version (later_state (Some b) s)
    by_deeper b true q = subst (λ (c : Bool). IsAtMost s.version (cond c (Some s) (Some b))) (sym q) (omega arith)
    by_deeper b false q = subst (λ (c : Bool). IsAtMost s.version (cond c (Some s) (Some b))) (sym q) (search (arith, q))

    by_best : (b : Option State) → IsAtMost s.version (later_state b s)
    by_best None = omega arith
    by_best (Some b) = by_deeper b (nat_lt b.version s.version) refl

later_there : (all : List (ℕ × State)) (version number : ℕ) (best : Option State) (s : State) → Contains all (number, s) → IfSome best (IsKeptAt all version) → IfSome (later version best s) (IsKeptAt all version)
later_there all version number best s has there = by_past (nat_lt version s.version) refl
  where
    own : nat_lt version s.version ≡ false → IsKeptAt all version s
    own q = ((number, has), search (arith, q))

    by_deeper : (b : State) (d : Bool) → nat_lt b.version s.version ≡ d → IsKeptAt all version b → IsKeptAt all version s → IfSome (later_state (Some b) s) (IsKeptAt all version)
    by_deeper b true q kb ks = subst (λ (c : Bool). IfSome (cond c (Some s) (Some b)) (IsKeptAt all version)) (sym q) ks
    by_deeper b false q kb ks = subst (λ (c : Bool). IfSome (cond c (Some s) (Some b)) (IsKeptAt all version)) (sym q) kb

    by_best : (b : Option State) → IfSome b (IsKeptAt all version) → IsKeptAt all version s → IfSome (later_state b s) (IsKeptAt all version)
    by_best None kb ks = ks
    by_best (Some b) kb ks = by_deeper b (nat_lt b.version s.version) refl kb ks

    by_past : (c : Bool) → nat_lt version s.version ≡ c → IfSome (later version best s) (IsKeptAt all version)
    by_past true q = subst (λ (c : Bool). IfSome (cond c best (later_state best s)) (IsKeptAt all version)) (sym q) there
    by_past false q = subst (λ (c : Bool). IfSome (cond c best (later_state best s)) (IsKeptAt all version)) (sym q) (by_best best there (own q))

pub latest_more : (all left : List (ℕ × State)) (version number : ℕ) (best : Option State) (s : State) → IsLatest all ((number, s) ∷ left) version best → IsLatest all left version (later version best s)
latest_more all left version number best s l = record {
  among = λ e c. l.among e (Contains-tail (number, s) left e c);
  there = later_there all version number best s (l.among (number, s) (Contains-head (number, s) left)) l.there;
  greatest = λ e c. elim (l.greatest e c) [
    | inl w ↦ elim (Contains-cons (number, s) left e w) [
      | inl same ↦ inr (λ le. subst (λ (x : ℕ × State). IsAtMost x.1.version (later version best s)) same (later_counts version best s (subst (λ (x : ℕ × State). x.1.version ≤ version) (sym same) le)))
      | inr behind ↦ inl behind
    ]
    | inr before ↦ inr (λ le. later_keeps version e.1.version best s (nat_lt version s.version) true refl (before le))
  ];
}

pub latest_all : (all : List (ℕ × State)) (version : ℕ) (best : Option State) → IsLatest all [] version best → (e : ℕ × State) → Contains all e → e.1.version ≤ version → IsAtMost e.1.version best
latest_all all version best l e c le = elim (l.greatest e c) [ inl w ↦ absurd (Contains-nil e w) | inr g ↦ g le ]
