-- Reads, one after another.
use Rattle.std.proofs.Common.{◌≡◌, ℕ, ◌+◌, ◌-◌, ◌^◌, ◌<◌, ◌≤◌, min, List, [], ◌∷◌, ◌++◌, length, take, drop, Option, Some, None, refl, sym, ap, ◌∙◌, subst, arith, append_assoc, length-append}
use Rattle.std.proofs.lemmas.List.{append-nil, take-append-drop, length-take-le}
use Rattle.std.specs.Io.KnownBytes.{prepend_known}
use Rattle.http_message.specs.Sessions.{place_behind}
use Rattle.http_wire.specs.Streams.{Buffer, stream, IsEnd, Moves, all_of, EachShort, Draws, Drew}
use Rattle.http_wire.specs.Fills.{Awaits}

all_of-append : (a b : List (List ℕ)) → all_of (a ++ b) ≡ all_of a ++ all_of b
all_of-append [] b = refl
all_of-append (p ∷ ps) b = ap (λ x. p ++ x) (all_of-append ps b) ∙ sym (append_assoc p (all_of ps) (all_of b))

-- with the used bytes in front
each_behind : (P Q : List ℕ → Type 0) (used bytes : List ℕ) (pieces : List (List ℕ)) → ((y : List ℕ) → Q y → P (used ++ y)) → EachShort Q bytes pieces → EachShort P (used ++ bytes) pieces
each_behind P Q used bytes [] lift each = tt
each_behind P Q used bytes (p ∷ ps) lift each = (
  lift bytes each.0,
  each.1,
  subst (λ b. EachShort P b ps) (sym (append_assoc used bytes p)) (each_behind P Q used (bytes ++ p) ps lift each.2),
)

each-append : (P : List ℕ → Type 0) (bytes : List ℕ) (a b : List (List ℕ)) → EachShort P bytes a → EachShort P (bytes ++ all_of a) b → EachShort P bytes (a ++ b)
each-append P bytes [] b first second = subst (λ x. EachShort P x b) (append-nil bytes) second
each-append P bytes (p ∷ ps) b first second =
    (first.0, first.1, each-append P (bytes ++ p) ps b first.2 (subst (λ x. EachShort P x b) (sym (append_assoc bytes p (all_of ps))) second))

prepend-append : (a b : List ℕ) (left : Option (List ℕ)) → prepend_known (a ++ b) left ≡ prepend_known a (prepend_known b left)
prepend-append a b None = refl
prepend-append a b (Some xs) = ap (λ l. Some l) (append_assoc a b xs)

pub prepend-none : (left : Option (List ℕ)) → prepend_known [] left ≡ left
prepend-none None = refl
prepend-none (Some xs) = refl

no_piece : (a b : List (List ℕ)) → a ++ b ≡ [] → (a ≡ []) × (b ≡ [])
no_piece [] b e = (refl, e)
no_piece (p ∷ ps) b e = absurd cc

-- nothing was read or used
pub draws_none : {S : Type 0} (left : S → Option (List ℕ)) (P : List ℕ → Type 0) (a b : Buffer) (s t : S) → b ≡ a → t ≡ s → Draws left P a b s t [] []
draws_none left P a b s t same kept =
    record {
      came = ap left (sym kept) ∙ sym (prepend-none (left t));
      spelled = append-nil a.0 ∙ ap (λ (x : Buffer). x.0) (sym same);
      place = λ small. omega (arith, ap (λ (x : Buffer). x.1) same);
      each = tt;
      spared = λ _. kept;
    }

-- the first bytes of those at hand were used
pub draws_used : {S : Type 0} (left : S → Option (List ℕ)) (P : List ℕ → Type 0) (a b : Buffer) (s : S) (count : ℕ) → count ≤ length a.0 → b.0 ≡ drop count a.0 → b.1 ≡ min (a.1 + count) (2 ^ 64 - 1) → Draws left P a b s s [] (take count a.0)
draws_used left P a b s count within bytes place =
    record {
      came = sym (prepend-none (left s));
      spelled = append-nil a.0 ∙ sym (take-append-drop count a.0) ∙ ap (λ x. take count a.0 ++ x) (sym bytes);
      place = λ small. omega (arith, place, length-take-le count a.0 within);
      each = tt;
      spared = λ _. refl;
    }

-- one call behind another
pub draws_then : {S : Type 0} (left : S → Option (List ℕ)) (P Q : List ℕ → Type 0) (a b c : Buffer) (s t v : S) (m n : List (List ℕ)) (u w : List ℕ) → Draws left P a b s t m u → ((y : List ℕ) → Q y → P (u ++ y)) → Draws left Q b c t v n w
    → Draws left P a c s v (m ++ n) (u ++ w)
draws_then left P Q a b c s t v m n u w first lift second =
    record {
      came = first.came ∙ ap (prepend_known (all_of m)) second.came ∙ sym (prepend-append (all_of m) (all_of n) (left v)) ∙ ap (λ x. prepend_known x (left v)) (sym (all_of-append m n));
      spelled =
          ap (λ x. a.0 ++ x) (all_of-append m n) ∙ sym (append_assoc a.0 (all_of m) (all_of n)) ∙ ap (λ x. x ++ all_of n) first.spelled ∙ append_assoc u b.0 (all_of n)
          ∙ ap (λ x. u ++ x) second.spelled ∙ sym (append_assoc u w c.0);
      place = λ small.
          let mid = first.place small in
          omega (arith, mid, second.place (omega (arith, mid)), length-append u w);
      each = each-append P a.0 m n first.each (subst (λ x. EachShort P x n) (sym first.spelled) (each_behind P Q u b.0 n lift second.each));
      spared = λ none.
          let both = no_piece m n none in
          second.spared both.1 ∙ first.spared both.0;
    }

pub draws_weaken : {S : Type 0} (left : S → Option (List ℕ)) (P Q : List ℕ → Type 0) (a b : Buffer) (s t : S) (m : List (List ℕ)) (u : List ℕ) → ((y : List ℕ) → Q y → P y) → Draws left Q a b s t m u → Draws left P a b s t m u
draws_weaken left P Q a b s t m u weaker d =
    record { came = d.came; spelled = d.spelled; place = d.place; each = each_behind P Q [] a.0 m weaker d.each; spared = d.spared }

-- with no bytes used first
pub draws_next : {S : Type 0} (left : S → Option (List ℕ)) (P Q : List ℕ → Type 0) (a b c : Buffer) (s t v : S) (m n : List (List ℕ)) (w : List ℕ) → Draws left P a b s t m [] → ((y : List ℕ) → Q y → P y) → Draws left Q b c t v n w
    → Draws left P a c s v (m ++ n) w
draws_next left P Q a b c s t v m n w first weaker second = draws_then left P Q a b c s t v m n [] w first weaker second

-- ---- awaiting

pub awaits_none : {S : Type 0} (left : S → Option (List ℕ)) (P : List ℕ → Type 0) (a b : Buffer) (s t : S) → b ≡ a → t ≡ s → Awaits left P a b s t
awaits_none left P a b s t same kept = ([], draws_none left P a b s t same kept)

-- bytes at hand that come behind others
pub awaits_more : {S : Type 0} (left : S → Option (List ℕ)) (P : List ℕ → Type 0) (a b : Buffer) (s t : S) → Awaits left P a b s t → (more : List ℕ) × (b.0 ≡ a.0 ++ more)
awaits_more left P a b s t d = (all_of d.0, sym d.1.spelled)

-- one read more, where the bytes at hand are short
pub awaits_read : {S : Type 0} (left : S → Option (List ℕ)) (P : List ℕ → Type 0) (a b c : Buffer) (s t v : S) → Awaits left P a b s t → P b.0 → Awaits left (λ x. x ≡ b.0) b c t v → Awaits left P a c s v
awaits_read left P a b c s t v first short second =
    (first.0 ++ second.0, draws_next left P (λ x. x ≡ b.0) a b c s t v first.0 second.0 [] first.1 (λ y same. subst P (sym same) short) second.1)

pub awaits_then : {S : Type 0} (left : S → Option (List ℕ)) (P Q : List ℕ → Type 0) (a b c : Buffer) (s t v : S) → Awaits left P a b s t → ((y : List ℕ) → Q y → P y) → Awaits left Q b c t v → Awaits left P a c s v
awaits_then left P Q a b c s t v first weaker second =
    (first.0 ++ second.0, draws_next left P Q a b c s t v first.0 second.0 [] first.1 weaker second.1)

pub awaits_weaken : {S : Type 0} (left : S → Option (List ℕ)) (P Q : List ℕ → Type 0) (a b : Buffer) (s t : S) → ((y : List ℕ) → Q y → P y) → Awaits left Q a b s t → Awaits left P a b s t
awaits_weaken left P Q a b s t weaker d = (d.0, draws_weaken left P Q a b s t d.0 [] weaker d.1)

-- ---- one read

-- one read, which took nothing away
pub draws_nothing : {S : Type 0} (left : S → Option (List ℕ)) (P : List ℕ → Type 0) (a b : Buffer) (s t : S) → P a.0 → b ≡ a → left t ≡ left s → Draws left P a b s t ([] ∷ []) []
draws_nothing left P a b s t short same kept =
    record {
      came = sym kept ∙ sym (prepend-none (left t));
      spelled = append-nil a.0 ∙ ap (λ (x : Buffer). x.0) (sym same);
      place = λ small. omega (arith, ap (λ (x : Buffer). x.1) same);
      each = (short, omega arith, tt);
      spared = λ none. absurd cc;
    }

-- one read, of which the first bytes were used
pub draws_piece : {S : Type 0} (left : S → Option (List ℕ)) (P : List ℕ → Type 0) (a b : Buffer) (s t : S) (piece used : List ℕ) → P a.0 → length piece ≤ 8192 → left s ≡ prepend_known piece (left t) → a.0 ++ piece ≡ used ++ b.0 → (a.1 < 2 ^ 64 → b.1 ≡ place_behind a.1 used)
    → Draws left P a b s t (piece ∷ []) used
draws_piece left P a b s t piece used short few came spelled place =
    record {
      came = came ∙ ap (λ x. prepend_known x (left t)) (sym (append-nil piece));
      spelled = ap (λ x. a.0 ++ x) (append-nil piece) ∙ spelled;
      place = place;
      each = (short, few, tt);
      spared = λ none. absurd cc;
    }

-- ---- where the source tells

pub told_draws : {S : Type 0} (left : S → Option (List ℕ)) (P : List ℕ → Type 0) (a b : Buffer) (s t : S) (m : List (List ℕ)) (u : List ℕ) → Draws left P a b s t m u → (xs : List ℕ) → stream a (left s) ≡ Some xs
    → (zs : List ℕ) × (left t ≡ Some zs) × (xs ≡ u ++ (b.0 ++ zs)) × Moves xs a.1 (b.0 ++ zs) b.1
told_draws left P a b s t m u d xs told =
    let f = told_left (left t) refl in
    let whole : xs ≡ u ++ (b.0 ++ f.0) = same_some xs (u ++ (b.0 ++ f.0)) (sym told ∙ ap (prepend_known a.0) (d.came ∙ ap (prepend_known (all_of m)) f.1) ∙ ap (λ x. Some x) (sym (append_assoc a.0 (all_of m) f.0) ∙ ap (λ x. x ++ f.0) d.spelled ∙ append_assoc u b.0 f.0)) in
    (f.0, f.1, whole, (u, whole, d.place))
  where
    same_some : (p q : List ℕ) → Some p ≡ Some q → p ≡ q
    same_some p q e = cc

    told_left : (l : Option (List ℕ)) → left t ≡ l → (zs : List ℕ) × (left t ≡ Some zs)
    told_left (Some zs) is = (zs, is)
    told_left None is = absurd (none_told (sym told ∙ ap (prepend_known a.0) (d.came ∙ ap (prepend_known (all_of m)) is)))
      where
        none_told : Some xs ≡ None → ⊥
        none_told e = cc

-- bytes came, and none were used
pub drew_awaits : {S : Type 0} (left : S → Option (List ℕ)) (P : List ℕ → Type 0) (a b : Buffer) (s t : S) (F : List ℕ → Type 0) → Awaits left P a b s t → F [] → Drew left P a b s t F
drew_awaits left P a b s t F awaits found = (awaits.0, [], awaits.1, found)

-- bytes came, and so many were used
pub awaits_used : {S : Type 0} (left : S → Option (List ℕ)) (P : List ℕ → Type 0) (a b c : Buffer) (s t : S) (count : ℕ) → Awaits left P a b s t → count ≤ length b.0 → c.0 ≡ drop count b.0
    → c.1 ≡ min (b.1 + count) (2 ^ 64 - 1) → (m : List (List ℕ)) × Draws left P a c s t m (take count b.0)
awaits_used left P a b c s t count awaits within bytes place =
    (awaits.0 ++ [], draws_next left P P a b c s t t awaits.0 [] (take count b.0) awaits.1 (λ y short. short) (draws_used left P b c t count within bytes place))

pub drew_used : {S : Type 0} (left : S → Option (List ℕ)) (P : List ℕ → Type 0) (a b c : Buffer) (s t : S) (count : ℕ) (F : List ℕ → Type 0) → Awaits left P a b s t → count ≤ length b.0 → c.0 ≡ drop count b.0
    → c.1 ≡ min (b.1 + count) (2 ^ 64 - 1) → F (take count b.0) → Drew left P a c s t F
drew_used left P a b c s t count F awaits within bytes place found =
    let used = awaits_used left P a b c s t count awaits within bytes place in
    (used.0, take count b.0, used.1, found)

pub all_end : (left : Option (List ℕ)) (zs : List ℕ) → left ≡ Some zs → IsEnd left → zs ≡ []
all_end None zs is end = absurd cc
all_end (Some xs) zs is end = same xs zs is ∙ end
  where
    same : (p q : List ℕ) → Some p ≡ Some q → q ≡ p
    same p q e = cc
