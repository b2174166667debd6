-- Pieces that come one after another.
use Rattle.std.proofs.Common.{◌≡◌, ℕ, ◌+◌, ◌-◌, ◌*◌, ◌<◌, ◌≤◌, inl, inr, List, [], ◌∷◌, ◌++◌, length, Bool, true, false, Option, Some, None, Result, Ok, Err, refl, sym, ap, ◌∙◌, subst, arith, length-append, append_assoc}
use Rattle.std.specs.Prelude.{⊤, nat_lt, if◌then◌else◌}
use Rattle.std.specs.Io.KnownBytes.{append_known}
use Rattle.std.specs.List.{concat}
use Rattle.std.proofs.Math.Nat.{div-lt_iff_lt-mul, le-div_iff_mul-le}
use Rattle.std.proofs.lemmas.Bool.Decides.{nat_tests}
use Rattle.std.proofs.lemmas.List.{append-nil}
use Rattle.std.proofs.lemmas.List.Folds.{concat-append}
use Rattle.file_ranges.specs.Ranges.{Range}
use Rattle.share_client.specs.Pieces.{Begun, Came, Comes, Delivers, FetchesPieces, most_pieces, piece_range, pieces_in}
use Rattle.share_client.specs.Sides.{Side}
use Rattle.share_client.specs.Steps.{Sends}
use Rattle.share_client.specs.declared.fault.ClientFault.{ClientFault}
use Rattle.share_client.specs.declared.fault.ClientFault.TheVariants as fault
use Rattle.share_client.specs.declared.target.Target.{Target}

-- ---- how many there are

-- a place inside of the file is that of a further piece
pub one_more : (piece size n : ℕ) → 0 < piece → n * piece < size → n + 1 ≤ pieces_in piece size
one_more piece size n some inside = (le-div_iff_mul-le {k = piece} {x = n + 1} {y = size + piece - 1} some).1 (omega (arith, inside, some))

-- behind the end there is none
pub no_more : (piece size n : ℕ) → 0 < piece → size ≤ n * piece → pieces_in piece size ≤ n
no_more piece size n some end =
    let below = (div-lt_iff_lt-mul {k = piece} {x = size + piece - 1} {y = n + 1} some).1 (omega (arith, end, some)) in
    omega (arith, below)

none_some : {A : Type 0} (x : A) → None ≡ Some x → ⊥
none_some x e = cc

same_some : {A : Type 0} (x y : A) → Some x ≡ Some y → x ≡ y
same_some x y e = cc

none_left_by : (b : Bool) (at size : ℕ) (range : Range) → nat_lt at size ≡ b → None ≡ (if b then Some range else None) → size ≤ at
none_left_by true at size range is e = absurd (none_some range e)
none_left_by false at size range is e = grind (arith, nat_tests, is)

-- no range begins at a place that is behind the end alone
pub none_left : (at size : ℕ) (range : Range) → None ≡ (if nat_lt at size then Some range else None) → size ≤ at
none_left at size range e = none_left_by (nat_lt at size) at size range refl e

some_left_by : (b : Bool) (at size : ℕ) (named range : Range) → nat_lt at size ≡ b → Some named ≡ (if b then Some range else None) → (at < size) × (named ≡ range)
some_left_by true at size named range is e = (grind (arith, nat_tests, is), same_some named range e)
some_left_by false at size named range is e = absurd (none_some named (sym e))

-- a range begins at a place inside of the file
pub some_left : (at size : ℕ) (named range : Range) → Some named ≡ (if nat_lt at size then Some range else None) → (at < size) × (named ≡ range)
some_left at size named range e = some_left_by (nat_lt at size) at size named range refl e

-- ---- one piece

-- one that came is written, or the sink failed behind a front of it
pub delivered : (target : Target) (range : Range) (held held_new : Option (List ℕ)) (before now : ℕ) (given : List ℕ) (result : Result ⊤ ClientFault) (s t : Side)
    → Comes target range given s t → Sends held held_new before now given result → Delivers target range held held_new result s t
delivered target range held held_new before now given (Ok all) s t comes sends = (given, comes, sends)
delivered target range held held_new before now given (Err e) s t comes sends = inr (given, comes, sends.0, sends.2)

-- ---- what came

append_twice : (known : Option (List ℕ)) (xs ys : List ℕ) → append_known (append_known known xs) ys ≡ append_known known (xs ++ ys)
append_twice None xs ys = refl
append_twice (Some held) xs ys = ap (λ (z : List ℕ). Some z) (append_assoc held xs ys)

module _ (target : Target) (piece size : ℕ) where
  came_more : (given : List (List ℕ)) (g : List ℕ) (k j : ℕ) (s t u : Side) → k + length given ≡ j → Came target piece size k given s t → Comes target (piece_range piece size j) g t u → Came target piece size k (given ++ g ∷ []) s u
  came_more [] g k j s t u at came comes =
      let here : j ≡ k = omega (arith, at) in
      (u, subst (λ (x : Side). Comes target (piece_range piece size k) g x u) came (subst (λ (n : ℕ). Comes target (piece_range piece size n) g t u) here comes), refl)
  came_more (x ∷ xs) g k j s t u at came comes = (came.0, came.1, came_more xs g (k + 1) j came.0 t u (omega (arith, at)) came.2 comes)

  -- the first n pieces came and were delivered
  pub record Reaches (n : ℕ) (held held_new : Option (List ℕ)) (old new : Side) : Type 0 where
    pub given : List (List ℕ)
    pub counts : length given ≡ n
    pub within : n ≤ pieces_in piece size
    pub begun : Begun target piece size given held held_new old new

  pub reached_none : (held : Option (List ℕ)) (s : Side) → held ≡ append_known held [] → Reaches 0 held held s s
  reached_none held s same = record { given = []; counts = refl; within = omega arith; begun = record { came = refl; delivered = same } }

  pub reached_more : (n : ℕ) (held mid new : Option (List ℕ)) (s t u : Side) → n + 1 ≤ pieces_in piece size → Reaches n held mid s t
      → Delivers target (piece_range piece size n) mid new (Ok tt) t u → Reaches (n + 1) held new s u
  reached_more n held mid new s t u more r d =
      let counts = r.counts in
      let joined : concat (r.given ++ d.0 ∷ []) ≡ concat r.given ++ d.0 = concat-append r.given (d.0 ∷ []) ∙ ap (λ (z : List ℕ). concat r.given ++ z) (append-nil d.0) in
      record {
        given = r.given ++ d.0 ∷ [];
        counts = length-append r.given (d.0 ∷ []) ∙ omega (arith, counts);
        within = more;
        begun = record {
          came = came_more r.given d.0 0 n s t u (omega (arith, counts)) r.begun.came d.1;
          delivered = d.2 ∙ ap (λ (z : Option (List ℕ)). append_known z d.0) r.begun.delivered ∙ append_twice held (concat r.given) d.0 ∙ ap (append_known held) (sym joined);
        };
      }

  pub stopped : (n : ℕ) (held mid new : Option (List ℕ)) (e : ClientFault) (s t u : Side) → n < pieces_in piece size → n < most_pieces → Reaches n held mid s t
      → Delivers target (piece_range piece size n) mid new (Err e) t u → FetchesPieces target piece size held new (Err e) s u
  stopped n held mid new e s t u left few r d =
      let counts = r.counts in
      (r.given, t, mid, r.begun, (omega (arith, counts, left), inr (omega (arith, counts, few), subst (λ (k : ℕ). Delivers target (piece_range piece size k) mid new (Err e) t u) (sym counts) d)))

  pub too_many : (n : ℕ) (held new : Option (List ℕ)) (s t : Side) → n ≡ most_pieces → n < pieces_in piece size → Reaches n held new s t → FetchesPieces target piece size held new (Err fault.TooManyPages) s t
  too_many n held new s t all left r =
      let counts = r.counts in
      (r.given, t, new, r.begun, (omega (arith, counts, left), inl (refl, counts ∙ all, refl, refl)))

  pub all_came : (n : ℕ) (held new : Option (List ℕ)) (s t : Side) → pieces_in piece size ≤ n → n ≤ most_pieces → Reaches n held new s t → FetchesPieces target piece size held new (Ok tt) s t
  all_came n held new s t end few r =
      let counts = r.counts in
      let within = r.within in
      (r.given, r.begun, omega (arith, counts, within, end), omega (arith, counts, few))
