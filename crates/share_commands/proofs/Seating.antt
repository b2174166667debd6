-- Desks that are made ready, one after another.
use Rattle.std.proofs.Common.{◌≡◌, ◌≢◌, ℕ, ◌+◌, ◌-◌, ◌<◌, ◌≤◌, ◌==◌, Bool, true, false, List, ◌∷◌, ◌++◌, length, drop, Option, Some, None, refl, sym, ap, ◌∙◌, subst, arith, eqb-true, eq-eqb, slice_index_or, slice_set, true≢false}
use Rattle.std.specs.Option.{IsSome, option_to_list}
use Rattle.std.proofs.lemmas.List.{get_or-set_same, get_or-set_other, get_or_default, drop_more, length-drop}
use Rattle.edge_core.specs.Faults.{Rose}
use Rattle.edge_core.specs.Lines.{ClosedLine}
use Rattle.edge_core.specs.Objects.{Objects}
use Rattle.share_commands.specs.Serve.{AllWait, DoorFails, Waits}
use Rattle.share_pool.specs.declared.desk.Desk.{Desk}

-- ---- one element of a list is set

other_index : (i k : ℕ) → (i == k) ≡ false → i ≢ k
other_index i k is e = true≢false (sym (eq-eqb i k e) ∙ is)

set_each_by : {X : Type 0} (Q : ℕ → X → Type 0) (xs : List X) (k : ℕ) (v : X) (i : ℕ) (d : X) (test : Bool) → (i == k) ≡ test → k < length xs → Q k v → (i ≢ k → Q i (slice_index_or xs i d)) → Q i (slice_index_or (slice_set xs k v) i d)
set_each_by Q xs k v i d true is less here there =
    subst (λ z. Q z (slice_index_or (slice_set xs k v) z d)) (sym (eqb-true i k is)) (subst (Q k) (sym (get_or-set_same xs k v d less)) here)
set_each_by Q xs k v i d false is less here there = subst (Q i) (sym (get_or-set_other xs k i v d (other_index i k is))) (there (other_index i k is))

-- what holds of the element that is set, and of each other one, holds of each
pub set_each : {X : Type 0} (Q : ℕ → X → Type 0) (xs : List X) (k : ℕ) (v : X) (i : ℕ) (d : X) → k < length xs → Q k v → (i ≢ k → Q i (slice_index_or xs i d)) → Q i (slice_index_or (slice_set xs k v) i d)
set_each Q xs k v i d less here there = set_each_by Q xs k v i d (i == k) refl less here there

-- ---- the next pass

pub next_pass : {P : Type 0} (passes rest new : List P) (len k : ℕ) (r : Option P) (p : P) → rest ≡ drop k passes → rest ≡ option_to_list r ++ new → len ≡ length rest → (0 < len → IsSome r) → k < length passes → (new ≡ drop (k + 1) passes) × (r ≡ Some (slice_index_or passes k p))
next_pass passes rest new len k (Some x) p at split count some less =
    let front : x ∷ new ≡ slice_index_or passes k p ∷ drop (k + 1) passes = sym split ∙ at ∙ drop_more passes k p less in
    (ap (drop 1) front, ap (λ l. Some (slice_index_or l 0 x)) front)
next_pass passes rest new len k None p at split count some less =
    let long : length rest ≡ length passes - k = ap length at ∙ length-drop k passes in
    absurd (true≢false (sym (some (omega (arith, less, long, count)))))

-- so the passes behind it are left
pub next_rest : {P : Type 0} (passes rest new : List P) (len k : ℕ) (r : Option P) → rest ≡ drop k passes → rest ≡ option_to_list r ++ new → len ≡ length rest → (0 < len → IsSome r) → k < length passes → new ≡ drop (k + 1) passes
next_rest passes rest new len k (Some x) at split count some less = (next_pass passes rest new len k (Some x) x at split count some less).0
next_rest passes rest new len k None at split count some less =
    let long : length rest ≡ length passes - k = ap length at ∙ length-drop k passes in
    absurd (true≢false (sym (some (omega (arith, less, long, count)))))

-- the desks that were made ready have their passes, and so has one more
pub one_has : {P D : Type 0} (pass : D → Option P) (passes : List P) (desks : List D) (k : ℕ) (now : D) (r : Option P) → k < length desks → pass now ≡ r → ((p : P) → r ≡ Some (slice_index_or passes k p))
    → ((i : ℕ) (d : D) (p : P) → i < k → pass (slice_index_or desks i d) ≡ Some (slice_index_or passes i p)) → (i : ℕ) (d : D) (p : P) → i < k + 1 → pass (slice_index_or (slice_set desks k now) i d) ≡ Some (slice_index_or passes i p)
one_has pass passes desks k now r less is next all i d p below =
    set_each (λ j x. pass x ≡ Some (slice_index_or passes j p)) desks k now i d less (is ∙ next p) (λ other. all i d p (omega (arith, other, below)))

-- what holds of the desks that were made ready holds of one more
pub one_keeps : {D : Type 0} (Q : D → Type 0) (desks : List D) (k : ℕ) (now : D) → k < length desks → Q now → ((i : ℕ) (d : D) → i < k → Q (slice_index_or desks i d)) → (i : ℕ) (d : D) → i < k + 1 → Q (slice_index_or (slice_set desks k now) i d)
one_keeps Q desks k now less here all i d below = set_each (λ j x. Q x) desks k now i d less here (λ other. all i d (omega (arith, other, below)))

-- ---- desks

module _ {N W C L : Type 0} (coming : N → Option (List (List ℕ))) (closed : N → Option (List ClosedLine)) (failed : N → ℕ) (listens : N → Option ℕ) (moments : C → Option (List ℕ)) (objects : W → Option Objects) (alone : W → Bool) (faults : W → ℕ) (stored : W → ℕ) where
  waits_on : (old mid new : Desk N W C L) → Waits coming closed failed listens moments objects alone faults stored old mid → Waits coming closed failed listens moments objects alone faults stored mid new → Waits coming closed failed listens moments objects alone faults stored old new
  waits_on old mid new a b = record {
    same_coming = b.same_coming ∙ a.same_coming;
    same_closed = b.same_closed ∙ a.same_closed;
    later = (let x = a.later in let y = b.later in omega arith);
    same_store = b.same_store ∙ a.same_store;
    same_clock = b.same_clock ∙ a.same_clock;
  }

  -- the desk that is made ready waits, and so do the others still
  pub one_more : (first desks : List (Desk N W C L)) (k : ℕ) (e now : Desk N W C L) → length desks ≡ length first → k < length first → AllWait coming closed failed listens moments objects alone faults stored (length first) first desks
      → Waits coming closed failed listens moments objects alone faults stored (slice_index_or desks k e) now → AllWait coming closed failed listens moments objects alone faults stored (length first) first (slice_set desks k now)
  one_more first desks k e now count less all waits = λ i d below.
      let here : Waits coming closed failed listens moments objects alone faults stored (slice_index_or first k d) now =
      waits_on (slice_index_or first k d) (slice_index_or desks k e) now (subst (Waits coming closed failed listens moments objects alone faults stored (slice_index_or first k d)) (get_or_default desks k d e (omega (arith, count, less))) (all k d less)) waits in
      set_each (λ j x. Waits coming closed failed listens moments objects alone faults stored (slice_index_or first j d) x) desks k now i d (omega (arith, count, less)) here (λ other. all i d below)

  -- that desk's door failed
  pub it_failed : (first desks : List (Desk N W C L)) (k : ℕ) (e now : Desk N W C L) → length desks ≡ length first → k < length first → AllWait coming closed failed listens moments objects alone faults stored (length first) first desks
      → Waits coming closed failed listens moments objects alone faults stored (slice_index_or desks k e) now → Rose (failed (slice_index_or desks k e).door) (failed now.door) → DoorFails coming closed failed listens moments objects alone faults stored (length first) first (slice_set desks k now)
  it_failed first desks k e now count less all waits rose = (
    one_more first desks k e now count less all waits,
    (
      k,
      less,
      λ d.
          let before : failed (slice_index_or first k d).door ≤ failed (slice_index_or desks k e).door =
          subst (λ (x : Desk N W C L). failed (slice_index_or first k d).door ≤ failed x.door) (get_or_default desks k d e (omega (arith, count, less))) (all k d less).later in
          subst (λ (x : Desk N W C L). Rose (failed (slice_index_or first k d).door) (failed x.door)) (sym (get_or-set_same desks k now d (omega (arith, count, less)))) (omega (arith, before, rose)),
    ),
  )
