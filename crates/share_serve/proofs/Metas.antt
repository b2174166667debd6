-- The last metaData of a log stands in the last commit that has one.
use Rattle.std.proofs.Common.{◌≡◌, ◌⊎◌, inl, inr, ℕ, ℤ, zero, suc, ◌+◌, ◌-◌, ◌<◌, List, [], ◌∷◌, ◌++◌, Bool, true, false, cond, Option, Some, None, option_map, length, take, drop, refl, sym, ap, ◌∙◌, arith, append_assoc}
use Rattle.std.specs.Prelude.{is_some, filter_map, find, fold, slice_get, unwrap_or}
use Rattle.std.specs.List.{last_or, range_with_len}
use Rattle.std.proofs.lemmas.List.{append-nil, take-append-drop, length-take-le}
use Rattle.std.proofs.lemmas.List.Elements.{filter_map-append}
use Rattle.log_actions.specs.declared.actions.Action.{Action}
use Rattle.log_actions.specs.declared.actions.MetaData.{MetaData}
use Rattle.log_replay.specs.Reconciliation.{actions_in, as_meta, last_meta, meta_at}
use Rattle.log_replay.specs.Times.{has_meta, last_mark, last_time, last_version, mark_after, mark_with, marks_in, places, stamp_of, time_after}
use Rattle.log_replay.specs.declared.times.Mark.{Mark}
use Rattle.log_replay.proofs.TimeLemmas.{mark_more, marks_end, marks_more}

-- the last of two lists, one after the other
last_joined : {X : Type 0} (o : Option X) (xs ys : List X) → last_or o (xs ++ ys) ≡ last_or (last_or o xs) ys
last_joined o [] ys = refl
last_joined o (x ∷ xs) ys = last_joined (Some x) xs ys

last_none : {X : Type 0} (o : Option X) (xs : List X) → last_or None xs ≡ None → last_or o xs ≡ o
last_none o [] e = refl
last_none o (x ∷ xs) e = absurd (some_stays x xs e)
  where
    some_stays : {X : Type 0} (x : X) (xs : List X) → last_or (Some x) xs ≡ None → ⊥
    some_stays x [] e = cc
    some_stays x (y ∷ ys) e = some_stays y ys e

last_some : {X : Type 0} (o : Option X) (xs : List X) (y : X) → last_or None xs ≡ Some y → last_or o xs ≡ Some y
last_some o [] y e = absurd cc
last_some o (x ∷ xs) y e = e

abbrev meta_of : Option MetaData → List (List Action) → Option MetaData
meta_of o log = last_or o (filter_map as_meta (actions_in log))

abbrev place_of : Option ℕ → ℕ → List (List Action) → Option ℕ
place_of k n log = last_or k (places n has_meta log)

-- it was said before, or by a commit that stands there
pub record At (k : Option ℕ) (n : ℕ) (log : List (List Action)) (m : MetaData) : Type 0 where
  place : ℕ
  commit : List Action
  is_place : place_of k n log ≡ Some (n + place)
  is_commit : slice_get log place ≡ Some commit
  is_meta : last_meta commit ≡ Some m

abbrev Before : Option MetaData → Option ℕ → ℕ → List (List Action) → MetaData → Type 0
Before o k n log m = (place_of k n log ≡ k) × (o ≡ Some m)

meta_joined : (o : Option MetaData) (c : List Action) (cs : List (List Action)) → meta_of o (c ∷ cs) ≡ meta_of (last_or o (filter_map as_meta c)) cs
meta_joined o c cs = ap (last_or o) (filter_map-append as_meta c (actions_in cs)) ∙ last_joined o (filter_map as_meta c) (filter_map as_meta (actions_in cs))

place_said : (k : Option ℕ) (n : ℕ) (c : List Action) (cs : List (List Action)) (b : Bool) → has_meta c ≡ b → place_of k n (c ∷ cs) ≡ place_of (cond b (Some n) k) (n + 1) cs
place_said k n c cs true e = ap (λ (b : Bool). last_or k (cond b (n ∷ places (n + 1) has_meta cs) (places (n + 1) has_meta cs))) e
place_said k n c cs false e = ap (λ (b : Bool). last_or k (cond b (n ∷ places (n + 1) has_meta cs) (places (n + 1) has_meta cs))) e

later_at : (k k' : Option ℕ) (n : ℕ) (c : List Action) (cs : List (List Action)) (m : MetaData) → place_of k n (c ∷ cs) ≡ place_of k' (n + 1) cs → At k' (n + 1) cs m → At k n (c ∷ cs) m
later_at k k' n c cs m e at =
    let next : n + 1 + at.place ≡ n + suc at.place = omega arith in
    record { place = suc at.place; commit = at.commit; is_place = e ∙ at.is_place ∙ ap (λ (i : ℕ). Some i) next; is_commit = at.is_commit; is_meta = at.is_meta }

silent : (o : Option MetaData) (k : Option ℕ) (n : ℕ) (c : List Action) (cs : List (List Action)) (m : MetaData) → last_meta c ≡ None → Before o k (n + 1) cs m ⊎ At k (n + 1) cs m → Before o k n (c ∷ cs) m ⊎ At k n (c ∷ cs) m
silent o k n c cs m is (inl b) = inl (place_said k n c cs false (ap is_some is) ∙ b.0, b.1)
silent o k n c cs m is (inr at) = inr (later_at k k n c cs m (place_said k n c cs false (ap is_some is)) at)

says : (o : Option MetaData) (k : Option ℕ) (n : ℕ) (c : List Action) (cs : List (List Action)) (m x : MetaData) → last_meta c ≡ Some x → Before (Some x) (Some n) (n + 1) cs m ⊎ At (Some n) (n + 1) cs m → Before o k n (c ∷ cs) m ⊎ At k n (c ∷ cs) m
says o k n c cs m x is (inl b) =
    let same : n ≡ n + 0 = omega arith in
    inr (record { place = 0; commit = c; is_place = place_said k n c cs true (ap is_some is) ∙ b.0 ∙ ap (λ (i : ℕ). Some i) same; is_commit = refl; is_meta = is ∙ b.1 })
says o k n c cs m x is (inr at) = inr (later_at k (Some n) n c cs m (place_said k n c cs true (ap is_some is)) at)

-- what holds behind a commit
held : (o : Option MetaData) (c : List Action) (cs : List (List Action)) (m : MetaData) (x : Option MetaData) → last_or o (filter_map as_meta c) ≡ x → meta_of o (c ∷ cs) ≡ Some m → meta_of x cs ≡ Some m
held o c cs m x is e = ap (λ (z : Option MetaData). meta_of z cs) (sym is) ∙ sym (meta_joined o c cs) ∙ e

stands : (o : Option MetaData) (k : Option ℕ) (n : ℕ) (log : List (List Action)) (m : MetaData) → meta_of o log ≡ Some m → Before o k n log m ⊎ At k n log m
stands o k n [] m e = inl (refl, e)
stands o k n (c ∷ cs) m e =
    elim (last_meta c) as (λ x. last_meta c ≡ x → Before o k n (c ∷ cs) m ⊎ At k n (c ∷ cs) m) [
      | None ↦ λ is. silent o k n c cs m is (stands o k (n + 1) cs m (held o c cs m o (last_none o (filter_map as_meta c) is) e))
      | Some x ↦ λ is. says o k n c cs m x is (stands (Some x) (Some n) (n + 1) cs m (held o c cs m (Some x) (last_some o (filter_map as_meta c) x is) e))
    ] refl

-- ---- the commit that a mark points at

-- the last version whose commit has a metaData, and the commit
pub record Holds (log : List (List Action)) (m : MetaData) : Type 0 where
  pub commit : List Action
  pub is_commit : slice_get log (last_version has_meta log) ≡ Some commit
  pub is_meta : last_meta commit ≡ Some m

none_said : (m : MetaData) → None ≡ Some m → ⊥
none_said m e = cc

pub holds : (log : List (List Action)) (m : MetaData) → last_meta (actions_in log) ≡ Some m → Holds log m
holds log m e =
    elim (stands None None 0 log m e) as (λ s. Holds log m) [
      | inl b ↦ absurd (none_said m b.1)
      | inr at ↦ (
          let place : last_version has_meta log ≡ at.place = ap (λ (o : Option ℕ). unwrap_or o 0) at.is_place ∙ omega arith in
          record { commit = at.commit; is_commit = ap (slice_get log) place ∙ at.is_commit; is_meta = at.is_meta })
    ]

-- the marks of a front stand before the others
marks_front : (front rest : List (List Action)) → (more : List Mark) × (marks_in (front ++ rest) ≡ marks_in front ++ more)
marks_front front [] = ([], ap marks_in (append-nil front) ∙ sym (append-nil (marks_in front)))
marks_front front (c ∷ cs) =
    let m : Mark = mark_after (last_mark front) (length front) c in
    let longer : (more : List Mark) × (marks_in ((front ++ c ∷ []) ++ cs) ≡ marks_in (front ++ c ∷ []) ++ more) = marks_front (front ++ c ∷ []) cs in
    let one : marks_in (front ++ c ∷ []) ≡ marks_in front ++ m ∷ [] = marks_more front c m (mark_more front c (last_mark front) (length front) refl refl) in
    (m ∷ longer.0, ap marks_in (sym (append_assoc front (c ∷ []) cs)) ∙ longer.1 ∙ ap (λ ms. ms ++ longer.0) one ∙ append_assoc (marks_in front) (m ∷ []) longer.0)

get_front : {X : Type 0} (xs ys : List X) (i : ℕ) → i < length xs → slice_get (xs ++ ys) i ≡ slice_get xs i
get_front [] ys i lt = absurd (omega (arith, lt))
get_front (x ∷ xs) ys zero lt = refl
get_front (x ∷ xs) ys (suc i) lt = get_front xs ys i (omega (arith, lt))

got_front : {X : Type 0} (xs ys : List X) (i : ℕ) (x : X) → slice_get xs i ≡ Some x → slice_get (xs ++ ys) i ≡ Some x
got_front [] ys i x e = absurd cc
got_front (z ∷ xs) ys zero x e = e
got_front (z ∷ xs) ys (suc i) x e = got_front xs ys i x e

mark_at : (front rest : List (List Action)) (version : ℕ) → length front ≡ version + 1 → slice_get (marks_in (front ++ rest)) version ≡ last_mark front
mark_at front rest version long =
    let end = marks_end front in
    let all = marks_front front rest in
    let within : version < length (marks_in front) = omega (arith, end.0, long) in
    let last : length (marks_in front) - 1 ≡ version = omega (arith, end.0, long) in
    ap (λ ms. slice_get ms version) all.1 ∙ get_front (marks_in front) all.0 version within ∙ ap (slice_get (marks_in front)) (sym last) ∙ end.1

-- the version whose metaData a mark says holds
abbrev pointed : Option Mark → ℕ
pointed o = unwrap_or (option_map (λ m. m.meta_at) o) 0

points : (t : Option ℤ) (front : List (List Action)) (z : ℤ) → t ≡ Some z → pointed (mark_with t front) ≡ last_version has_meta front
points None front z is = absurd cc
points (Some y) front z is = refl

has_time : (log : List (List Action)) (o : Option ℤ) → 0 < length log → (z : ℤ) × (fold (λ former commit. Some (time_after former (stamp_of commit))) o log ≡ Some z)
has_time [] o lt = absurd (omega (arith, lt))
has_time (c ∷ []) o lt = (time_after o (stamp_of c), refl)
has_time (c ∷ d ∷ cs) o lt = has_time (d ∷ cs) (Some (time_after o (stamp_of c))) (omega arith)

-- The metaData that holds at a version is in the commit that the version's mark points at.
pub meta_marked : (log : List (List Action)) (version : ℕ) (m : MetaData) → version < length log → meta_at log version ≡ Some m → last_meta (unwrap_or (slice_get log (pointed (slice_get (marks_in log) version))) []) ≡ Some m
meta_marked log version m lt is =
    let front : List (List Action) = take (version + 1) log in
    let rest : List (List Action) = drop (version + 1) log in
    let parts : front ++ rest ≡ log = take-append-drop (version + 1) log in
    let long : length front ≡ version + 1 = length-take-le (version + 1) log (omega (arith, lt)) in
    let h : Holds front m = holds front m is in
    let timed = has_time front None (omega (arith, long)) in
    let mark : pointed (slice_get (marks_in log) version) ≡ last_version has_meta front =
    ap (λ l. pointed (slice_get (marks_in l) version)) (sym parts) ∙ ap pointed (mark_at front rest version long) ∙ points (last_time front) front timed.0 timed.1 in
    let there : slice_get log (last_version has_meta front) ≡ Some h.commit = ap (λ l. slice_get l (last_version has_meta front)) (sym parts) ∙ got_front front rest (last_version has_meta front) h.commit h.is_commit in
    ap (λ i. last_meta (unwrap_or (slice_get log i) [])) mark ∙ ap (λ (o : Option (List Action)). last_meta (unwrap_or o [])) there ∙ h.is_meta

-- ---- a test that nothing in a range passes

pub none_within : (p : ℕ → Bool) (first n k : ℕ) → find p (range_with_len first n) ≡ None → k < n → p (first + k) ≡ false
none_within p first zero k e lt = absurd (omega (arith, lt))
none_within p first (suc n) zero e lt =
    let same : first ≡ first + 0 = omega arith in
    elim (p first) as (λ b. p first ≡ b → cond b (Some first) (find p (range_with_len (first + 1) n)) ≡ None → p (first + 0) ≡ false) [ true ↦ λ is f. absurd cc | false ↦ λ is f. ap p (sym same) ∙ is ] refl e
none_within p first (suc n) (suc k) e lt =
    let same : (first + 1) + k ≡ first + suc k = omega arith in
    elim (p first) as (λ b. p first ≡ b → cond b (Some first) (find p (range_with_len (first + 1) n)) ≡ None → p (first + suc k) ≡ false) [
      | true ↦ λ is f. absurd cc
      | false ↦ λ is f. ap p (sym same) ∙ none_within p (first + 1) n k f (omega (arith, lt))
    ] refl e
