-- The mark of each version of a log says its time, and whether its feed is on.
use Rattle.std.proofs.Common.{◌≡◌, ℕ, ℤ, zero, suc, ◌+◌, ◌-◌, ◌<◌, List, [], ◌∷◌, ◌++◌, Option, Some, None, length, take, drop, refl, sym, ap, ◌∙◌, arith, pos, append_assoc}
use Rattle.std.specs.Prelude.{slice_get, unwrap_or}
use Rattle.std.proofs.lemmas.List.{append-nil, take-append-drop, length-take-le}
use Rattle.log_actions.specs.declared.actions.Action.{Action}
use Rattle.log_replay.specs.Reconciliation.{actions_in, last_meta}
use Rattle.log_replay.specs.Times.{has_feed, last_mark, last_time, mark_after, mark_with, marks_in}
use Rattle.log_replay.specs.declared.times.Mark.{Mark}
use Rattle.log_replay.proofs.TimeLemmas.{mark_more, marks_end, marks_more}
use Rattle.change_feed.specs.Feed.{is_on, time_at}

-- an element before the end of a front is the front's
pub get_front : {X : Type 0} (xs ys : List X) (i : ℕ) → i < length xs → slice_get (xs ++ ys) i ≡ slice_get xs i
get_front [] ys i lt = absurd (omega (arith, lt))
get_front (x ∷ xs) ys zero lt = refl
get_front (x ∷ xs) ys (suc i) lt = get_front xs ys i (omega (arith, lt))

-- a place before the end has an element
there : {X : Type 0} (xs : List X) (i : ℕ) → i < length xs → (x : X) × (slice_get xs i ≡ Some x)
there [] i lt = absurd (omega (arith, lt))
there (x ∷ xs) zero lt = (x, refl)
there (x ∷ xs) (suc i) lt = there xs i (omega (arith, lt))

-- the marks of a front stand before the others
marks_front : (front rest : List (List Action)) → (more : List Mark) × (marks_in (front ++ rest) ≡ marks_in front ++ more)
marks_front front [] = ([], ap marks_in (append-nil front) ∙ sym (append-nil (marks_in front)))
marks_front front (c ∷ cs) =
    let m : Mark = mark_after (last_mark front) (length front) c in
    let longer : (more : List Mark) × (marks_in ((front ++ c ∷ []) ++ cs) ≡ marks_in (front ++ c ∷ []) ++ more) = marks_front (front ++ c ∷ []) cs in
    let one : marks_in (front ++ c ∷ []) ≡ marks_in front ++ m ∷ [] = marks_more front c m (mark_more front c (last_mark front) (length front) refl refl) in
    (m ∷ longer.0, ap marks_in (sym (append_assoc front (c ∷ []) cs)) ∙ longer.1 ∙ ap (λ ms. ms ++ longer.0) one ∙ append_assoc (marks_in front) (m ∷ []) longer.0)

-- a version's mark is the last one of the log up to it
mark_at : (log : List (List Action)) (version : ℕ) → version < length log → slice_get (marks_in log) version ≡ last_mark (take (version + 1) log)
mark_at log version lt =
    let front : List (List Action) = take (version + 1) log in
    let parts : front ++ drop (version + 1) log ≡ log = take-append-drop (version + 1) log in
    let long : length front ≡ version + 1 = length-take-le (version + 1) log (omega (arith, lt)) in
    let end = marks_end front in
    let all = marks_front front (drop (version + 1) log) in
    let within : version < length (marks_in front) = omega (arith, end.0, long) in
    let last : length (marks_in front) - 1 ≡ version = omega (arith, end.0, long) in
    ap (λ l. slice_get (marks_in l) version) (sym parts)
    ∙ ap (λ ms. slice_get ms version) all.1
    ∙ get_front (marks_in front) all.0 version within
    ∙ ap (slice_get (marks_in front)) (sym last)
    ∙ end.1

-- a version's mark, and what it says
pub record Says (log : List (List Action)) (version : ℕ) (m : Mark) : Type 0 where
  pub at : slice_get (marks_in log) version ≡ Some m
  pub time : m.time ≡ time_at log version
  pub feed : m.feed ≡ is_on log version

abbrev or_else : Mark → Option Mark → Mark
or_else d o = unwrap_or o d

said : (t : Option ℤ) (front : List (List Action)) (m : Mark) → mark_with t front ≡ Some m → (m.time ≡ unwrap_or t (pos 0)) × (m.feed ≡ has_feed (last_meta (actions_in front)))
said None front m is = absurd (cc)
said (Some t) front m is = (ap (λ o. (or_else m o).time) (sym is), ap (λ o. (or_else m o).feed) (sym is))

pub version_says : (log : List (List Action)) (version : ℕ) → version < length log → (m : Mark) × Says log version m
version_says log version lt =
    let end = marks_end log in
    let found : (m : Mark) × (slice_get (marks_in log) version ≡ Some m) = there (marks_in log) version (omega (arith, end.0, lt)) in
    let says = said (last_time (take (version + 1) log)) (take (version + 1) log) found.0 (sym (mark_at log version lt) ∙ found.1) in
    (found.0, record { at = found.1; time = says.0; feed = says.1 })
