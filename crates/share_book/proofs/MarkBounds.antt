-- The marks of a log point at versions of it.
use Rattle.std.proofs.Common.{◌≡◌, ℕ, ◌+◌, ◌-◌, ◌<◌, Bool, true, false, List, [], ◌∷◌, ◌++◌, length, Option, Some, None, zero, suc, sym, refl, ap, ◌∙◌, subst, arith, append_assoc, length-append, map, get_or}
use Rattle.std.specs.List.{slice_get}
use Rattle.std.specs.Arc.{arc_value}
use Rattle.std.specs.declared.alloc.Global.{Global}
use Rattle.std.specs.declared.sync.Arc.{Arc}
use Rattle.std.proofs.lemmas.Option.{slice_get-get_or}
use Rattle.std.proofs.lemmas.List.{append-nil, length-map}
use Rattle.log_actions.specs.declared.actions.Action.{Action}
use Rattle.log_replay.specs.Times.{has_meta, has_protocol, last_mark, mark_after, marks_in, newer}
use Rattle.log_replay.specs.declared.times.Mark.{Mark}
use Rattle.log_replay.proofs.TimeLemmas.{mark_more, marks_end, marks_more}

-- the mark points below such a version
pub record IsBelow (n : ℕ) (m : Mark) : Type 0 where
  pub meta : m.meta_at < n
  pub protocol : m.protocol_at < n

abbrev AreBelow : ℕ → List Mark → Type 0
AreBelow n marks = (i : ℕ) (m : Mark) → slice_get marks i ≡ Some m → IsBelow n m

below_more : (n : ℕ) (m : Mark) → IsBelow n m → IsBelow (n + 1) m
below_more n m b = record { meta = let less = b.meta in omega arith; protocol = let less = b.protocol in omega arith }

newer_less : (former version : ℕ) (has : Bool) → former < version + 1 → newer former has version < version + 1
newer_less former version true less = omega arith
newer_less former version false less = less

after_below : (former : Option Mark) (version : ℕ) (own : List Action) → ((m : Mark) → former ≡ Some m → IsBelow version m) → IsBelow (version + 1) (mark_after former version own)
after_below None version own below = record { meta = newer_less 0 version (has_meta own) (omega arith); protocol = newer_less 0 version (has_protocol own) (omega arith) }
after_below (Some m) version own below =
    let b = below_more version m (below m refl) in
    record { meta = newer_less m.meta_at version (has_meta own) b.meta; protocol = newer_less m.protocol_at version (has_protocol own) b.protocol }

each_pushed : (n : ℕ) (marks : List Mark) (last : Mark) → AreBelow n marks → IsBelow n last → AreBelow n (marks ++ last ∷ [])
each_pushed n [] last below b zero m is = let same : last ≡ m = cc is in subst (IsBelow n) same b
each_pushed n [] last below b (suc i) m is = absurd (cc is)
each_pushed n (x ∷ xs) last below b zero m is = below zero m is
each_pushed n (x ∷ xs) last below b (suc i) m is = each_pushed n xs last (λ j v e. below (suc j) v e) b i m is

below_push : (log : List (List Action)) (c : List Action) → AreBelow (length log) (marks_in log) → AreBelow (length (log ++ c ∷ [])) (marks_in (log ++ c ∷ []))
below_push log c below =
    let mark : Mark = mark_after (last_mark log) (length log) c in
    let more : marks_in (log ++ c ∷ []) ≡ marks_in log ++ mark ∷ [] = marks_more log c mark (mark_more log c (last_mark log) (length log) refl refl) in
    let longer : length (log ++ c ∷ []) ≡ length log + 1 = length-append log (c ∷ []) in
    let last : IsBelow (length log + 1) mark = after_below (last_mark log) (length log) c (λ m is. below (length (marks_in log) - 1) m ((marks_end log).1 ∙ is)) in
    let each : AreBelow (length log + 1) (marks_in log ++ mark ∷ []) = each_pushed (length log + 1) (marks_in log) mark (λ i m is. below_more (length log) m (below i m is)) last in
    subst (λ (n : ℕ). AreBelow n (marks_in (log ++ c ∷ []))) (sym longer) (subst (AreBelow (length log + 1)) (sym more) each)

below_by : (front rest : List (List Action)) → AreBelow (length front) (marks_in front) → AreBelow (length (front ++ rest)) (marks_in (front ++ rest))
below_by front [] below = subst (λ (l : List (List Action)). AreBelow (length l) (marks_in l)) (sym (append-nil front)) below
below_by front (c ∷ cs) below = subst (λ (l : List (List Action)). AreBelow (length l) (marks_in l)) (append_assoc front (c ∷ []) cs) (below_by (front ++ c ∷ []) cs (below_push front c below))

-- each mark of a log points at versions of it
pub marks_are_below : (log : List (List Action)) (i : ℕ) (m : Mark) → slice_get (marks_in log) i ≡ Some m → IsBelow (length log) m
marks_are_below log = below_by [] log (λ i m is. absurd (cc is))

-- so each mark at a place does
pub mark_is_below : (commits : List (Arc (List Action) Global)) (marks : List Mark) (i : ℕ) (m : Mark) → marks ≡ marks_in (map arc_value commits) → i < length marks → IsBelow (length commits) (get_or marks i m)
mark_is_below commits marks i m marked less =
    let at : slice_get (marks_in (map arc_value commits)) i ≡ Some (get_or marks i m) = sym (ap (λ (ms : List Mark). slice_get ms i) marked) ∙ slice_get-get_or marks i m less in
    subst (λ (n : ℕ). IsBelow n (get_or marks i m)) (length-map commits arc_value) (marks_are_below (map arc_value commits) i (get_or marks i m) at)

-- a log has as many marks as versions
pub marks_counted : (log : List (List Action)) (marks : List Mark) → marks ≡ marks_in log → length marks ≡ length log
marks_counted log marks marked = ap (λ (ms : List Mark). length ms) marked ∙ (marks_end log).0
