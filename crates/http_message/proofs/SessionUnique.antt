-- A stream has one list of messages.
use Rattle.std.proofs.Common.{◌≡◌, ℕ, ◌+◌, ◌-◌, ◌^◌, min, Bool, true, false, List, [], ◌∷◌, length, refl, sym, ap, ◌∙◌, subst, arith}
use Rattle.std.proofs.lemmas.List.{length-append}
use Rattle.http_message.specs.Messages.{Reading, request, ended, truncated, bad, ReadsMessage}
use Rattle.http_message.specs.Sessions.{Request, Stop, place_behind, ReadsRequests, ReadsStop, ReadsSession}
use Rattle.http_message.specs.Sessions as stop
use Rattle.http_message.specs.declared.head.Head.{Head}
use Rattle.http_message.specs.declared.refusal.Flaw.{Flaw}
use Rattle.http_message.proofs.Unique.{reading_unique}

abbrev is_whole : Reading → Bool
is_whole (request head body closing rest) = true
is_whole ended = false
is_whole truncated = false
is_whole (bad flaw) = false

clash : false ≡ true → ⊥
clash e = cc

-- what ends the messages is no message
no_request : (s : Stop) (place : ℕ) (stream : List ℕ) (head : Head) (body : List ℕ) (closing : Bool) (rest : List ℕ) → ReadsStop s place stream → ReadsMessage stream (request head body closing rest) → ⊥
no_request stop.ended place stream head body closing rest p q = clash (ap is_whole (reading_unique 16777216 stream ended (request head body closing rest) p q))
no_request (stop.truncated at) place stream head body closing rest p q = clash (ap is_whole (reading_unique 16777216 stream truncated (request head body closing rest) p.1 q))
no_request (stop.bad at flaw) place stream head body closing rest p q = clash (ap is_whole (reading_unique 16777216 stream (bad flaw) (request head body closing rest) p.1 q))

stop_unique : (s t : Stop) (place : ℕ) (stream : List ℕ) → ReadsStop s place stream → ReadsStop t place stream → s ≡ t
stop_unique stop.ended stop.ended place stream p q = refl
stop_unique stop.ended (stop.truncated at) place stream p q = absurd (differ (reading_unique 16777216 stream ended truncated p q.1))
  where
    differ : ended ≡ truncated → ⊥
    differ e = cc
stop_unique stop.ended (stop.bad at flaw) place stream p q = absurd (differ (reading_unique 16777216 stream ended (bad flaw) p q.1))
  where
    differ : ended ≡ bad flaw → ⊥
    differ e = cc
stop_unique (stop.truncated at) stop.ended place stream p q = absurd (differ (reading_unique 16777216 stream truncated ended p.1 q))
  where
    differ : truncated ≡ ended → ⊥
    differ e = cc
stop_unique (stop.truncated at) (stop.truncated n) place stream p q = ap (λ m. stop.truncated m) (p.0 ∙ sym q.0)
stop_unique (stop.truncated at) (stop.bad n flaw) place stream p q = absurd (differ (reading_unique 16777216 stream truncated (bad flaw) p.1 q.1))
  where
    differ : truncated ≡ bad flaw → ⊥
    differ e = cc
stop_unique (stop.bad at flaw) stop.ended place stream p q = absurd (differ (reading_unique 16777216 stream (bad flaw) ended p.1 q))
  where
    differ : bad flaw ≡ ended → ⊥
    differ e = cc
stop_unique (stop.bad at flaw) (stop.truncated n) place stream p q = absurd (differ (reading_unique 16777216 stream (bad flaw) truncated p.1 q.1))
  where
    differ : bad flaw ≡ truncated → ⊥
    differ e = cc
stop_unique (stop.bad at flaw) (stop.bad n other_flaw) place stream p q =
    ap (λ m. stop.bad m flaw) (p.0 ∙ sym q.0) ∙ ap (λ f. stop.bad n f) (same flaw other_flaw (reading_unique 16777216 stream (bad flaw) (bad other_flaw) p.1 q.1))
  where
    same : (a b : Flaw) → bad a ≡ bad b → a ≡ b
    same a b e = cc

same_request : (g h : Head) (a b : List ℕ) (c d : Bool) (r s : List ℕ) → request g a c r ≡ request h b d s → (g ≡ h) × (a ≡ b) × (c ≡ d) × (r ≡ s)
same_request g h a b c d r s e = (cc, cc, cc, cc)

pub session_unique : (rs qs : List Request) (s t : Stop) (p : ℕ) (stream : List ℕ) → ReadsSession rs s p stream → ReadsSession qs t p stream → (rs ≡ qs) × (s ≡ t)
session_unique [] [] s t p stream x y =
    let first : ReadsStop s p stream = subst (λ n. ReadsStop s n stream) x.2.1 (subst (λ z. ReadsStop s x.0 z) x.2.0 x.3) in
    let second : ReadsStop t p stream = subst (λ n. ReadsStop t n stream) y.2.1 (subst (λ z. ReadsStop t y.0 z) y.2.0 y.3) in
    (refl, stop_unique s t p stream first second)
session_unique [] (q ∷ qs) s t p stream x y =
    let first : ReadsStop s p stream = subst (λ n. ReadsStop s n stream) x.2.1 (subst (λ z. ReadsStop s x.0 z) x.2.0 x.3) in
    let b = y.2 in
    absurd (no_request s p stream q.head q.body q.closes b.1 first b.4)
session_unique (r ∷ rs) [] s t p stream x y =
    let second : ReadsStop t p stream = subst (λ n. ReadsStop t n stream) y.2.1 (subst (λ z. ReadsStop t y.0 z) y.2.0 y.3) in
    let a = x.2 in
    absurd (no_request t p stream r.head r.body r.closes a.1 second a.4)
session_unique (r ∷ rs) (q ∷ qs) s t p stream x y =
    let a = x.2 in
    let b = y.2 in
    let same = same_request r.head q.head r.body q.body r.closes q.closes a.1 b.1 (reading_unique 16777216 stream (request r.head r.body r.closes a.1) (request q.head q.body q.closes b.1) a.4 b.4) in
    let sized : length a.0 ≡ length b.0 = omega (arith, ap length (sym a.2 ∙ b.2), length-append a.0 a.1, length-append b.0 b.1, ap length same.3) in
    let place : place_behind p a.0 ≡ place_behind p b.0 = ap (λ n. min (p + n) (2 ^ 64 - 1)) sized in
    let here : ReadsSession rs s (place_behind p b.0) b.1 = (
      x.0,
      x.1,
      subst (λ n. ReadsRequests rs n b.1 x.0 x.1) place (subst (λ z. ReadsRequests rs (place_behind p a.0) z x.0 x.1) same.3 a.5),
      x.3,
    ) in
    let rest = session_unique rs qs s t (place_behind p b.0) b.1 here (y.0, y.1, b.5, y.3) in
    let at = a.3 ∙ sym b.3 in
    let first : r ≡ q = λ i. record { at = at i; head = same.0 i; body = same.1 i; closes = same.2 i } in
    (ap (λ z. z ∷ rs) first ∙ ap (λ z. q ∷ z) rest.0, rest.1)
