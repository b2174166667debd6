use Rattle.std.proofs.Common.{◌≡◌, ◌∷◌, refl, length, take, sym, ap, ◌∙◌, subst, arith}
use Rattle.std.proofs.lemmas.List.{length-take}
use Rattle.http_message.specs.Ends.{HasNoEnd}
use Rattle.http_wire.specs.Parts.{IsTrailersOpen}
use Rattle.http_wire.proofs.Looks.{still_within, still_no_trailers}
use Rattle.http_wire.proofs.Streams.{awaits_read, awaits_more}
use Rattle.http_wire.proofs.Windows.{window_short, none_ended}
use Rattle.http_wire.proofs.reading.await_trailers.Goals as goal

pub turns-preserved : goal.turns-preserved
turns-preserved g c =
    let window : c.front-front.result.now ≡ take 16384 c.turns.inbox.0 = c.front-front.ensures ∙ ap (take 16384) c.bytes.ensures in
    let none = none_ended 16385 1 (10 ∷ c.front-front.result.now) (10 ∷ c.turns.inbox.0) (10 ∷ c.turns.inbox.0) (ap (λ x. 10 ∷ x) window) (λ e. c.if-front-eq-MOST.false (omega (arith, e))) refl c.in_default.ensures in
    let short : IsTrailersOpen c.turns.inbox.0 = (none.0, omega (arith, none.1)) in
    let grown = awaits_more g.S.Source.left _ _ _ _ _ c.in_ok-fill.ensures.draws in
    record { draws = awaits_read g.S.Source.left IsTrailersOpen _ _ _ _ _ _ c.turns.invariant.draws short c.in_ok-fill.ensures.draws; later = omega (arith, c.turns.invariant.later, c.in_ok-fill.ensures.later); within = still_within 16384 (length c.front-front.result.now) c.turns.inbox.0 c.fill.new.self.0 grown.0 grown.1 (omega (arith, ap length window)); none = still_no_trailers (length c.front-front.result.now) c.front-front.result.now c.turns.inbox.0 c.fill.new.self.0 grown.0 grown.1 window refl c.in_default.ensures }

pub returns-then-front-eq-MOST-clause-told : goal.returns-then-front-eq-MOST-clause-told
returns-then-front-eq-MOST-clause-told g c =
    let window : c.front-front.result.now ≡ take 16384 c.turns.inbox.0 = c.front-front.ensures ∙ ap (take 16384) c.bytes.ensures in
    (subst (λ w. HasNoEnd (10 ∷ w) 1) window c.in_default.ensures, omega (arith, ap length window, length-take 16384 c.turns.inbox.0, c.if-front-eq-MOST.true))

pub turns-smaller : goal.turns-smaller
turns-smaller g c =
    let more = rw c.in-More.is at c.in_ok-fill.ensures.told in
    let window : c.front-front.result.now ≡ take 16384 c.turns.inbox.0 = c.front-front.ensures ∙ ap (take 16384) c.bytes.ensures in
    let short = window_short 16384 c.front-front.result.now c.turns.inbox.0 window c.if-front-eq-MOST.false in
    omega (arith, more, short)

pub returns-in-End-clause-told : goal.returns-in-End-clause-told
returns-in-End-clause-told g c =
    let told = rw c.in-End.is at c.in_ok-fill.ensures.told in
    let window : c.front-front.result.now ≡ take 16384 c.turns.inbox.0 = c.front-front.ensures ∙ ap (take 16384) c.bytes.ensures in
    let none = none_ended 16385 1 (10 ∷ c.front-front.result.now) (10 ∷ c.turns.inbox.0) (10 ∷ c.turns.inbox.0) (ap (λ x. 10 ∷ x) window) (λ e. c.if-front-eq-MOST.false (omega (arith, e))) refl c.in_default.ensures in
    let short : IsTrailersOpen c.turns.inbox.0 = (none.0, omega (arith, none.1)) in
    (told.1, subst IsTrailersOpen (sym told.0) short)

pub returns-in_err-fill-clause-draws : goal.returns-in_err-fill-clause-draws
returns-in_err-fill-clause-draws g c =
    let window : c.front-front.result.now ≡ take 16384 c.turns.inbox.0 = c.front-front.ensures ∙ ap (take 16384) c.bytes.ensures in
    let none = none_ended 16385 1 (10 ∷ c.front-front.result.now) (10 ∷ c.turns.inbox.0) (10 ∷ c.turns.inbox.0) (ap (λ x. 10 ∷ x) window) (λ e. c.if-front-eq-MOST.false (omega (arith, e))) refl c.in_default.ensures in
    let short : IsTrailersOpen c.turns.inbox.0 = (none.0, omega (arith, none.1)) in
    awaits_read g.S.Source.left IsTrailersOpen _ _ _ _ _ _ c.turns.invariant.draws short c.in_err-fill.ensures.draws

pub returns-in-End-clause-draws : goal.returns-in-End-clause-draws
returns-in-End-clause-draws g c =
    let window : c.front-front.result.now ≡ take 16384 c.turns.inbox.0 = c.front-front.ensures ∙ ap (take 16384) c.bytes.ensures in
    let none = none_ended 16385 1 (10 ∷ c.front-front.result.now) (10 ∷ c.turns.inbox.0) (10 ∷ c.turns.inbox.0) (ap (λ x. 10 ∷ x) window) (λ e. c.if-front-eq-MOST.false (omega (arith, e))) refl c.in_default.ensures in
    let short : IsTrailersOpen c.turns.inbox.0 = (none.0, omega (arith, none.1)) in
    awaits_read g.S.Source.left IsTrailersOpen _ _ _ _ _ _ c.turns.invariant.draws short c.in_ok-fill.ensures.draws
