-- The first bytes, at most so many, before and behind a read.
use Rattle.std.proofs.Common.{◌≡◌, ◌≢◌, ℕ, ◌<◌, List, length, take, sym, ap, ◌∙◌, subst, arith}
use Rattle.std.proofs.lemmas.List.{take_all, length-take}
use Rattle.http_message.specs.Ends.{HasNoEnd}

pub window_short : (most : ℕ) (front old : List ℕ) → front ≡ take most old → length front ≢ most → length old < most
window_short most front old is short = omega (arith, ap length is, length-take most old, short)

pub window_whole : (most : ℕ) (front old : List ℕ) → front ≡ take most old → length front ≢ most → front ≡ old
window_whole most front old is short = is ∙ take_all most old (omega (arith, window_short most front old is short))

pub none_ended : (most start : ℕ) (front old new : List ℕ) → front ≡ take most old → length front ≢ most → new ≡ old → HasNoEnd front start
    → HasNoEnd new start × (length new < most)
none_ended most start front old new is short same none =
    let whole : front ≡ new = window_whole most front old is short ∙ sym same in (
      subst (λ w. HasNoEnd w start) whole none,
      omega (arith, ap length same, window_short most front old is short),
    )
