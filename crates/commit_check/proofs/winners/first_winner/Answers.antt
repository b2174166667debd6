use Rattle.std.proofs.Common.{◌≡◌, ◌+◌, ap, sym, subst, ◌∙◌, map, drop, ◌<◌, length, arith}
use Rattle.std.specs.Arc.{arc_value}
use Rattle.std.specs.List.{list_any}
use Rattle.commit_check.specs.Shown.{first_from, shown}
use Rattle.commit_check.proofs.Places.{at_map, first_found, first_later, within_map}
use Rattle.commit_check.proofs.winners.first_winner.Goals as goal

pub returns-then-is_shown : goal.returns-then-is_shown
returns-then-is_shown c =
    let test = list_any (shown c.args.sign c.args.offered.now c.args.reading.now) in
    let ws = c.args.winners.now in
    let lt : c.loop-place.place < length ws = c.loop-place-test.true in
    first_found test (map arc_value ws) c.loop-place.place (c.args.from + c.loop-place.place) (arc_value c.index-winners-place.result) _ (within_map arc_value ws c.loop-place.place lt)
    (at_map arc_value ws c.loop-place.place c.index-winners-place.result lt c.index-winners-place.is)
    (ap test (sym (c.actions.ensures.value ∙ c.deref.ensures)) ∙ sym c.is_shown.ensures ∙ c.if-is_shown.true) c.loop-place.invariant

pub loop-place-preserved : goal.loop-place-preserved
loop-place-preserved c =
    let test = list_any (shown c.args.sign c.args.offered.now c.args.reading.now) in
    let ws = c.args.winners.now in
    let lt : c.loop-place.place < length ws = c.loop-place-test.true in
    let next : c.args.from + c.loop-place.place + 1 ≡ c.args.from + (c.loop-place.place + 1) = omega arith in
    subst (λ k. first_from (shown c.args.sign c.args.offered.now c.args.reading.now) k (drop (c.loop-place.place + 1) (map arc_value ws)) ≡ first_from (shown c.args.sign c.args.offered.now c.args.reading.now) c.args.from (map arc_value ws)) next
    (first_later test (map arc_value ws) c.loop-place.place (c.args.from + c.loop-place.place) (arc_value c.index-winners-place.result) _ (within_map arc_value ws c.loop-place.place lt)
    (at_map arc_value ws c.loop-place.place c.index-winners-place.result lt c.index-winners-place.is)
    (ap test (sym (c.actions.ensures.value ∙ c.deref.ensures)) ∙ sym c.is_shown.ensures ∙ c.if-is_shown.false) c.loop-place.invariant)
