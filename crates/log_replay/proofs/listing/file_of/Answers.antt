use Rattle.std.proofs.Common.{◌≡◌, ◌<◌, ◌∙◌, sym, subst, arith}
use Rattle.std.specs.Prelude.{slice_get, Some}
use Rattle.std.proofs.lemmas.Bool.Decides.{nat_tests}
use Rattle.log_replay.proofs.FindLemmas.{found_at, not_found}
use Rattle.log_replay.proofs.SpotLemmas.{part_read}
use Rattle.log_replay.proofs.listing.file_of.Goals as goal

pub returns-then-spot : goal.returns-then-spot
returns-then-spot c =
    let none : c.spot_of-spot.result.at ≡ c.spot_of-spot.result.next = grind (arith, nat_tests, c.if-spot.true) in
    not_found c.args.parts.now c.args.path.now c.spot_of-spot.result.part c.spot_of-spot.result.at c.spot_of-spot.result.next c.spot_of-spot.ensures none

pub returns : goal.returns
returns c =
    let some : c.spot_of-spot.result.at < c.spot_of-spot.result.next = grind (arith, nat_tests, c.if-spot.false, c.spot_of-spot.ensures.start) in
    let here = c.deref.ensures ∙ sym (part_read c.args.parts.now c.spot_of-spot.result.part c.index-parts-spot.result c.spot_of-spot.ensures.here c.index-parts-spot.is) in
    found_at c.args.parts.now c.args.path.now c.spot_of-spot.result.part c.spot_of-spot.result.at c.spot_of-spot.result.next c.file.result.now c.spot_of-spot.ensures some
    (subst (λ fs. slice_get fs c.spot_of-spot.result.at ≡ Some c.file.result.now) here c.file.ensures)
