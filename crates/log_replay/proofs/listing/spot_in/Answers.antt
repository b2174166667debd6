use Rattle.std.proofs.Common.{◌<◌, ◌+◌, length, sym, subst, ◌∙◌, arith, refl}
use Rattle.log_replay.specs.Listing.{CutsAt, StandsAt}
use Rattle.log_replay.specs.Snapshots.{PathsRise}
use Rattle.log_replay.proofs.SpotLemmas.{part_read, part_rises, spot_cuts, spot_here}
use Rattle.log_replay.proofs.listing.spot_in.Goals as goal

pub search-requires : goal.search-requires
search-requires c =
    let lt : c.args.part < length c.args.parts.now = omega (arith, c.requires.falls.0) in
    subst PathsRise (part_read c.args.parts.now c.args.part c.index-parts-part.result lt c.index-parts-part.is ∙ sym c.deref.ensures) (part_rises c.args.parts.now c.args.part lt c.requires.listing.rise)

pub returns-in-Ok : goal.returns-in-Ok
returns-in-Ok c =
    let lt : c.args.part < length c.args.parts.now = omega (arith, c.requires.falls.0) in
    spot_here c.args.parts.now c.args.path.now c.args.part c.in-Ok.at c.requires.listing.rise lt
    (subst (λ v. StandsAt c.args.path.now v c.in-Ok.at) (c.deref.ensures ∙ sym (part_read c.args.parts.now c.args.part c.index-parts-part.result lt c.index-parts-part.is)) c.in-Ok.ensures)

pub returns-in-Err : goal.returns-in-Err
returns-in-Err c =
    let lt : c.args.part < length c.args.parts.now = omega (arith, c.requires.falls.0) in
    spot_cuts c.args.parts.now c.args.path.now (c.args.part + 1) c.args.part c.in-Err.at c.requires.listing refl c.requires.falls
    (subst (λ v. CutsAt c.args.path.now v c.in-Err.at) (c.deref.ensures ∙ sym (part_read c.args.parts.now c.args.part c.index-parts-part.result lt c.index-parts-part.is)) c.in-Err.ensures)
