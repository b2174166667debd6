use Rattle.std.proofs.Common.{◌≡◌, ◌<◌, ◌-◌, length, get_or, ◌∙◌, sym, subst, refl}
use Rattle.std.specs.Prelude.{slice_get, Some}
use Rattle.log_replay.proofs.SpotLemmas.{part_read}
use Rattle.log_replay.proofs.StartLemmas.{file_there, starts_first, starts_rising, within_part}
use Rattle.log_replay.proofs.places.file_in.Goals as goal

pub part_at-part-requires-clause-rising : goal.part_at-part-requires-clause-rising
part_at-part-requires-clause-rising c = λ i j lt inside. starts_rising c.args.parts.now c.args.starts.now i j c.requires.listing.sized c.requires.starts lt inside

pub part_at-part-requires-clause-first : goal.part_at-part-requires-clause-first
part_at-part-requires-clause-first c = starts_first c.args.parts.now c.args.starts.now c.args.place c.requires.starts c.requires.place

pub bounds-parts-part : goal.bounds-parts-part
bounds-parts-part c =
    (within_part c.args.parts.now c.args.starts.now c.args.place c.part_at-part.result (get_or c.args.starts.now c.part_at-part.result 0) c.requires.starts c.requires.place c.part_at-part.ensures.within refl c.part_at-part.ensures.low c.part_at-part.ensures.high).0

pub file-requires : goal.file-requires
file-requires c =
    let w = within_part c.args.parts.now c.args.starts.now c.args.place c.part_at-part.result (get_or c.args.starts.now c.part_at-part.result 0) c.requires.starts c.requires.place c.part_at-part.ensures.within refl c.part_at-part.ensures.low c.part_at-part.ensures.high in
    subst (λ fs. c.args.place - get_or c.args.starts.now c.part_at-part.result 0 < length fs) (part_read c.args.parts.now c.part_at-part.result c.index-parts-part.result w.0 c.index-parts-part.is ∙ sym c.deref.ensures) w.1

pub returns : goal.returns
returns c =
    let w = within_part c.args.parts.now c.args.starts.now c.args.place c.part_at-part.result (get_or c.args.starts.now c.part_at-part.result 0) c.requires.starts c.requires.place c.part_at-part.ensures.within refl c.part_at-part.ensures.low c.part_at-part.ensures.high in
    file_there c.args.parts.now c.args.place c.part_at-part.result (get_or c.args.starts.now c.part_at-part.result 0) c.file.result.now w.0 w.2 c.part_at-part.ensures.low w.1
    (subst (λ fs. slice_get fs (c.args.place - get_or c.args.starts.now c.part_at-part.result 0) ≡ Some c.file.result.now) (c.deref.ensures ∙ sym (part_read c.args.parts.now c.part_at-part.result c.index-parts-part.result w.0 c.index-parts-part.is)) c.file.ensures)
    c.requires.place
