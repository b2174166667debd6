use Rattle.std.proofs.Common.{◌∙◌, ap}
use Rattle.part_values.specs.DigitPairs.{day_by_pairs}
use Rattle.part_values.proofs.Dates.{same}
use Rattle.part_values.proofs.day.day_of.Goals as goal

pub returns : goal.returns
returns c = c.day_by_pairs.ensures ∙ ap day_by_pairs c.as_bytes.ensures.value ∙ same c.args.text.now
