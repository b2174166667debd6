use Rattle.std.proofs.Common.{◌∙◌}
use Rattle.log_replay.proofs.MapLemmas.{values_live}
use Rattle.mirror_table.proofs.wanted.in_order.Goals as goal

pub returns : goal.returns
returns c = λ actions h. c.in_ok-files.ensures.files ∙ values_live c.args.by_path.now actions c.in_ok-files.ensures.ordered h
