use Rattle.std.proofs.Common.{◌∙◌, append_assoc, refl}
use Rattle.mirror_table.proofs.shared.application.Goals as goal

pub returns : goal.returns
returns c = c.of.ensures ∙ c.in_ok-format.ensures.ok ∙ simp append_assoc refl
