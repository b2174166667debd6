use Rattle.std.proofs.Common.{◌∙◌, ap, sym}
use Rattle.log_commit.specs.Rules.{commit_from}
use Rattle.mirror_table.proofs.Following.{placed_well}
use Rattle.mirror_table.proofs.follow.made.Goals as goal

pub returns-in-Ok : goal.returns-in-Ok
returns-in-Ok c = λ log head.
    placed_well log c.args.bytes c.args.actions.items c.in-Ok.commit c.placed.result (ap commit_from (sym c.of.ensures) ∙ c.in-Ok.ensures.value) (c.placed.ensures log head)
