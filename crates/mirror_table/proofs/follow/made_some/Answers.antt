use Rattle.std.proofs.Common.{Err, Ok}
use Rattle.mirror_table.specs.Refusals.{placed_after}
use Rattle.mirror_table.proofs.Following.{some_told}
use Rattle.mirror_table.proofs.follow.made_some.Goals as goal

pub returns-in-Ok : goal.returns-in-Ok
returns-in-Ok c = λ log head. some_told (Ok c.in-Ok.commit) (placed_after log c.args.bytes c.args.actions.items) (c.in-Ok.ensures log head)

pub returns-in-Err : goal.returns-in-Err
returns-in-Err c = λ log head. some_told (Err c.in-Err.end) (placed_after log c.args.bytes c.args.actions.items) (c.in-Err.ensures log head)
