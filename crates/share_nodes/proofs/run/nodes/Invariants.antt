use Rattle.std.proofs.Common.{◌≡◌, map, take}
use Rattle.share_nodes.specs.Steps.{world_of}
use Rattle.share_nodes.specs.Code.{step_of, world_in}
use Rattle.share_nodes.proofs.run.nodes.Given as goal

abbrev pub invariant-loop-step : goal.invariant-loop-step
invariant-loop-step l = world_in l.store.items l.seats.items ≡ world_of (map step_of (take l.step-index l.steps))
