use Rattle.std.proofs.Common.{◌≡◌, take}
use Rattle.share_world.specs.Worlds.{commits_of}
use Rattle.share_world.proofs.kept.log_before.Given as goal

abbrev pub invariant-loop-event : goal.invariant-loop-event
invariant-loop-event l = l.log ≡ commits_of (take l.event-index l.events) l.location
