use Rattle.std.proofs.Common.{◌≡◌, option_map, take}
use Rattle.share_core.specs.Answers.{chosen_replies}
use Rattle.share_world.specs.Standing.{Stands}
use Rattle.share_core.specs.Asks.{asks_of}
use Rattle.share_core.proofs.machine.replies_in.Given as goal

abbrev pub invariant-loop-at : goal.invariant-loop-at
invariant-loop-at l = record {
  stands : Stands l.world (take l.at l.events);
  replies : l.replies.items ≡ chosen_replies l.keys (option_map (λ r. r.now) l.recipient) (asks_of l.keys (take l.at l.events));
}
