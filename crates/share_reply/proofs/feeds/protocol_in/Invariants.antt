use Rattle.std.proofs.Common.{◌≡◌, drop, option_map}
use Rattle.std.specs.Prelude.{filter_map}
use Rattle.std.specs.List.{last_or}
use Rattle.log_replay.specs.Reconciliation.{as_protocol, last_protocol}
use Rattle.share_reply.proofs.feeds.protocol_in.Given as goal

abbrev pub invariant-loop-action : goal.invariant-loop-action
invariant-loop-action l = last_or (option_map (λ x. x.now) l.last) (filter_map as_protocol (drop l.action-index l.actions)) ≡ last_protocol l.actions
