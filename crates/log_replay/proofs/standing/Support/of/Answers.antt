use Rattle.std.proofs.Common.{◌∙◌, rules}
use Rattle.log_replay.proofs.CheckpointLemmas.{state_stands}
use Rattle.log_replay.proofs.standing.Support.of.Goals as goal

pub returns : goal.returns
returns c = λ log is.
    state_stands log c.args.state.now c.in-Some.versions c.in_ok-protocol.protocol c.in_ok-meta.meta (search rules) (c.in_ok-protocol.ensures ∙ c.protocol.ensures) (c.in_ok-meta.ensures ∙ c.meta.ensures) is
