use Rattle.std.proofs.Common.{length, sym, ap, ◌∙◌}
use Rattle.share_reply.proofs.LinkLengths.{name_plain}
use Rattle.share_reply.proofs.lengths.name_len.Goals as goal

pub returns-clause-counted : goal.returns-clause-counted
returns-clause-counted c = ap length c.as_str.ensures.value ∙ sym (name_plain c.args.name.now c.as_str.ensures.good)
