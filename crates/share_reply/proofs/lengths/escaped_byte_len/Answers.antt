use Rattle.std.proofs.Common.{◌∙◌, sym, ap, cond}
use Rattle.share_reply.proofs.PrintedLengths.{length-escaped_byte}
use Rattle.share_reply.proofs.lengths.escaped_byte_len.Goals as goal

pub returns-else-is_unreserved-clause-counted : goal.returns-else-is_unreserved-clause-counted
returns-else-is_unreserved-clause-counted c =
    sym (length-escaped_byte c.args.byte ∙ ap (λ kept. cond kept 1 3) (sym c.is_unreserved.ensures ∙ c.if-is_unreserved.false))
