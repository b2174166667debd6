use Rattle.delta_lines.specs.declared.kinds.DeltaLine.TheVariants as line
use Rattle.share_reply.specs.Formats.{text_in}
use Rattle.share_reply.proofs.lines.len_of.Goals as goal

pub returns-in-Protocol : goal.returns-in-Protocol
returns-in-Protocol c = rw (c.in-Protocol.is) (c.fed_len.ensures (text_in c.args.format (line.Protocol c.in-Protocol.protocol.now)) c.protocol_len.ensures)

pub returns-in-Meta : goal.returns-in-Meta
returns-in-Meta c = rw (c.in-Meta.is) (c.fed_len-in-Meta.ensures (text_in c.args.format (line.MetaData c.in-Meta.meta.now)) c.meta_len_in.ensures)

pub returns-in-End : goal.returns-in-End
returns-in-End c = rw (c.in-End.is) (c.fed_len-in-End.ensures (text_in c.args.format (line.End c.in-End.end.now)) (c.end_len_in.ensures c.args.format))
