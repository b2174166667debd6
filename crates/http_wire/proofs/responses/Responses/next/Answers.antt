use Rattle.std.proofs.Common.{Ok}
use Rattle.std.specs.declared.alloc.AllocError.{AllocError}
use Rattle.http_wire.specs.declared.inbox.Halt.{Halt}
use Rattle.http_wire.proofs.Replies.{told_read, within, same_reply}
use Rattle.http_wire.proofs.responses.Responses.next.Goals as goal

pub returns-in-Ok-clause-told : goal.returns-in-Ok-clause-told
returns-in-Ok-clause-told g c =
    let read = c.in-Ok.ensures.read in
    rw (← c.self.view_is) (told_read g.S.Source.left c.args.to_head _ _ _ _ (Ok c.in-Ok.reply) (read.0, read.1, read.2, same_reply Halt AllocError c.args.to_head _ read.1 _ _ c.in-Ok.reply read.3))

pub returns-in-Ok-clause-limit : goal.returns-in-Ok-clause-limit
returns-in-Ok-clause-limit g c =
    let read = c.in-Ok.ensures.read in
    within {E = AllocError} g.S.Source.left c.args.to_head _ _ _ _ (Ok c.in-Ok.reply) (read.0, read.1, read.2, same_reply Halt AllocError c.args.to_head _ read.1 _ _ c.in-Ok.reply read.3)
