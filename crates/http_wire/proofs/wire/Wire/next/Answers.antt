use Rattle.std.proofs.Common.{Ok}
use Rattle.std.specs.declared.alloc.AllocError.{AllocError}
use Rattle.http_wire.specs.declared.inbox.Halt.{Halt}
use Rattle.http_wire.proofs.Wires.{spared_read, told_read, within, same_answer}
use Rattle.http_wire.proofs.wire.Wire.next.Goals as goal

pub returns-in-Ok-clause-spared : goal.returns-in-Ok-clause-spared
returns-in-Ok-clause-spared g c =
    let read = c.in-Ok.ensures.read in
    rw (← c.self.view_is) (spared_read g.S.Source.left _ _ _ _ read.0 read.1 read.2)

pub returns-after-halt-clause-spared : goal.returns-after-halt-clause-spared
returns-after-halt-clause-spared g c =
    let read = c.in-Err.ensures.read in
    rw (← c.self.view_is) (spared_read g.S.Source.left _ _ _ _ read.0 read.1 read.2)

pub returns-in-Ok-clause-told : goal.returns-in-Ok-clause-told
returns-in-Ok-clause-told g c =
    let read = c.in-Ok.ensures.read in
    rw (← c.self.view_is) (told_read g.S.Source.left _ _ _ _ (Ok c.in-Ok.message) (read.0, read.1, read.2, same_answer Halt AllocError _ read.1 _ _ c.in-Ok.message read.3))

pub returns-in-Ok-clause-limit : goal.returns-in-Ok-clause-limit
returns-in-Ok-clause-limit g c =
    let read = c.in-Ok.ensures.read in
    within {E = AllocError} g.S.Source.left _ _ _ _ (Ok c.in-Ok.message) (read.0, read.1, read.2, same_answer Halt AllocError _ read.1 _ _ c.in-Ok.message read.3)
