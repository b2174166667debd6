use Rattle.http_wire.specs.declared.head.HeadRead.TheVariants as read
use Rattle.http_wire.specs.declared.inbox.Halt.{Halt}
use Rattle.http_wire.proofs.Replies.{head_alone}
use Rattle.std.proofs.lemmas.Result.{err_from_is_err_and}
use Rattle.http_wire.proofs.responses.final_head.Goals as goal

pub returns-in_err-head-clause-read : goal.returns-in_err-head-clause-read
returns-in_err-head-clause-read g c =
    let p = err_from_is_err_and c.from_residual.result c.from_residual.ensures.1 in
    let read = c.in_err-head.ensures.read in
    rw p.1 (read.0, read.1, read.2, tt)

pub returns-in-Whole-clause-read : goal.returns-in-Whole-clause-read
returns-in-Whole-clause-read g c =
    head_alone Halt g.S.Source.left c.place-at.result _ _ _ _ (read.Whole c.in-Whole.head c.in-Whole.field-1) c.place-at.ensures (rw c.in-Whole.is at c.in_ok-head.ensures.read)

pub returns-in-Nothing-clause-read : goal.returns-in-Nothing-clause-read
returns-in-Nothing-clause-read g c =
    head_alone Halt g.S.Source.left c.place-at.result _ _ _ _ read.Nothing c.place-at.ensures (rw c.in-Nothing.is at c.in_ok-head.ensures.read)

pub returns-in-Cut-clause-read : goal.returns-in-Cut-clause-read
returns-in-Cut-clause-read g c =
    head_alone Halt g.S.Source.left c.place-at.result _ _ _ _ read.Cut c.place-at.ensures (rw c.in-Cut.is at c.in_ok-head.ensures.read)

pub returns-in-Refused-clause-read : goal.returns-in-Refused-clause-read
returns-in-Refused-clause-read g c =
    head_alone Halt g.S.Source.left c.place-at.result _ _ _ _ (read.Refused c.in-Refused.field-0) c.place-at.ensures (rw c.in-Refused.is at c.in_ok-head.ensures.read)
