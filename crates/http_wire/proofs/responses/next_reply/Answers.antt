use Rattle.std.proofs.Common.{Ok, Err}
use Rattle.std.proofs.lemmas.Result.{err_from_is_err_and}
use Rattle.http_wire.specs.declared.head.HeadRead.TheVariants as read
use Rattle.http_wire.proofs.Replies.{headless_read, headed_read}
use Rattle.http_wire.proofs.responses.next_reply.Goals as goal

pub returns-in_err-head-clause-read : goal.returns-in_err-head-clause-read
returns-in_err-head-clause-read g c =
    let p = err_from_is_err_and c.from_residual.result c.from_residual.ensures.1 in
    rw p.1 (headless_read g.S.Source.left c.args.to_head c.place-at.result _ _ _ _ (Err p.0) c.place-at.ensures c.in_err-head.ensures.read)

pub returns-in-Whole-clause-read : goal.returns-in-Whole-clause-read
returns-in-Whole-clause-read g c =
    headed_read g.S.Source.left c.args.to_head c.in-Whole.head c.in-Whole.field-1 c.place-at.result _ _ _ _ _ _ c.read_behind_head.result c.place-at.ensures (rw c.in-Whole.is at c.in_ok-head.ensures.read) c.read_behind_head.ensures.read

pub returns-in-Nothing-clause-read : goal.returns-in-Nothing-clause-read
returns-in-Nothing-clause-read g c =
    headless_read g.S.Source.left c.args.to_head c.place-at.result _ _ _ _ (Ok read.Nothing) c.place-at.ensures (rw c.in-Nothing.is at c.in_ok-head.ensures.read)

pub returns-in-Cut-clause-read : goal.returns-in-Cut-clause-read
returns-in-Cut-clause-read g c =
    headless_read g.S.Source.left c.args.to_head c.place-at.result _ _ _ _ (Ok read.Cut) c.place-at.ensures (rw c.in-Cut.is at c.in_ok-head.ensures.read)

pub returns-in-Refused-clause-read : goal.returns-in-Refused-clause-read
returns-in-Refused-clause-read g c =
    headless_read g.S.Source.left c.args.to_head c.place-at.result _ _ _ _ (Ok (read.Refused c.in-Refused.field-0)) c.place-at.ensures (rw c.in-Refused.is at c.in_ok-head.ensures.read)
