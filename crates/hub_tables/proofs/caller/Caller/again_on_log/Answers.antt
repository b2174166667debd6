use Rattle.hub_tables.proofs.CommitSteps.{again_blocked}
use Rattle.hub_tables.proofs.caller.Caller.again_on_log.Goals as goal

pub returns-in-Absent-clause-next : goal.returns-in-Absent-clause-next
returns-in-Absent-clause-next g c =
    again_blocked c.args.stored.now.location.now c.args.stored.now.log c.args.head.now c.next_commit.new.head (g.W.Store.objects c.args.store.now) (g.W.Store.objects c.next_commit.new.store) c.args.pass.now c.next_commit.new.pass c.block_log.new.pass
    c.requires.begun c.in-Absent.ensures.next.0 c.next_commit.ensures.looked.grows c.requires.exists c.in-Absent.ensures.next.2 c.block_log.ensures.blocked
