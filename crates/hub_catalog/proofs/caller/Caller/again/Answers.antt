use Rattle.hub_catalog.proofs.Rounding.{again_gone, nexts_ended}
use Rattle.hub_catalog.proofs.Storing.{ended_store, looked_leaves}
use Rattle.hub_catalog.proofs.caller.Caller.again.Goals as goal

pub returns-in-Absent-clause-round : goal.returns-in-Absent-clause-round
returns-in-Absent-clause-round g c =
    again_gone c.end_edit.result c.args.next.now.edit.now c.args.next.now.number _ _ c.args.pass.now c.next_record.new.pass c.end_edit.new.pass c.in-Absent.ensures.next.0 c.end_edit.ensures.ended.0 c.end_edit.ensures.same.number c.requires.begun.count c.next_record.ensures.looked.grows c.requires.exists c.in-Absent.ensures.next.1 c.end_edit.ensures.ended.1

pub returns-in-Absent-clause-store : goal.returns-in-Absent-clause-store
returns-in-Absent-clause-store g c = ended_store c.end_edit.result _ c.args.next.now.edit.now c.args.next.now.number _ _ _ _ c.end_edit.new.pass c.end_edit.ensures.ended.0 c.next_record.ensures.looked

pub returns-in-End-clause-round : goal.returns-in-End-clause-round
returns-in-End-clause-round g c = nexts_ended c.end_of.result c.in-End.refusal c.args.next.now.edit.now c.args.next.now.number _ _ c.args.pass.now c.next_record.new.pass c.end_of.ensures c.in-End.ensures.next

pub returns-in-End-clause-store : goal.returns-in-End-clause-store
returns-in-End-clause-store g c = looked_leaves c.end_of.result c.args.next.now.edit.now _ _ _ _ c.next_record.new.pass c.next_record.ensures.looked
