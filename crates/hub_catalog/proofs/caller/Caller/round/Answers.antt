use Rattle.hub_catalog.proofs.Rounding.{nexts_ended, rounds_same}
use Rattle.hub_catalog.proofs.Storing.{looked_leaves, round_after}
use Rattle.hub_catalog.proofs.caller.Caller.round.Goals as goal

pub returns-in-Absent-clause-round : goal.returns-in-Absent-clause-round
returns-in-Absent-clause-round g c = rounds_same c.own_round.result c.args.next.now.edit.now c.args.next.now.number _ _ _ c.args.pass.now c.next_record.new.pass c.own_round.new.pass c.in-Absent.ensures.next.0 c.next_record.ensures.looked.grows c.own_round.ensures.round

pub returns-in-Absent-clause-store : goal.returns-in-Absent-clause-store
returns-in-Absent-clause-store g c = round_after c.own_round.result c.args.next.now.edit.now c.args.next.now.number _ _ _ _ _ _ c.own_round.new.pass c.next_record.ensures.looked c.own_round.ensures.store

pub returns-in-End-clause-round : goal.returns-in-End-clause-round
returns-in-End-clause-round g c = nexts_ended c.end_of.result c.in-End.refusal c.args.next.now.edit.now c.args.next.now.number _ _ c.args.pass.now c.next_record.new.pass c.end_of.ensures c.in-End.ensures.next

pub returns-in-End-clause-store : goal.returns-in-End-clause-store
returns-in-End-clause-store g c = looked_leaves c.end_of.result c.args.next.now.edit.now _ _ _ _ c.next_record.new.pass c.next_record.ensures.looked
