use Rattle.hub_catalog.proofs.Rounding.{end_refused, rounds_goes}
use Rattle.hub_catalog.proofs.Storing.{ended_store, round_after}
use Rattle.hub_catalog.proofs.caller.Caller.own_round.Goals as goal

pub returns-in-Fits-clause-round : goal.returns-in-Fits-clause-round
returns-in-Fits-clause-round g c =
    rounds_goes c.own.result c.args.next.now.edit.now c.args.next.now.number _ _ c.args.pass.now c.allow.new.pass c.own.new.pass c.allow.ensures.same.number c.allow.ensures.goes (c.own.ensures.round _ c.allow.ensures.looked.grows c.in-Fits.ensures.allowed.2)

pub returns-in-Fits-clause-store : goal.returns-in-Fits-clause-store
returns-in-Fits-clause-store g c = round_after c.own.result c.args.next.now.edit.now c.args.next.now.number _ _ _ _ _ _ c.own.new.pass c.allow.ensures.looked c.own.ensures.store

pub returns-in-Refused-clause-round : goal.returns-in-Refused-clause-round
returns-in-Refused-clause-round g c =
    end_refused c.end_edit.result c.in-Refused.refusal c.args.next.now.edit.now c.args.next.now.number _ _ c.args.pass.now c.allow.new.pass c.end_edit.new.pass c.end_edit.ensures.ended.0 c.allow.ensures.same.number c.end_edit.ensures.same.number c.requires.begun.count c.allow.ensures.goes c.in-Refused.ensures.allowed c.requires.absent c.end_edit.ensures.ended.1

pub returns-in-Refused-clause-store : goal.returns-in-Refused-clause-store
returns-in-Refused-clause-store g c = ended_store c.end_edit.result _ c.args.next.now.edit.now c.args.next.now.number _ _ _ _ c.end_edit.new.pass c.end_edit.ensures.ended.0 c.allow.ensures.looked
