use Rattle.hub_catalog.proofs.Rounding.{found_next, found_refused, record_grown}
use Rattle.hub_catalog.proofs.caller.Caller.found.Goals as goal

pub returns-in-Fits-clause-next : goal.returns-in-Fits-clause-next
returns-in-Fits-clause-next g c =
    found_next c.publish.result (record { load = c.in-Fits.load; edit = c.args.edit.now }) c.args.number _ _ c.args.pass.now c.allow.new.pass c.publish.new.pass c.allow.ensures.same.number c.allow.ensures.goes c.publish.ensures.published
    (record_grown _ _ c.args.number c.args.edit.now c.allow.ensures.looked.grows c.requires.stored, c.in-Fits.ensures.allowed.2)

pub returns-in-Refused-clause-next : goal.returns-in-Refused-clause-next
returns-in-Refused-clause-next g c =
    found_refused c.end.result c.args.number c.args.edit.now _ _ _ c.args.pass.now c.allow.new.pass c.end.new.pass c.end.ensures.ended.0 c.allow.ensures.same.number c.end.ensures.same.number c.requires.begun.count c.allow.ensures.goes
    (record_grown _ _ c.args.number c.args.edit.now c.allow.ensures.looked.grows c.requires.stored) c.in-Refused.ensures.allowed c.end.ensures.ended.1
