use Rattle.hub_catalog.proofs.Refreshing.{refreshes}
use Rattle.hub_catalog.proofs.caller.Caller.refresh_catalog.Goals as goal

pub returns-in-There-clause-entries : goal.returns-in-There-clause-entries
returns-in-There-clause-entries g c =
    refreshes c.refresh_begun.result c.edit_count-edits.result _ _ _ c.args.pass.now c.edit_count-edits.new.pass c.refresh_begun.new.pass c.edit_count-edits.ensures.same.number c.edit_count-edits.ensures.same.seen c.refresh_begun.ensures.same.seen c.edit_count-edits.ensures.count c.look_ahead.ensures.looked.grows c.refresh_begun.ensures.looked.grows c.edit_count-edits.ensures.added c.in-There.ensures.next c.refresh_begun.ensures.run
