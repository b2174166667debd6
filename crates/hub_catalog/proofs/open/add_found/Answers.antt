use Rattle.std.proofs.Common.{refl}
use Rattle.hub_catalog.proofs.Opening.{added_in}
use Rattle.hub_catalog.proofs.Rounding.{record_grown}
use Rattle.hub_catalog.proofs.open.add_found.Goals as goal

pub returns-in-Fits-clause-added : goal.returns-in-Fits-clause-added
returns-in-Fits-clause-added g c =
    added_in c.publish.result (record { load = c.in-Fits.load; edit = c.args.edit.now }) c.args.number _ _ c.args.book.now.past.history _ c.publish.ensures.added
    (record_grown _ _ c.args.number c.args.edit.now c.allow.ensures.looked.grows c.requires.stored, (c.in-Fits.ensures.allowed c.args.book.now.past.history c.check_in-checked.ensures).2)

pub returns-in-Refused-clause-added : goal.returns-in-Refused-clause-added
returns-in-Refused-clause-added g c =
    (refl, (c.args.edit.now, record_grown _ _ c.args.number c.args.edit.now c.allow.ensures.looked.grows c.requires.stored, c.in-Refused.ensures.allowed c.args.book.now.past.history c.check_in-checked.ensures))
