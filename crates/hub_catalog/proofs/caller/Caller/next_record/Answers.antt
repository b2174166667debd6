use Rattle.log_store.proofs.Growing.{looked_more}
use Rattle.hub_catalog.proofs.Rounding.{nexts_wider}
use Rattle.hub_catalog.proofs.caller.Caller.next_record.Goals as goal

pub returns-in-Ok-Edit-clause-next : goal.returns-in-Ok-Edit-clause-next
returns-in-Ok-Edit-clause-next g c = nexts_wider c.found.result c.args.number _ _ _ c.args.pass.now c.found.new.pass c.read_record.ensures.looked.grows c.found.ensures.next

pub returns-in-Ok-Edit-clause-looked : goal.returns-in-Ok-Edit-clause-looked
returns-in-Ok-Edit-clause-looked g c = looked_more _ _ _ _ _ _ c.read_record.ensures.looked c.found.ensures.looked
