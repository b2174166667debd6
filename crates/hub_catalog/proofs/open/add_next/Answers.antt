use Rattle.log_store.proofs.Growing.{looked_more}
use Rattle.hub_catalog.proofs.Opening.{adds_wider}
use Rattle.hub_catalog.proofs.open.add_next.Goals as goal

pub returns-in-Ok-Edit-clause-added : goal.returns-in-Ok-Edit-clause-added
returns-in-Ok-Edit-clause-added g c = adds_wider c.add_found.result c.args.number _ _ _ c.args.book.now.past.history _ c.read_record.ensures.looked.grows c.add_found.ensures.added

pub returns-in-Ok-Edit-clause-looked : goal.returns-in-Ok-Edit-clause-looked
returns-in-Ok-Edit-clause-looked g c = looked_more _ _ _ _ _ _ c.read_record.ensures.looked c.add_found.ensures.looked
