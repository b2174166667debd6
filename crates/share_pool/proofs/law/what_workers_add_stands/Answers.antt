use Rattle.share_pool.proofs.Adding.{what_workers_add_stands}
use Rattle.share_pool.proofs.law.what_workers_add_stands.Goals as goal

pub returns : goal.returns
returns c = what_workers_add_stands c.catalog_refreshes_stand.ensures c.refreshes_stand.ensures c.what_is_added_stands.ensures
