use Rattle.share_hub.proofs.CatalogNodes.{edits_once}
use Rattle.share_hub.proofs.TableStores.{puts_one}
use Rattle.share_hub.proofs.table_laws.calls_put_at_most_one.Goals as goal

pub returns-clause-commits : goal.returns-clause-commits
returns-clause-commits c = puts_one

pub returns-clause-edits : goal.returns-clause-edits
returns-clause-edits c = edits_once
