use Rattle.hub_catalog.proofs.Recording.{reads}
use Rattle.hub_catalog.proofs.record.read_record.Goals as goal

pub returns-in-Ok-fetch-clause-record : goal.returns-in-Ok-fetch-clause-record
returns-in-Ok-fetch-clause-record g c = reads _ _ _ c.in-Ok-fetch.fetched c.read_of.result c.in-Ok.ensures c.in-Ok-fetch.ensures.object c.read_of.ensures.read
