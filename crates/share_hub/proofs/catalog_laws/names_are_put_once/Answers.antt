use Rattle.share_hub.proofs.CatalogRecording.{names_once, numbers_once}
use Rattle.share_hub.proofs.catalog_laws.names_are_put_once.Goals as goal

pub returns-clause-names : goal.returns-clause-names
returns-clause-names c = names_once

pub returns-clause-numbers : goal.returns-clause-numbers
returns-clause-numbers c = numbers_once
