use Rattle.signed_link.proofs.PartsOf.{links_are_spelt, spellings_are_read}
use Rattle.signed_link.proofs.signed.links_are_spelt.Goals as goal

pub returns-clause-found : goal.returns-clause-found
returns-clause-found c = links_are_spelt

pub returns-clause-every : goal.returns-clause-every
returns-clause-every c = spellings_are_read
