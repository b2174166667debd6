use Rattle.page_token.proofs.CursorOf.{cursors_are_spelt, spellings_are_read}
use Rattle.page_token.proofs.token.cursors_are_spelt.Goals as goal

pub returns-clause-found : goal.returns-clause-found
returns-clause-found c = cursors_are_spelt

pub returns-clause-every : goal.returns-clause-every
returns-clause-every c = spellings_are_read
