use Rattle.share_reply.proofs.RevokedLemmas.{unbound_tables_give_nothing}
use Rattle.share_reply.proofs.law.unbound_tables_give_nothing.Goals as goal

pub returns : goal.returns
returns c = unbound_tables_give_nothing
