use Rattle.share_reply.proofs.RevokedLemmas.{revoked_grants_give_nothing}
use Rattle.share_reply.proofs.law.revoked_grants_give_nothing.Goals as goal

pub returns : goal.returns
returns c = revoked_grants_give_nothing
