use Rattle.signed_link.proofs.Read.{one_link}
use Rattle.signed_link.proofs.signed.one_link.Goals as goal

pub returns : goal.returns
returns c = one_link
