use Rattle.share_serve.proofs.Acknowledged.{are_puts}
use Rattle.share_serve.proofs.law.acknowledgements_are_puts.Goals as goal

pub returns : goal.returns
returns c = are_puts
