use Rattle.share_serve.proofs.Told.{reads}
use Rattle.share_serve.proofs.law.reads_its_requests.Goals as goal

pub returns : goal.returns
returns c = reads
