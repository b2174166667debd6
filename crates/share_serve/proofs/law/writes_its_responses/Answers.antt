use Rattle.share_serve.proofs.Told.{tells}
use Rattle.share_serve.proofs.law.writes_its_responses.Goals as goal

pub returns : goal.returns
returns c = tells
