use Rattle.share_serve.proofs.WholeBytes.{whole_requests}
use Rattle.share_serve.proofs.law.whole_requests_are_answered.Goals as goal

pub returns : goal.returns
returns c = whole_requests c.one_reading.ensures
