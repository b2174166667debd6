use Rattle.share_serve.proofs.Ended.{ends_same}
use Rattle.share_serve.proofs.law.ends_the_same.Goals as goal

pub returns : goal.returns
returns c = ends_same c.one_reading.ensures
