use Rattle.share_serve.proofs.Worlds.{worlds_same}
use Rattle.share_serve.proofs.law.equal_views_write_the_same.Goals as goal

pub returns : goal.returns
returns c = worlds_same c.one_reading.ensures
