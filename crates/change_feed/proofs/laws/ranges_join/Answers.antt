use Rattle.change_feed.proofs.LawLemmas as law
use Rattle.change_feed.proofs.laws.ranges_join.Goals as goal

pub returns : goal.returns
returns c = law.ranges_join
