use Rattle.change_feed.proofs.LawLemmas as law
use Rattle.change_feed.proofs.laws.versions_stand_alone.Goals as goal

pub returns : goal.returns
returns c = law.versions_stand_alone
